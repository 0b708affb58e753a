-- `packed::pattern::note` meets its contract.
use mathlib.Core.Path.{refl}
use Prim.Native.Nat.{◌^◌}
use native.Mathlib.Nat.{one-mul, mod-eq_of_lt}
use lib.Pow.{pow-lt}
use Rattle.packed.proofs.pattern.note.Goals as goal

pub returns : goal.returns
returns c =
    let k = c.args.k in
    rw (c.place-at.ensures.0, one-mul (2 ^ k), mod-eq_of_lt (pow-lt {j = 8} c.requires.2)) refl
