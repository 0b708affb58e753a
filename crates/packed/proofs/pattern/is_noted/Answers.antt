-- `packed::pattern::is_noted` meets its contract.
use mathlib.Core.Path.{ap}
use Prim.Native.Nat.{ℕ}
use lib.ListN.{get_or}
use Rattle.packed.specs.Matches.{marks}
use Rattle.packed.proofs.pattern.is_noted.Goals as goal

pub returns : goal.returns
returns c =
    let a = c.args in
    unfold marks in ap (λ (i : ℕ). marks a.k (get_or a.kinds.now i 0)) c.place-at.ensures.0
