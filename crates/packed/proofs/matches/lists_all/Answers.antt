-- `packed::matches::lists_all` meets its contract.
use mathlib.Core.Path.{ap, ◌∙◌}
use Prim.Native.Nat.{ℕ, ◌-◌, ◌^◌}
use lib.Dec.{eqb}
use native.Mathlib.Omega.{arith}
use Rattle.packed.proofs.BitFields.{pow_word}
use Rattle.packed.proofs.NamedLaws.{all_named}
use Rattle.packed.proofs.matches.lists_all.Goals as goal

pub returns : goal.returns
returns c =
    let a = c.args in
    λ n w t.
    rw (pow_word a.m 64 (omega arith))
    (ap (λ (k : ℕ). eqb k (2 ^ a.m - 1)) c.bits_from.ensures ∙ all_named a.o n a.m w a.named t (omega arith))
