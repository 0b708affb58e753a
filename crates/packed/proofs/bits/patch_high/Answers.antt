-- `bits::patch_high` meets its contract.
use mathlib.Core.Path.{ap, ◌∙◌}
use Prim.Native.Nat.{ℕ, ◌+◌, ◌%◌}
use native.Mathlib.Omega.{arith}
use Rattle.packed.specs.Bits.{bits_of}
use Rattle.packed.proofs.BitFields.{pow_word, high_lt, bits_of_high}
use Rattle.packed.proofs.bits.patch_high.Goals as goal

pub overflow_cast-result-2 : goal.overflow_cast-result-2
overflow_cast-result-2 c =
    let a = c.args in
    rw (pow_word a.m 32 (omega arith)) (omega (arith, high_lt a.x a.m a.c c.requires.0 c.requires.1 c.requires.2 (omega (arith, c.ranges.x))))

pub returns : goal.returns
returns c =
    let a = c.args in
    ap (λ (k : ℕ). bits_of 8 (a.c + a.x % k)) (pow_word a.m 32 (omega arith)) ∙ bits_of_high a.x a.m a.c c.requires.0 c.requires.1 c.requires.2 (omega (arith, c.ranges.x))
