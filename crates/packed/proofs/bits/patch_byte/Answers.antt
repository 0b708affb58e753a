-- `bits::patch_byte` meets its contract.
use mathlib.Core.Path.{ap, ◌∙◌}
use native.Mathlib.Omega.{arith}
use Rattle.packed.specs.Bits.{bits_of}
use Rattle.packed.proofs.BitFields.{patch_lt, patch_coded, bits_of_patch}
use Rattle.packed.proofs.bits.patch_byte.Goals as goal

pub overflow_cast-result : goal.overflow_cast-result
overflow_cast-result c =
    let a = c.args in
    omega (arith, patch_coded a.x a.k a.m a.c (omega arith) c.requires.1 (omega (arith, c.ranges.x)), patch_lt a.x a.k a.m a.c (omega arith) c.requires.1 (omega (arith, c.ranges.x)))

pub returns : goal.returns
returns c =
    let a = c.args in
    ap (bits_of 8) (patch_coded a.x a.k a.m a.c (omega arith) c.requires.1 (omega (arith, c.ranges.x)))
    ∙ bits_of_patch a.x a.k a.m a.c (omega arith) c.requires.1
