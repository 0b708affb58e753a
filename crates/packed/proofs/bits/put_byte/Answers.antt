-- `bits::put_byte` meets its contract.
use mathlib.Core.Path.{sym}
use Prim.Native.Nat.{◌*◌}
use native.Mathlib.Omega.{arith}
use Rattle.packed.specs.Bits.{bits, bits_of}
use Rattle.packed.proofs.Sets.{sets_beyond}
use Rattle.packed.proofs.BitsLaws.{length-bits}
use Rattle.packed.proofs.BitFields.{put_whole}
use Rattle.packed.proofs.bits.put_byte.Goals as goal

pub returns-then-q-out : goal.returns-then-q-out
returns-then-q-out c = put_whole _ _ _

pub returns-else-q-out : goal.returns-else-q-out
returns-else-q-out c =
    let a = c.args in
    sym (sets_beyond (bits a.out.now) (8 * a.q) (bits_of 8 a.c) (omega (arith, length-bits a.out.now)))
