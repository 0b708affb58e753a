-- `bits::put_chunk` meets its contract.
use mathlib.Core.Path.{sym}
use native.Mathlib.Omega.{arith}
use Rattle.packed.specs.Bits.{bits, bits_of}
use Rattle.packed.proofs.Sets.{sets_beyond}
use Rattle.packed.proofs.BitsLaws.{length-bits}
use Rattle.packed.proofs.BitFields.{put_inside}
use Rattle.packed.proofs.bits.put_chunk.Goals as goal

pub returns-then-q-out : goal.returns-then-q-out
returns-then-q-out c =
    let a = c.args in
    put_inside a.out.now a.p a.k a.c c.patch_byte.result (omega arith) c.patch_byte.ensures

pub returns-else-q-out : goal.returns-else-q-out
returns-else-q-out c =
    let a = c.args in
    sym (sets_beyond (bits a.out.now) a.p (bits_of a.k a.c) (omega (arith, length-bits a.out.now)))
