-- `bits::put_inside` meets its contract.
use mathlib.Core.Path.{refl}
use Prim.Native.Nat.{◌-◌, ◌%◌}
use native.Mathlib.Omega.{arith}
use Rattle.packed.proofs.BitFields.{moved, moved_clear, put_bytes}
use Rattle.packed.proofs.bits.put_inside.Goals as goal

pub patch_high-requires : goal.patch_high-requires
patch_high-requires c =
    let a = c.args in
    (omega arith, omega arith, moved_clear a.v (8 - a.at % 8) (omega arith) c.requires.1)

pub returns : goal.returns
returns c =
    let a = c.args in
    put_bytes _ a.at _ a.v _ _ _ refl (moved a.v (8 - a.at % 8) (omega arith) c.requires.1) c.patch_byte.ensures c.patch_high.ensures
