-- `bits::get_bits` meets its contract.
use native.Mathlib.Omega.{arith}
use Rattle.packed.proofs.BitFields.{field_coded}
use Rattle.packed.proofs.bits.get_bits.Goals as goal

pub returns : goal.returns
returns c =
    let a = c.args in
    field_coded a.s.now a.at a.n c.get_bytes-v.result (omega arith) (omega arith) c.get_bytes-v.ensures
