-- `bits::is_clear` meets its contract.
use Rattle.packed.proofs.BitFields.{gap_zero}
use Rattle.packed.proofs.bits.is_clear.Goals as goal

pub returns : goal.returns
returns c = let a = c.args in rw c.get_bits.ensures (gap_zero a.s.now a.at)
