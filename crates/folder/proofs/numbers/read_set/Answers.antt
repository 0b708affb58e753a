use Rattle.folder.proofs.SetLaws.{set_reads}
use Rattle.folder.proofs.numbers.read_set.Goals as goal

pub returns : goal.returns
returns g c = rw c.set_of.ensures (set_reads _ _ _ c.read-text.ensures)
