use Rattle.folder.proofs.ListLaws.{list_reads}
use Rattle.folder.proofs.numbers.read_list.Goals as goal

pub returns : goal.returns
returns g c = rw (c.list_of.ensures _) (list_reads _ _ _ c.read-text.ensures)
