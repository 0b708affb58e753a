-- `answering::demands::sorted_records` meets its contract.
use Rattle.answering.proofs.Sorting.{sorting}
use Rattle.answering.proofs.demands.sorted_records.Goals as goal

pub returns : goal.returns
returns g c = sorting g.R.Relation.holds
