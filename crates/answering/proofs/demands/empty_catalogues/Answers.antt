-- `answering::demands::empty_catalogues` meets its contract.
use Rattle.answering.proofs.EmptyCatalogues.{empty_catalogues}
use Rattle.answering.proofs.demands.empty_catalogues.Goals as goal

pub returns : goal.returns
returns c = empty_catalogues
