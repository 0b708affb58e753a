-- `answering::demands::cheapest_sets` meets its contract.
use Rattle.answering.proofs.CheapestSets.{cheapests}
use Rattle.answering.proofs.demands.cheapest_sets.Goals as goal

pub returns : goal.returns
returns c = cheapests
