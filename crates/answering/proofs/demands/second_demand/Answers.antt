-- `answering::demands::second_demand` meets its contract.
use Rattle.answering.proofs.DemandsOneTwo.{demand_2}
use Rattle.answering.proofs.demands.second_demand.Goals as goal

pub returns : goal.returns
returns g c = demand_2 g.R.Relation.holds
