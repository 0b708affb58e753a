-- `answering::demands::first_demand` meets its contract.
use Rattle.answering.proofs.DemandsOneTwo.{demand_1}
use Rattle.answering.proofs.demands.first_demand.Goals as goal

pub returns : goal.returns
returns c = demand_1
