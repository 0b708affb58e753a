-- `answering::demands::third_demand` meets its contract.
use Rattle.answering.proofs.DemandThree.{demand_3}
use Rattle.answering.proofs.demands.third_demand.Goals as goal

pub returns : goal.returns
returns c = demand_3
