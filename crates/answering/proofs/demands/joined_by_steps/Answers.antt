-- `answering::demands::joined_by_steps` meets its contract.
use Rattle.answering.proofs.DemandSteps.{by_steps}
use Rattle.answering.proofs.demands.joined_by_steps.Goals as goal

pub returns : goal.returns
returns g c = by_steps g.K.Choice.kept g.L.Choice.kept
