-- `answering::demands::answers` meets its contract.
use Rattle.answering.proofs.DemandThree.{answers}
use Rattle.answering.proofs.demands.answers.Goals as goal

pub returns : goal.returns
returns g c = answers g.L.Choice.kept
