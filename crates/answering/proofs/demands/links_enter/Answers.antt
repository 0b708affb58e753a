-- `answering::demands::links_enter` meets its contract.
use Rattle.answering.proofs.Entering.{entering}
use Rattle.answering.proofs.demands.links_enter.Goals as goal

pub returns : goal.returns
returns c = entering
