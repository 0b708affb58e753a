-- `answering::demands::several_questions` meets its contract.
use Rattle.answering.proofs.Severals.{severals}
use Rattle.answering.proofs.demands.several_questions.Goals as goal

pub returns : goal.returns
returns c = severals
