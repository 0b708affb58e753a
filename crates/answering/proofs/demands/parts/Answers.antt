-- `answering::demands::parts` meets its contract.
use Rattle.answering.proofs.Parts.{parts}
use Rattle.answering.proofs.demands.parts.Goals as goal

pub returns : goal.returns
returns c = parts
