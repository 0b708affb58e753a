-- `answering::demands::asking` meets its contract.
use Rattle.answering.proofs.Asking.{asking}
use Rattle.answering.proofs.demands.asking.Goals as goal

pub returns : goal.returns
returns c = asking
