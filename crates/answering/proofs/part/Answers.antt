-- `answering::part` meets its contract.
use Rattle.packed.specs.Calls.{judged}
use Rattle.containment.specs.Part.{part_outcome}
use Rattle.answering.proofs.part.Goals as goal

pub returns : goal.returns
unfolding part_outcome judged
returns c = c.part_for.ensures
