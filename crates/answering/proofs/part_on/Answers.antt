-- `answering::part_on` meets its contract.
use Rattle.containment.specs.Terms.{part_on}
use Rattle.answering.proofs.part_on.Goals as goal

pub returns : goal.returns
unfolding part_on
returns c = c.part_for.ensures
