-- `answering::show_on` meets its contract.
use Rattle.containment.specs.Terms.{show_on}
use Rattle.answering.proofs.show_on.Goals as goal

pub returns : goal.returns
unfolding show_on
returns c = c.show_for.ensures
