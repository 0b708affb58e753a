-- `answering::show_uncovered` meets its contract.
use Rattle.packed.specs.Calls.{judged}
use Rattle.containment.specs.Show.{show_outcome}
use Rattle.answering.proofs.show_uncovered.Goals as goal

pub returns : goal.returns
unfolding show_outcome judged
returns c = c.show_for.ensures
