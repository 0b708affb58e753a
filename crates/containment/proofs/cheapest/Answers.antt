-- `containment::cheapest` meets its contract.
use Rattle.packed.specs.Calls.{judged}
use Rattle.containment.specs.Cheapest.{cheapest_outcome}
use Rattle.containment.proofs.cheapest.Goals as goal

pub returns : goal.returns
unfolding cheapest_outcome judged
returns c = c.cheapest_for.ensures
