-- `containment::cheapest_on` meets its contract.
use Rattle.containment.specs.Terms.{cheapest_on}
use Rattle.containment.proofs.cheapest_on.Goals as goal

pub returns : goal.returns
unfolding cheapest_on
returns c = c.cheapest_for.ensures
