-- `containment::quote_on` meets its contract.
use Rattle.containment.specs.Terms.{quote_on}
use Rattle.containment.proofs.quote_on.Goals as goal

pub returns : goal.returns
unfolding quote_on
returns c = c.quote_for.ensures
