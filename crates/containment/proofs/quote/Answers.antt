-- `containment::quote` meets its contract.
use Rattle.packed.specs.Calls.{judged}
use Rattle.containment.specs.Quote.{quote_outcome}
use Rattle.containment.proofs.quote.Goals as goal

pub returns : goal.returns
unfolding quote_outcome judged
returns c = c.quote_for.ensures
