-- `listing::has` meets its contract.
use Rattle.engine.specs.Simulation.{bit}
use borrow.Author.Rules.{rules}
use Rattle.listing.proofs.lines.has.Goals as goal

pub returns : goal.returns
unfolding bit
returns c = search rules
