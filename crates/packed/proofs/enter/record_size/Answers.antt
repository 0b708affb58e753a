-- `packed::enter::record_size` meets its contract.
use borrow.Author.Rules.{rules}
use Rattle.packed.specs.Entered.{record_length}
use Rattle.packed.proofs.enter.record_size.Goals as goal

pub returns : goal.returns
unfolding record_length
returns c = search rules
