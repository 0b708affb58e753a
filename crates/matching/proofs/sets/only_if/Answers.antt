-- `matching::sets::only_if` meets its contract.
use Rattle.matching.proofs.sets.only_if.Goals as goal

pub returns-then-b : goal.returns-then-b
returns-then-b c = rw c.if-b.true c.only.ensures

pub returns : goal.returns
returns c = rw c.if-b.false
