-- `matching::steps::run_pruned` meets its contract.
use Rattle.matching.proofs.SteppingLaws.{ran_alone, ran_pruned}
use Rattle.matching.proofs.steps.run_pruned.Goals as goal

pub returns-then-pruned : goal.returns-then-pruned
returns-then-pruned c = ran_pruned c.run-settled.ensures c.if-pruned.true c.prune.ensures

pub returns-else-pruned : goal.returns-else-pruned
returns-else-pruned c = ran_alone c.run-settled.ensures c.if-pruned.false
