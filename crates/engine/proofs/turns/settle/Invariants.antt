-- `engine::turns::settle` meets its contract.
use Rattle.engine.proofs.TurnLaws.{Turning, measure}
use Rattle.engine.proofs.turns.settle.Given as goal

abbrev pub invariant-loop-rule : goal.invariant-loop-rule
invariant-loop-rule l = Turning l.pairs.n l.rule.due l.rule.back l.pairs.d l.tables.leaving.now l.tables.arriving.now l.tables.ending.now l.tables.starting.now l.pairs.work.now l.initial.leave l.initial.arrive l.leave l.arrive l.set

abbrev pub decreases-loop-rule : goal.decreases-loop-rule
decreases-loop-rule l = measure l.pairs.n l.leave l.arrive l.set
