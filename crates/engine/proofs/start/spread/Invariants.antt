-- `engine::start::spread` meets its contract.
use Rattle.engine.proofs.StartLaws.{Spreading}
use Rattle.engine.proofs.start.spread.Given as goal

abbrev pub invariant-loop-v : goal.invariant-loop-v
invariant-loop-v l = Spreading l.s l.n l.used l.leaving l.arriving l.initial.leave l.initial.arrive l.initial.held l.leave l.arrive l.held l.v
