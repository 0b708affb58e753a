use Rattle.engine.proofs.SettlingLaws.{Settling}
use Rattle.engine.proofs.sweeps.settle.Given as goal

abbrev pub invariant-loop-v : goal.invariant-loop-v
invariant-loop-v l = Settling l.n l.due l.leaving l.arriving l.initial.leave l.initial.arrive l.initial.held l.leave l.arrive l.held l.lost l.v
