use Rattle.engine.proofs.SweepingLaws.{Running}
use Rattle.engine.proofs.sweeps.sweep.Given as goal

abbrev pub invariant-loop-i : goal.invariant-loop-i
invariant-loop-i l = Running l.d l.leave l.arrive l.free l.initial.work l.initial.held l.work l.held l.i l.last l.run
