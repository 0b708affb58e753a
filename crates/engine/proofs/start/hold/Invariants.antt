-- `engine::start::hold` meets its contract.
use Rattle.engine.proofs.StartLaws.{Holding}
use Rattle.engine.proofs.start.hold.Given as goal

abbrev pub invariant-loop-i : goal.invariant-loop-i
invariant-loop-i l = Holding l.t l.d l.initial.work l.work l.i
