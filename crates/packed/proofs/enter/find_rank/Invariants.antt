-- `packed::enter::find_rank` meets its contract.
use Rattle.packed.proofs.EnteringLaws.{Looked}
use Rattle.packed.proofs.enter.find_rank.Given as goal

abbrev pub invariant-loop-i : goal.invariant-loop-i
invariant-loop-i l = Looked l.rank l.work l.m l.n l.i
