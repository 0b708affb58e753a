-- `containment::choose::take_views` meets its contract.
use Rattle.containment.proofs.MaskedLaws.{Taking}
use Rattle.containment.proofs.choose.take_views.Given as goal

abbrev pub invariant-loop-a : goal.invariant-loop-a
invariant-loop-a l = Taking l.masks l.set l.k l.a l.first l.matched
