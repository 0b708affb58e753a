-- `matching::batches::fill` meets its contract.
use Rattle.matching.proofs.BatchLaws.{Filling}
use Rattle.matching.proofs.batches.fill.Given as goal

abbrev pub invariant-loop-next : goal.invariant-loop-next
invariant-loop-next l = Filling l.catalogue l.one_way l.k l.a l.b l.at l.next
