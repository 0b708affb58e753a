-- `matching::candidates::take_list` meets its contract.
use Rattle.matching.proofs.Taking.{Taking}
use Rattle.matching.proofs.candidates.take_list.Given as goal

abbrev pub invariant-loop-k : goal.invariant-loop-k
invariant-loop-k l = Taking l.s l.first l.n l.x l.d l.initial.work l.work l.i l.k
