-- `matching::candidates::take_lists` meets its contract.
use Rattle.matching.proofs.TakingSheets.{TakingSheet}
use Rattle.matching.proofs.candidates.take_lists.Given as goal

abbrev pub invariant-loop-f : goal.invariant-loop-f
invariant-loop-f l = TakingSheet l.s l.start l.lists l.t l.a l.m l.d l.initial.work l.work l.at l.f
