-- `matching::candidates::take_book` meets its contract.
use Rattle.matching.proofs.TakingSheets.{TakingBook}
use Rattle.matching.proofs.candidates.take_book.Given as goal

abbrev pub invariant-loop-a : goal.invariant-loop-a
invariant-loop-a l = TakingBook l.s l.counts l.k l.t l.set l.m l.d l.initial.work l.work l.at l.a
