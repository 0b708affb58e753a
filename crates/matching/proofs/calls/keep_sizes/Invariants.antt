-- `matching::calls::keep_sizes` meets its contract.
use Rattle.matching.specs.Books.{SizesKept}
use Rattle.matching.proofs.BookLaws.{Walk}
use Rattle.matching.proofs.calls.keep_sizes.Given as goal

abbrev pub invariant-loop-j : goal.invariant-loop-j
invariant-loop-j l = Walk l.edges l.a l.b l.o l.j × SizesKept l.edges l.a l.j l.c l.initial.sizes l.sizes
