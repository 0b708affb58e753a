-- `matching::asking::views_with` meets its contract.
use Rattle.matching.specs.Asking.{ListsBy}
use Rattle.matching.proofs.BookLaws.{Walk}
use Rattle.matching.proofs.asking.views_with.Given as goal

abbrev pub invariant-loop-j : goal.invariant-loop-j
invariant-loop-j l = Walk l.edges l.a l.b l.o l.j × ListsBy l.edges l.a l.j l.x l.named l.set
