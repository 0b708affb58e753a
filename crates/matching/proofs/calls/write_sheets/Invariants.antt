-- `matching::calls::write_sheets` meets its contract.
use Rattle.matching.specs.Books.{lists_at, SheetsWritten}
use Rattle.matching.proofs.BookLaws.{Walk}
use Rattle.matching.proofs.calls.write_sheets.Given as goal

abbrev pub invariant-loop-j : goal.invariant-loop-j
invariant-loop-j l = Walk l.edges l.a l.b l.o l.j × SheetsWritten (lists_at l.edges l.a l.d l.work) l.a l.j l.begin l.initial.out l.at l.out
