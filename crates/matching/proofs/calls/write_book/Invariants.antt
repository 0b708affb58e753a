-- `matching::calls::write_book` meets its contract.
use Prim.Native.Nat.{◌-◌}
use mathlib.Core.Path.{◌≡◌}
use lib.ListN.{length}
use Rattle.engine.specs.Starting.{NodeRoom}
use Rattle.matching.specs.Books.{BookWritten}
use Rattle.matching.proofs.BookLaws.{BatchesPast}
use Rattle.matching.proofs.calls.write_book.Given as goal

abbrev pub invariant-loop-a : goal.invariant-loop-a
invariant-loop-a l = BatchesPast l.catalogue l.k l.initial.work l.first l.byte l.a l.work × BookWritten l.catalogue l.one_way l.record l.n l.m l.initial.work l.first l.a l.start l.initial.out l.at l.out × NodeRoom l.n l.leave l.arrive l.held × (length l.leave ≡ length l.initial.leave) × (length l.arrive ≡ length l.initial.arrive) × (length l.held ≡ length l.initial.held)

abbrev pub decreases-loop-a : goal.decreases-loop-a
decreases-loop-a l = l.k - l.a
