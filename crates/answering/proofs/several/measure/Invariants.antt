-- `answering::several::measure` meets its contract.
use Rattle.answering.specs.SeveralSteps.{Answerable}
use Rattle.answering.proofs.SeveralAnswers.{Measuring}
use Rattle.answering.proofs.several.measure.Given as goal

abbrev pub invariant-loop-i : goal.invariant-loop-i
invariant-loop-i l = (x : Answerable l.a.file.now l.a.number l.a.tables.now l.a.used l.b.book.now l.b.counts l.b.views l.b.number l.initial.work) → Measuring x l.each l.total l.long l.edges l.byte l.i l.work
