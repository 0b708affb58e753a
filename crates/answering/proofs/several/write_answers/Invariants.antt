-- `answering::several::write_answers` meets its contract.
use Rattle.answering.specs.SeveralSteps.{Answerable, answers_of, Writable}
use Rattle.answering.proofs.SeveralAnswers.{Filling}
use Rattle.answering.proofs.several.write_answers.Given as goal

abbrev pub invariant-loop-i : goal.invariant-loop-i
invariant-loop-i l = (x : Answerable l.a.file.now l.a.number l.a.tables.now l.a.used l.b.book.now l.b.counts l.b.views l.b.number l.initial.work) → Writable (answers_of x) l.number l.a.number l.sizes l.initial.out → Filling x l.number l.initial.out l.at l.byte l.i l.out l.work
