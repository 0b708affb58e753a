-- `answering::answer` meets its contract.
use borrow.Author.Rules.{rules}
use lib.ListN.{length}
use native.Mathlib.Omega.{arith}
use Rattle.packed.proofs.CallLaws.{settles_small, settles_lent}
use Rattle.matching.specs.Offered.{brings}
use Rattle.containment.specs.Answer.{answer_outcome}
use Rattle.answering.proofs.answer.Goals as goal

pub returns : goal.returns
returns c =
    let a = c.args in
    settles_small (answer_outcome a.question.now (brings a.catalogue.now a.one_way) a.book.now (length a.out.now)) a.out.now a.work.now (omega arith)

pub returns-2 : goal.returns-2
returns-2 c =
    let a = c.args in
    settles_lent (answer_outcome a.question.now (brings a.catalogue.now a.one_way) a.book.now (length a.out.now)) a.out.now a.work.now c.answer.new.work (omega arith)
    (rw c.from.ensures at c.answer.ensures) c.answer.auto.work (search rules)
