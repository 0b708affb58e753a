-- `answering::answer_from` meets its contract.
use borrow.Author.Rules.{rules}
use lib.ListN.{length}
use native.Mathlib.Omega.{arith}
use Rattle.packed.proofs.CallLaws.{settles_small, settles_lent}
use Rattle.matching.specs.Offered.{brings}
use Rattle.containment.specs.Answer.{answer_from}
use Rattle.answering.proofs.answer_from.Goals as goal

pub returns : goal.returns
returns c =
    let a = c.args in
    settles_small (answer_from a.question.now (brings a.catalogue.now a.one_way) a.set a.book.now (length a.out.now)) a.out.now a.work.now (omega arith)

pub returns-2 : goal.returns-2
returns-2 c =
    let a = c.args in
    settles_lent (answer_from a.question.now (brings a.catalogue.now a.one_way) a.set a.book.now (length a.out.now)) a.out.now a.work.now c.answer_from.new.work (omega arith)
    (rw (c.from.ensures, c.from-2.ensures) at c.answer_from.ensures) c.answer_from.auto.work (search rules)
