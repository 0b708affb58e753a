-- `answering::answer_several` meets its contract.
use borrow.Author.Rules.{rules}
use mathlib.Core.Path.{refl}
use mathlib.Core.List.{[], ◌∷◌}
use lib.ListN.{length}
use native.Mathlib.Omega.{arith}
use Rattle.packed.proofs.CallLaws.{small_settled, lent_settled}
use Rattle.matching.specs.Offered.{brings}
use Rattle.answering.specs.Several.{several_outcome}
use Rattle.answering.proofs.answer_several.Goals as goal

pub returns : goal.returns
returns c =
    let a = c.args in
    small_settled [] (several_outcome a.questions.now a.number (brings a.catalogue.now a.one_way) a.book.now (length a.out.now)) a.work.now (a.out.now ∷ []) (omega arith) refl

pub returns-2 : goal.returns-2
returns-2 c =
    let a = c.args in
    lent_settled [] (several_outcome a.questions.now a.number (brings a.catalogue.now a.one_way) a.book.now (length a.out.now)) a.work.now (omega arith) (rw c.from.ensures at c.answer_several.ensures) c.answer_several.new.work c.answer_several.auto.work (search rules)
