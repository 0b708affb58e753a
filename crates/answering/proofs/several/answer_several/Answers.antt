-- `answering::several::answer_several` meets its contract.
use mathlib.Core.Path.{refl, ◌∙◌}
use mathlib.Core.List.{[], ◌∷◌}
use lib.ListN.{length}
use native.Mathlib.Omega.{arith}
use Rattle.packed.proofs.Passing.{err_is}
use Rattle.packed.proofs.CallLaws.{refusal_answered}
use Rattle.matching.specs.Offered.{brings}
use Rattle.matching.proofs.OfferedLaws.{offered_on}
use Rattle.containment.proofs.AnswerLaws.{views_small, views_by, counts_by}
use Rattle.answering.proofs.SeveralLaws.{some_few, asked_by, miscounted, questions_refused, offer_refused, several_on}
use Rattle.matching.proofs.BookLaws.{counted_by}
use Rattle.answering.proofs.several.answer_several.Goals as goal

pub returns-then-number : goal.returns-then-number
returns-then-number c =
    let a = c.args in
    refusal_answered (a.out.now ∷ []) (miscounted a.questions.now (brings a.catalogue.now a.one_way) a.book.now a.number (length a.out.now) c.if-number.true) refl

pub returns-in_err-accept_questions : goal.returns-in_err-accept_questions
returns-in_err-accept_questions c =
    let a = c.args in
    rw (err_is c.from_residual.result c.from_residual.ensures.1) (refusal_answered (a.out.now ∷ []) (questions_refused a.questions.now (brings a.catalogue.now a.one_way) a.book.now a.number (length a.out.now) c.if-number.false c.in_err-accept_questions.ensures) refl)

pub returns-in_err-views : goal.returns-in_err-views
returns-in_err-views c =
    let a = c.args in
    let q = c.in_ok-accept_questions.ensures in
    rw (err_is c.from_residual-in_err-views.result c.from_residual-in_err-views.ensures.1) (refusal_answered (a.out.now ∷ []) (offer_refused a.questions.now (brings a.catalogue.now a.one_way) a.book.now a.number (length a.out.now) c.if-number.false q.is c.in_err-views.ensures) refl)

pub map_queries-sets-requires : goal.map_queries-sets-requires
map_queries-sets-requires c =
    let a = c.args in
    let q = c.in_ok-accept_questions.ensures in
    let h = c.in_ok-views.ensures in
    (asked_by a.questions.now a.number q (some_few a.number c.if-number.false).1, views_by a.catalogue.now h.is h.holds, counted_by a.catalogue.now h.is h.holds, omega (arith, views_small a.catalogue.now h.is), c.accept_offer.auto.work ∙ c.accept_questions.auto.work ∙ c.requires)

pub answer_book-requires : goal.answer_book-requires
answer_book-requires c =
    let a = c.args in
    let q = c.in_ok-accept_questions.ensures in
    let h = c.in_ok-views.ensures in
    let s = asked_by a.questions.now a.number q (some_few a.number c.if-number.false).1 in
    (c.map_queries-sets.auto.work ∙ c.accept_offer.auto.work ∙ c.accept_questions.auto.work ∙ c.requires, (some_few a.number c.if-number.false).0, (s, counts_by a.catalogue.now h.is h.holds a.one_way, c.map_queries-sets.ensures s (views_by a.catalogue.now h.is h.holds)))

pub returns : goal.returns
returns c =
    let a = c.args in
    let q = c.in_ok-accept_questions.ensures in
    let h = c.in_ok-views.ensures in
    let s = asked_by a.questions.now a.number q (some_few a.number c.if-number.false).1 in
    several_on a.questions.now (brings a.catalogue.now a.one_way) a.book.now a.number (length a.out.now) c.if-number.false q.is (offered_on h) (c.answer_book.ensures s (counts_by a.catalogue.now h.is h.holds a.one_way) (c.map_queries-sets.ensures s (views_by a.catalogue.now h.is h.holds)))
