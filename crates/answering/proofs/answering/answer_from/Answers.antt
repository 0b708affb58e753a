-- `answering::answering::answer_from` meets its contract.
use mathlib.Core.Path.{refl}
use mathlib.Core.List.{[], ◌∷◌}
use lib.ListN.{length}
use Rattle.packed.proofs.Passing.{err_is}
use Rattle.matching.specs.Offered.{brings}
use Rattle.containment.specs.Quote.{quoted}
use Rattle.containment.specs.Answer.{answer_for, answer_by}
use Rattle.containment.proofs.AnswerLaws.{judged_refused, judged_on, query_few, views_few}
use Rattle.answering.proofs.answering.answer_from.Goals as goal

pub returns-in_err-f : goal.returns-in_err-f
unfolding answer_by
returns-in_err-f c =
    let a = c.args in
    rw (err_is c.from_residual.result c.from_residual.ensures.1) (judged_refused (quoted a.question.now (brings a.catalogue.now a.one_way)) (answer_for (λ x. a.set) a.book.now (length a.out.now)) (a.out.now ∷ []) c.in_err-f.ensures refl)

pub lowest_unmatched-lowest-requires : goal.lowest_unmatched-lowest-requires
lowest_unmatched-lowest-requires c =
    let h = c.in_ok-f.ensures in
    (query_few h.query, views_few h.views.views)

pub returns : goal.returns
unfolding answer_by answer_for
returns c =
    let a = c.args in
    let h = c.in_ok-f.ensures in
    judged_on (quoted a.question.now (brings a.catalogue.now a.one_way)) (answer_for (λ x. a.set) a.book.now (length a.out.now)) h.on
    (c.answer_book.ensures h.query h.views _ h.table)
