-- `answering::answering::answer` meets its contract.
use mathlib.Core.Path.{refl, ◌∙◌}
use mathlib.Core.List.{[], ◌∷◌}
use lib.ListN.{length}
use Rattle.packed.proofs.Passing.{err_is}
use Rattle.matching.specs.Offered.{brings}
use Rattle.containment.specs.Quote.{quoted, used_by}
use Rattle.containment.specs.Answer.{answer_for, answer_by}
use Rattle.containment.proofs.AnswerLaws.{judged_refused, judged_on, query_few, views_few}
use Rattle.answering.proofs.AnsweringLaws.{used_is, used_lowest}
use Rattle.answering.proofs.answering.answer.Goals as goal

pub returns-in_err-f : goal.returns-in_err-f
unfolding answer_by
returns-in_err-f c =
    let a = c.args in
    rw (err_is c.from_residual.result c.from_residual.ensures.1) (judged_refused (quoted a.question.now (brings a.catalogue.now a.one_way)) (answer_for used_by a.book.now (length a.out.now)) (a.out.now ∷ []) c.in_err-f.ensures refl)

pub masks_of-masks-requires : goal.masks_of-masks-requires
masks_of-masks-requires c =
    let h = c.in_ok-f.ensures in
    (views_few h.views.views, query_few h.query)

pub lowest_in-lowest-requires : goal.lowest_in-lowest-requires
lowest_in-lowest-requires c =
    let h = c.in_ok-f.ensures in
    (query_few h.query, views_few h.views.views)

pub use_views-used-requires : goal.use_views-used-requires
use_views-used-requires c =
    let h = c.in_ok-f.ensures in
    (query_few h.query, views_few h.views.views)

pub answer_book-requires : goal.answer_book-requires
answer_book-requires c =
    let h = c.in_ok-f.ensures in
    (h.query, h.views, used_lowest h.query h.views _ h.table (c.use_views-used.ensures _ c.masks_of-masks.ensures (c.lowest_in-lowest.ensures _ c.masks_of-masks.ensures)) (c.lowest_in-lowest.ensures _ c.masks_of-masks.ensures), c.judge.auto.work ∙ c.requires)

pub returns : goal.returns
unfolding answer_by answer_for
returns c =
    let a = c.args in
    let h = c.in_ok-f.ensures in
    judged_on (quoted a.question.now (brings a.catalogue.now a.one_way)) (answer_for used_by a.book.now (length a.out.now)) h.on
    (rw (used_is h.query h.views c.in_ok-f.f.usable h.table (c.use_views-used.ensures _ c.masks_of-masks.ensures (c.lowest_in-lowest.ensures _ c.masks_of-masks.ensures))) at (c.answer_book.ensures h.query h.views c.in_ok-f.f.usable h.table))
