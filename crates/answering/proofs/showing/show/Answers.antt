-- `answering::showing::show` meets its contract.
use mathlib.Core.Path.{refl}
use mathlib.Core.List.{[], ◌∷◌}
use lib.ListN.{length}
use Rattle.packed.proofs.Passing.{err_is}
use Rattle.matching.specs.Offered.{brings}
use Rattle.containment.specs.Show.{show_for}
use Rattle.containment.specs.Terms.{quoted_for}
use Rattle.containment.proofs.AnswerLaws.{judged_refused, judged_on, query_few, views_few, show_covered, show_uncovered}
use Rattle.answering.proofs.showing.show.Goals as goal

pub returns-in_err-f : goal.returns-in_err-f
returns-in_err-f c =
    let a = c.args in
    rw (err_is c.from_residual.result c.from_residual.ensures.1) (judged_refused (quoted_for a.day a.question.now (brings a.catalogue.now a.one_way)) (show_for (length a.first.now) (length a.second.now)) (a.first.now ∷ a.second.now ∷ []) c.in_err-f.ensures refl)

pub lowest_unmatched-e-requires : goal.lowest_unmatched-e-requires
lowest_unmatched-e-requires c =
    let h = c.in_ok-f.ensures in
    (query_few h.query, views_few h.views.views)

pub returns-then-e-q : goal.returns-then-e-q
returns-then-e-q c =
    let a = c.args in
    let h = c.in_ok-f.ensures in
    judged_on (quoted_for a.day a.question.now (brings a.catalogue.now a.one_way)) (show_for (length a.first.now) (length a.second.now)) h.on
    (show_uncovered h.query h.views _ h.table (length a.first.now) (length a.second.now) c.lowest_unmatched-e.ensures c.if-e-q.true (c.show_both.ensures h.query))

pub returns : goal.returns
returns c =
    let a = c.args in
    let h = c.in_ok-f.ensures in
    judged_on (quoted_for a.day a.question.now (brings a.catalogue.now a.one_way)) (show_for (length a.first.now) (length a.second.now)) h.on
    (show_covered h.query h.views _ h.table (length a.first.now) (length a.second.now) c.lowest_unmatched-e.ensures (a.first.now ∷ a.second.now ∷ []) c.if-e-q.false refl)
