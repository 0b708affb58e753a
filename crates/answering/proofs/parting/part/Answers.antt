-- `answering::parting::part` meets its contract.
use mathlib.Core.Path.{refl}
use mathlib.Core.List.{[], ◌∷◌}
use lib.ListN.{length}
use Rattle.packed.proofs.Passing.{err_is}
use Rattle.packed.proofs.CallLaws.{refusal_answered}
use Rattle.matching.specs.Offered.{brings}
use Rattle.containment.specs.Part.{part_for}
use Rattle.containment.specs.Terms.{quoted_for}
use Rattle.containment.proofs.AnswerLaws.{judged_refused, judged_on, query_few, views_few}
use Rattle.answering.proofs.PartAnswers.{part_unloaded, part_none, part_some}
use Rattle.answering.proofs.parting.part.Goals as goal

pub returns-in_err-f : goal.returns-in_err-f
returns-in_err-f c =
    let a = c.args in
    rw (err_is c.from_residual.result c.from_residual.ensures.1) (judged_refused (quoted_for a.day a.question.now (brings a.catalogue.now a.one_way)) (part_for a.book.now (length a.part.now) (length a.answer.now)) (a.part.now ∷ a.answer.now ∷ []) c.in_err-f.ensures refl)

pub returns-in_err-d : goal.returns-in_err-d
returns-in_err-d c =
    let a = c.args in
    rw (err_is c.from_residual-in_err-d.result c.from_residual-in_err-d.ensures.1)
    (let h = c.in_ok-f.ensures in judged_on (quoted_for a.day a.question.now (brings a.catalogue.now a.one_way)) (part_for a.book.now (length a.part.now) (length a.answer.now)) h.on
    (refusal_answered (a.part.now ∷ a.answer.now ∷ []) (part_unloaded _ _ _ _ (c.in_err-d.ensures h.views)) refl))

pub matched_edges-taken-requires : goal.matched_edges-taken-requires
matched_edges-taken-requires c =
    let h = c.in_ok-f.ensures in
    (query_few h.query, views_few h.views.views)

pub returns-then-taken-eq0 : goal.returns-then-taken-eq0
returns-then-taken-eq0 c =
    let a = c.args in
    let h = c.in_ok-f.ensures in
    let b = c.in_ok-d.ensures h.views in
    judged_on (quoted_for a.day a.question.now (brings a.catalogue.now a.one_way)) (part_for a.book.now (length a.part.now) (length a.answer.now)) h.on
    (refusal_answered (a.part.now ∷ a.answer.now ∷ []) (part_none h c.matched_edges-taken.ensures _ b _ _ c.if-taken-eq0.true) refl)

pub part_pairs-requires : goal.part_pairs-requires
part_pairs-requires c =
    let h = c.in_ok-f.ensures in
    record {
      query = h.query;
      views = h.views;
      table_is = h.table;
      matched = c.matched_edges-taken.ensures;
      some = c.if-taken-eq0.false;
      book = c.in_ok-d.ensures h.views;
    }

pub returns : goal.returns
returns c =
    let a = c.args in
    let h = c.in_ok-f.ensures in
    let b = c.in_ok-d.ensures h.views in
    judged_on (quoted_for a.day a.question.now (brings a.catalogue.now a.one_way)) (part_for a.book.now (length a.part.now) (length a.answer.now)) h.on
    (rw (part_some h c.matched_edges-taken.ensures a.book.now b (length a.part.now) (length a.answer.now) c.if-taken-eq0.false)
    (c.part_pairs.ensures (record { query = h.query; views = h.views; table_is = h.table; matched = c.matched_edges-taken.ensures; some = c.if-taken-eq0.false; book = b })))
