-- `answering::parting::part_pairs` meets its contract.
use mathlib.Core.Path.{refl}
use native.Mathlib.Omega.{arith}
use Rattle.packed.proofs.Passing.{err_is}
use Rattle.packed.proofs.CallLaws.{none_lent}
use Rattle.containment.proofs.QueryLaws.{fair}
use Rattle.containment.proofs.AnswerLaws.{query_few, views_few}
use Rattle.answering.proofs.PartAnswers.{part_room, part_encodes, part_bounds, part_query, part_covers, part_agrees, part_answer_is, part_tight, part_refused, part_given}
use Rattle.answering.proofs.parting.part_pairs.Goals as goal

pub part_fields-f-requires : goal.part_fields-f-requires
part_fields-f-requires c = fair c.requires.query

pub slice_bounds-write_part-end : goal.slice_bounds-write_part-end
slice_bounds-write_part-end c =
    let h = part_room c.requires c.part_fields-f.ensures in
    omega (arith, h.0, h.1)

pub returns-then-part-size : goal.returns-then-part-size
returns-then-part-size c =
    let a = c.args in
    let s = none_lent a.part.now c.write_part-size.new.out c.write_part-size.auto.out in
    λ x.
    let e = c.write_part-size.ensures _ (part_encodes x c.part_fields-f.ensures) in
    part_tight a.part.now a.answer.now _ e.0 _ (rw s at c.if-part-size.true) s refl

pub pattern_of-p-requires : goal.pattern_of-p-requires
pattern_of-p-requires c = let x = c.requires in part_bounds x c.part_fields-f.ensures

pub part_rows-rows-requires : goal.part_rows-rows-requires
part_rows-rows-requires c = query_few c.requires.query

pub choose-set-requires : goal.choose-set-requires
choose-set-requires c =
    let t = rw c.columns_in-columns.ensures at c.part_rows-rows.ensures in
    (query_few (part_query c.requires c.part_fields-f.ensures c.pattern_of-p.ensures), views_few c.requires.views.views, part_covers c.requires c.part_fields-f.ensures c.pattern_of-p.ensures t)

pub answer_pairs-requires : goal.answer_pairs-requires
answer_pairs-requires c = (fair (part_query c.requires c.part_fields-f.ensures c.pattern_of-p.ensures), c.requires.book.pairs)

pub returns : goal.returns
returns c =
    let a = c.args in
    let s = none_lent a.part.now c.write_part-size.new.out c.write_part-size.auto.out in
    λ x.
    let t = rw c.columns_in-columns.ensures at c.part_rows-rows.ensures in
    let b = part_encodes x c.part_fields-f.ensures in
    let j = part_agrees x c.part_fields-f.ensures c.pattern_of-p.ensures t c.choose-set.ensures a.answer.now in
    rw (part_answer_is x c.part_fields-f.ensures c.pattern_of-p.ensures t c.choose-set.ensures a.answer.now)
    (part_given a.part.now a.answer.now _ (c.write_part-size.ensures _ b).0 (rw s at c.if-part-size.false) _ _ (rw s at (c.write_part.ensures _ b).1) (c.in_ok-length.ensures _ j))

pub returns-in_err-length : goal.returns-in_err-length
returns-in_err-length c =
    let a = c.args in
    let s = none_lent a.part.now c.write_part-size.new.out c.write_part-size.auto.out in
    λ x.
    let t = rw c.columns_in-columns.ensures at c.part_rows-rows.ensures in
    let b = part_encodes x c.part_fields-f.ensures in
    let j = part_agrees x c.part_fields-f.ensures c.pattern_of-p.ensures t c.choose-set.ensures a.answer.now in
    rw (err_is c.from_residual.result c.from_residual.ensures.1)
    (rw (part_answer_is x c.part_fields-f.ensures c.pattern_of-p.ensures t c.choose-set.ensures a.answer.now)
    (part_refused a.part.now a.answer.now _ (c.write_part-size.ensures _ b).0 (rw s at c.if-part-size.false) _ c.in_err-length.field-0.0 s (c.in_err-length.ensures _ j)))
