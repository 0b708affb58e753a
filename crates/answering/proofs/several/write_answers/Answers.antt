-- `answering::several::write_answers` meets its contract.
use native.Mathlib.Omega.{arith}
use Rattle.answering.proofs.SeveralAnswers.{counted_stands, counted_booked, turn_fair, filling_start, filling_inside, filling_some, filling_held, filling_counted, filling_next}
use Rattle.answering.proofs.several.write_answers.Goals as goal

pub loop-i-init : goal.loop-i-init
loop-i-init c = λ x y. filling_start x

pub view_at-v-requires : goal.view_at-v-requires
view_at-v-requires c =
    let z = c.loop-i.invariant c.requires.0 c.requires.1 in
    counted_stands c.requires.0 z.counted (omega (arith, c.loop-i-test))

pub join_again-n-requires : goal.join_again-n-requires
join_again-n-requires c =
    let pre = c.requires in
    let z = c.loop-i.invariant pre.0 pre.1 in
    (turn_fair pre.0 z.counted (filling_some pre.0 pre.1 z (omega (arith, c.loop-i-test))) c.view_at-v.result c.view_at-v.ensures, counted_booked pre.0 z.counted)

pub overflow_cast-q : goal.overflow_cast-q
overflow_cast-q c =
    let pre = c.requires in
    let z = c.loop-i.invariant pre.0 pre.1 in
    omega (arith, (turn_fair pre.0 z.counted (filling_some pre.0 pre.1 z (omega (arith, c.loop-i-test))) c.view_at-v.result c.view_at-v.ensures).edges)

pub slice_bounds-write_sheet-count : goal.slice_bounds-write_sheet-count
slice_bounds-write_sheet-count c =
    let pre = c.requires in
    let z = filling_inside pre.0 pre.1 (c.loop-i.invariant pre.0 pre.1) in
    omega arith

pub slice_bounds-write_sheet-start : goal.slice_bounds-write_sheet-start
slice_bounds-write_sheet-start c =
    let pre = c.requires in
    let z = filling_inside pre.0 pre.1 (c.loop-i.invariant pre.0 pre.1) in
    omega arith

pub write_sheet-at-requires : goal.write_sheet-at-requires
write_sheet-at-requires c =
    let pre = c.requires in
    let h = filling_held pre.0 pre.1 (c.loop-i.invariant pre.0 pre.1) (omega (arith, c.loop-i-test)) c.view_at-v.result c.view_at-v.ensures c.join_again-n.ensures.1 in
    (h.marked, h.few)

pub overflow_add-at : goal.overflow_add-at
overflow_add-at c =
    let pre = c.requires in
    let view-at = c.view_at-v in
    let z = c.loop-i.invariant pre.0 pre.1 in
    let h = filling_held pre.0 pre.1 z (omega (arith, c.loop-i-test)) view-at.result view-at.ensures c.join_again-n.ensures.1 in
    let n = filling_counted pre.0 pre.1 z (omega (arith, c.loop-i-test)) view-at.result view-at.ensures h c.join_again-n.ensures.0 c.write_sheet-at.ensures in
    omega (arith, n.bound, n.most, pre.0.asked.few)

pub loop-i-preserved : goal.loop-i-preserved
loop-i-preserved c =
    let view-at = c.view_at-v in
    λ x y.
    let z = c.loop-i.invariant x y in
    filling_next x y z (omega (arith, c.loop-i-test)) view-at.result view-at.ensures
    (filling_held x y z (omega (arith, c.loop-i-test)) view-at.result view-at.ensures c.join_again-n.ensures.1) c.join_again-n.ensures.0 c.write_sheet-at.ensures
