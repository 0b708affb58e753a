-- `answering::several::measure` meets its contract.
use mathlib.Core.Path.{refl}
use native.Mathlib.Omega.{arith}
use Rattle.answering.proofs.SeveralAnswers.{counted_stands, counted_booked, turn_fair, measuring_start, measuring_held, measuring_next, measuring_end}
use Rattle.answering.proofs.several.measure.Goals as goal

pub loop-i-init : goal.loop-i-init
loop-i-init c =
    λ x. measuring_start x refl

pub view_at-v-requires : goal.view_at-v-requires
view_at-v-requires c =
    let m = c.loop-i.invariant c.requires in
    counted_stands c.requires m.counted (omega (arith, c.loop-i-test))

pub overflow_cast-edges : goal.overflow_cast-edges
overflow_cast-edges c =
    let m = c.loop-i.invariant c.requires in
    omega (arith, (turn_fair c.requires m.counted (omega (arith, c.loop-i-test)) c.view_at-v.result c.view_at-v.ensures).edges)

pub join-requires : goal.join-requires
join-requires c =
    let m = c.loop-i.invariant c.requires in
    (turn_fair c.requires m.counted (omega (arith, c.loop-i-test)) c.view_at-v.result c.view_at-v.ensures, counted_booked c.requires m.counted)

pub sheet_size-size-requires : goal.sheet_size-size-requires
sheet_size-size-requires c =
    let m = c.loop-i.invariant c.requires in
    let h = measuring_held c.requires m (omega (arith, c.loop-i-test)) c.view_at-v.result c.view_at-v.ensures c.join.ensures in
    (h.few, h.marked.most, h.marked.long)

pub overflow_add-total : goal.overflow_add-total
overflow_add-total c =
    let m = c.loop-i.invariant c.requires in
    let z = measuring_next c.requires m (omega (arith, c.loop-i-test)) c.view_at-v.result c.view_at-v.ensures c.join.ensures c.sheet_size-size.ensures in
    omega (arith, z.counted.bound, z.counted.most, c.requires.asked.few)

pub loop-i-preserved : goal.loop-i-preserved
loop-i-preserved c =
    λ x. measuring_next x (c.loop-i.invariant x) (omega (arith, c.loop-i-test)) c.view_at-v.result c.view_at-v.ensures c.join.ensures c.sheet_size-size.ensures

pub returns : goal.returns
returns c =
    λ x. measuring_end x (c.loop-i.invariant x) (omega (arith, c.loop-i-test))
