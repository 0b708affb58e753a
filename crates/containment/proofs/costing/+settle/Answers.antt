-- The proof of the cycle of calls {settle}: at each goal the facts of the undecided views.
use Prim.Native.Nat.{◌-◌}
use Rattle.std.specs.Prelude.{◌≢◌}
use mathlib.Core.Path.{sym, ◌∙◌}
use native.Mathlib.Omega.{arith}
use Rattle.containment.proofs.TriesLaws.{room_here, room_after, room_less}
use Rattle.containment.proofs.BoundedLaws.{covers_ends, stop_ends, some_left, view_skipped, view_settled, reaches_less}
use Rattle.containment.proofs.costing.+settle.Goals as goal
use Rattle.containment.proofs.costing.+settle.Goals.{Else-is_behind}

-- some view is undecided where the best isn't behind
left_here : (t : _) → (c : Else-is_behind t) → c.args.u ≢ 0
left_here t c =
    let a = c.args in
    some_left a.masks.now a.charges.now a.all a.u a.taken a.best a.reach.now c.requires.3 c.if-taken-all.false (sym c.is_behind.ensures ∙ c.if-is_behind.false)

pub returns-then-taken-all : goal.returns-then-taken-all
returns-then-taken-all t c =
    let a = c.args in
    covers_ends a.masks.now a.charges.now a.all a.u a.taken a.best c.first_of.result c.if-taken-all.true c.first_of.ensures

pub returns-then-is_behind : goal.returns-then-is_behind
returns-then-is_behind t c =
    let a = c.args in
    stop_ends a.masks.now a.charges.now a.all a.u a.taken a.best a.reach.now c.requires.3 c.if-taken-all.false (sym c.is_behind.ensures ∙ c.if-is_behind.true)

pub overflow_sub-a : goal.overflow_sub-a
overflow_sub-a t c = omega (arith, left_here t (goal.at.overflow_sub-a t c).Else-is_behind)

pub bounds-charges-a : goal.bounds-charges-a
bounds-charges-a t c = omega (arith, left_here t (goal.at.bounds-charges-a t c).Else-is_behind, c.requires.1)

pub take_view-more-requires : goal.take_view-more-requires
take_view-more-requires t c =
    let n = left_here t (goal.at.take_view-more-requires t c).Else-is_behind in
    (omega (arith, n, c.requires.0), room_here c.args.u c.args.taken n c.requires.2)

pub settle-requires : goal.settle-requires
settle-requires t c =
    let a = c.args in
    let n = left_here t (goal.at.settle-requires t c).Else-is_behind in
    (omega (arith, n, c.decreases), (omega (arith, c.requires.0), omega (arith, c.requires.1), room_less a.u a.taken n c.requires.0 c.requires.2, reaches_less a.masks.now a.all a.u (a.u - 1) a.reach.now (omega (arith, n)) c.requires.3))

pub returns-then-more-taken : goal.returns-then-more-taken
returns-then-more-taken t c =
    let a = c.args in
    let n = left_here t (goal.at.returns-then-more-taken t c).Else-is_behind in
    let v = c.take_view-more in
    view_skipped a.masks.now a.charges.now a.all a.u a.taken a.best (a.u - 1) (omega (arith, n)) v.result v.ensures c.settle.result c.if-more-taken.true c.settle.ensures

pub settle-with-requires : goal.settle-with-requires
settle-with-requires t c =
    let a = c.args in
    let n = left_here t (goal.at.settle-with-requires t c).Else-is_behind in
    let v = c.take_view-more in
    (omega (arith, n, c.decreases), (omega (arith, c.requires.0), omega (arith, c.requires.1), room_after a.u a.taken n c.requires.0 c.requires.2 _ _ v.result (omega (arith, c.fits-masks (a.u - 1))) v.ensures, reaches_less a.masks.now a.all a.u (a.u - 1) a.reach.now (omega (arith, n)) c.requires.3))

pub settle-requires-2 : goal.settle-requires-2
settle-requires-2 t c =
    let a = c.args in
    let n = left_here t (goal.at.settle-requires-2 t c).Else-is_behind in
    (omega (arith, n, c.decreases), (omega (arith, c.requires.0), omega (arith, c.requires.1), room_less a.u a.taken n c.requires.0 c.requires.2, reaches_less a.masks.now a.all a.u (a.u - 1) a.reach.now (omega (arith, n)) c.requires.3))

pub returns : goal.returns
returns t c =
    let a = c.args in
    let n = left_here t (goal.at.returns t c).Else-is_behind in
    let v = c.take_view-more in
    view_settled a.masks.now a.charges.now a.all a.u a.taken a.best (a.u - 1) (omega (arith, n)) v.result v.ensures c.settle-with.result c.settle-2.result c.settle-with.ensures c.settle-2.ensures
