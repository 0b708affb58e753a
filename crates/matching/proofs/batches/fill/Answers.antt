-- `matching::batches::fill` meets its contract.
use native.Mathlib.Omega.{arith}
use Rattle.matching.proofs.BatchLaws.{over_no, filling_start, filling_fair, filling_full, filling_some, filling_next, filling_end}
use Rattle.matching.proofs.batches.fill.Goals as goal

pub loop-next-init : goal.loop-next-init
loop-next-init c =
    let pre = c.requires in
    let none = c.none-b.ensures in
    filling_start _ pre.0 pre.2 pre.3 none.0 none.1 none.2

pub returns-then-b-edges-gt-EDGES : goal.returns-then-b-edges-gt-EDGES
returns-then-b-edges-gt-EDGES c =
    let z = c.loop-next.invariant in
    filling_some z (omega (arith, c.if-b-edges-gt-EDGES.true, (c.requires.1 z.fields z.is).small c.loop-next.next))

pub overflow_add-b-in-loop-next : goal.overflow_add-b-in-loop-next
overflow_add-b-in-loop-next c =
    let z = c.loop-next.invariant in
    let view = c.view_at-v in
    let f = filling_fair z (omega (arith, c.loop-next-test)) view.result view.ensures in
    omega (arith, z.fair.edges, f.edges)

pub overflow_add-b-in-loop-next-2 : goal.overflow_add-b-in-loop-next-2
overflow_add-b-in-loop-next-2 c =
    let z = c.loop-next.invariant in
    let view = c.view_at-v in
    let f = filling_fair z (omega (arith, c.loop-next-test)) view.result view.ensures in
    omega (arith, z.fair.nodes, f.nodes)

pub returns-then-b-p : goal.returns-then-b-p
returns-then-b-p c =
    let z = c.loop-next.invariant in
    let some = c.loop-next-test in
    let view = c.view_at-v in
    filling_full z (omega (arith, some)) view.result view.ensures c.if-b-p.true

pub add-b-requires : goal.add-b-requires
add-b-requires c =
    let z = c.loop-next.invariant in
    let some = c.loop-next-test in
    let view = c.view_at-v in
    let room = over_no _ _ c.if-b-p.false in
    (z.fair, filling_fair z (omega (arith, some)) view.result view.ensures, room.0, room.1)

pub loop-next-preserved : goal.loop-next-preserved
loop-next-preserved c =
    let z = c.loop-next.invariant in
    let some = c.loop-next-test in
    let view = c.view_at-v in
    let add = c.add-b.ensures in
    filling_next z (omega (arith, some)) view.result view.ensures c.is_both-both.ensures add.0 add.2 add.3 add.4

pub returns : goal.returns
returns c = filling_end c.loop-next.invariant (omega arith)
