-- `packed::record::write_edges` meets its contract.
use Prim.Native.Nat.{◌-◌}
use native.Mathlib.Omega.{arith}
use Rattle.packed.proofs.Counted.{one_less}
use Rattle.packed.proofs.Passing.{err_is}
use Rattle.packed.proofs.WritingLaws.{left_to}
use Rattle.packed.proofs.Records.{rising_end, edge_accepted, edge_denied, edge_rejected}
use Rattle.packed.proofs.record.write_edges.Goals as goal

pub returns-then-rank-least : goal.returns-then-rank-least
returns-then-rank-least c =
    let l = c.loop in
    let p = c.in_ok-a.ensures in
    edge_denied _ (c.args.number - c.loop.counter) l.least (omega (arith, c.loop-test)) l.invariant.2 p (omega (arith, c.if-rank-least))

pub overflow_add-least : goal.overflow_add-least
overflow_add-least c =
    let p = c.in_ok-a.ensures in
    omega (arith, p.ends.first.most, p.ends.second.most, p.kind.most, c.requires.2)

pub loop-preserved : goal.loop-preserved
loop-preserved c =
    let l = c.loop in
    let p = c.in_ok-a.ensures in
    (omega (arith, l.invariant.0, c.loop-test), omega (arith, l.invariant.1, c.write_edge.auto), rw (← one_less c.args.number c.loop.counter) (edge_accepted _ (c.args.number - c.loop.counter) l.least (omega (arith, c.loop-test)) l.invariant.2 p (omega (arith, c.if-rank-least))))

pub returns-in_err-a : goal.returns-in_err-a
returns-in_err-a c =
    let l = c.loop in
    let p = c.in_err-a.ensures in
    rw (err_is c.from_residual.result c.from_residual.ensures.1) (edge_rejected _ (c.args.number - c.loop.counter) l.least (omega (arith, c.loop-test)) l.invariant.2 p)

pub returns : goal.returns
returns c =
    let l = c.loop in
    (left_to (rising_end _ (c.args.number - c.loop.counter) l.least (omega (arith, c.loop-test))) l.invariant.2, omega (arith, l.invariant.0))
