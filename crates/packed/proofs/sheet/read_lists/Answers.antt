-- `packed::sheet::read_lists` meets its contract.
use Prim.Native.Nat.{◌-◌}
use native.Mathlib.Omega.{arith}
use Rattle.packed.proofs.Counted.{one_less}
use Rattle.packed.proofs.Passing.{err_is}
use Rattle.packed.proofs.ReadingLaws.{left_is}
use Rattle.packed.proofs.Sheets.{lists_end, count_refused, count_falls, list_passes, list_refused}
use Rattle.packed.proofs.sheet.read_lists.Goals as goal

pub returns-in_err-n : goal.returns-in_err-n
returns-in_err-n c =
    let loop-test = c.loop-test in
    let l = c.loop in
    let p = c.in_err-n.ensures in
    rw (err_is c.from_residual.result c.from_residual.ensures.1) (count_refused (c.args.m - c.loop.counter) (omega (arith, loop-test)) l.invariant.1 p)

pub returns-then-n-eq0 : goal.returns-then-n-eq0
returns-then-n-eq0 c =
    let loop-test = c.loop-test in
    let l = c.loop in
    let p = c.in_ok-n.ensures in
    count_falls (c.args.m - c.loop.counter) (omega (arith, loop-test)) l.invariant.1 p c.if-n-eq0.true

pub returns-in_err-next : goal.returns-in_err-next
returns-in_err-next c =
    let if1 = c.if-n-eq0 in
    let loop-test = c.loop-test in
    let l = c.loop in
    let p = c.in_ok-n.ensures in
    rw (err_is c.from_residual-in_err-next.result c.from_residual-in_err-next.ensures.1) (list_refused (c.args.m - c.loop.counter) (omega (arith, loop-test)) l.invariant.1 p if1.false c.in_err-next.ensures)

pub loop-preserved : goal.loop-preserved
loop-preserved c =
    let if1 = c.if-n-eq0 in
    let loop-test = c.loop-test in
    let l = c.loop in
    let p = c.in_ok-n.ensures in
    let q = c.in_ok-next.ensures in
    (omega (arith, l.invariant.0, c.read_field.auto, c.read_pairs.auto), rw (← one_less c.args.m c.loop.counter) (list_passes (c.args.m - c.loop.counter) (omega (arith, loop-test)) l.invariant.1 p if1.false q))

pub returns : goal.returns
returns c =
    let l = c.loop in
    left_is (lists_end (c.args.m - c.loop.counter) (omega (arith, c.loop-test))) l.invariant.1
