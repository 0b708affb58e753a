-- `packed::record::load_eight` meets its contract.
use native.Mathlib.Omega.{arith}
use mathlib.Core.Path.{◌≡◌}
use Rattle.packed.proofs.Records.{more_next, more_stopped}
use Rattle.packed.proofs.record.load_eight.Goals as goal

pub loop-j-preserved : goal.loop-j-preserved
loop-j-preserved c = (omega (arith, c.loop-j-test.true), more_next c.loop-j.invariant.1 c.in_ok-next.ensures)

pub returns-in_err-next : goal.returns-in_err-next
returns-in_err-next c = rw c.from_residual.ensures (more_stopped c.loop-j.invariant.1 c.in_err-next.ensures 8 (omega (arith, c.loop-j-test.true)))

pub returns : goal.returns
returns c =
    let i = c.loop-j.invariant in
    let e : c.loop-j.j ≡ 8 = omega (arith, i.0, c.loop-j-test.false) in
    rw e at i.1
