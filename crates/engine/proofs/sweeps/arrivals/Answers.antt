-- `engine::sweeps::arrivals` meets its contract.
use native.Mathlib.Omega.{arith}
use Rattle.engine.proofs.SweepingLaws.{arrived_more}
use Rattle.engine.proofs.sweeps.arrivals.Goals as goal

pub loop-i-preserved : goal.loop-i-preserved
loop-i-preserved c =
    let pre = c.requires in
    let loop = c.loop-i in
    let loop-test = c.loop-i-test in
    (omega (arith, loop-test.true), arrived_more _ _ _ _ loop.invariant.1 (pre.to loop.i (omega (arith, loop-test.true))))
