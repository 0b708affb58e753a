use Rattle.engine.specs.Sweeping.{held_after}
use Rattle.engine.proofs.SweepingLaws.{running_more}
use Rattle.engine.proofs.sweeps.sweep.Goals as goal

pub loop-i-preserved : goal.loop-i-preserved
unfolding held_after
loop-i-preserved c =
    let pre = c.requires in
    let loop = c.loop-i in
    let loop-test = c.loop-i-test in
    running_more _ _ _ _ _ _ _ _ _ _ _ pre.0 pre.3 loop.invariant loop-test.true _ c.carried.ensures
