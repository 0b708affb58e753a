use Rattle.engine.specs.Sweeping.{missing}
use Rattle.engine.proofs.SettlingLaws.{settling_start, settling_more, settling_end}
use Rattle.engine.proofs.sweeps.settle.Goals as goal

pub loop-v-init : goal.loop-v-init
loop-v-init c = settling_start _ _ _ _ _ _ _

pub loop-v-preserved : goal.loop-v-preserved
unfolding missing
loop-v-preserved c =
    let pre = c.requires in
    let loop = c.loop-v in
    let loop-test = c.loop-v-test in
    let slice-known6 = c.slice_known-in-loop-v-3-1 in
    let without = c.without in
    settling_more _ _ _ _ loop.invariant loop-test.true pre.0 pre.1 pre.2 (slice-known6.given loop.v).fits _ _ without.ensures c.without-in-loop-v.ensures

pub returns : goal.returns
returns c = settling_end _ _ _ _ c.loop-v.invariant c.loop-v-test.false
