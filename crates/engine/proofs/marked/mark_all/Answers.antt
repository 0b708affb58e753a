-- `engine::marked::mark_all` meets its contract.
use native.Mathlib.Omega.{arith}
use Rattle.engine.proofs.SetLaws.{full_more}
use Rattle.engine.proofs.marked.mark_all.Goals as goal

pub loop-v-preserved : goal.loop-v-preserved
loop-v-preserved c =
    let loop = c.loop-v in
    let loop-test = c.loop-v-test in
    let mark = c.mark in
    (omega (arith, loop-test.true), full_more loop.invariant.1 mark.ensures)
