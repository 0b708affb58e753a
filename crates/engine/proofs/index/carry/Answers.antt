-- `engine::index::carry` meets its contract.
use native.Mathlib.Omega.{arith}
use Rattle.engine.proofs.IndexLaws.{carrying_start, carrying_more}
use Rattle.engine.proofs.index.carry.Goals as goal

pub loop-v-init : goal.loop-v-init
loop-v-init c = carrying_start _ _

pub loop-v-preserved : goal.loop-v-preserved
loop-v-preserved c = carrying_more c.loop-v.invariant c.requires (omega (arith, c.loop-v-test.true)) c.max-most.ensures
