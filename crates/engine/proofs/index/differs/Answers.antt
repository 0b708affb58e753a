-- `engine::index::differs` meets its contract.
use native.Mathlib.Omega.{arith}
use Rattle.engine.proofs.OwnIndex.{comparing_more}
use Rattle.engine.proofs.index.differs.Goals as goal

pub loop-v-preserved : goal.loop-v-preserved
loop-v-preserved c = comparing_more c.loop-v.invariant (omega (arith, c.loop-v-test.true)) c.if-own-v.false
