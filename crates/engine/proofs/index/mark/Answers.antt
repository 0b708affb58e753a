-- `engine::index::mark` meets its contract.
use native.Mathlib.Omega.{arith}
use Rattle.engine.proofs.IndexLaws.{marked_more}
use Rattle.engine.proofs.index.mark.Goals as goal

pub loop-i-preserved : goal.loop-i-preserved
loop-i-preserved c = (omega (arith, c.loop-i-test.true), marked_more c.requires.2 c.loop-i-test.true c.loop-i.invariant.1 c.requires.3 (omega (arith, c.if-n-f.false)))
