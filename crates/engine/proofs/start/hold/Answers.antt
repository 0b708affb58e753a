-- `engine::start::hold` meets its contract.
use native.Mathlib.Omega.{arith}
use Rattle.engine.proofs.StartLaws.{holding_more}
use Rattle.engine.proofs.start.hold.Goals as goal

pub loop-i-smaller : goal.loop-i-smaller
loop-i-smaller c = omega (arith, c.loop-i-test.true)

pub loop-i-preserved : goal.loop-i-preserved
loop-i-preserved c = holding_more c.loop-i.invariant c.requires.0 c.loop-i-test.true c.requires.1
