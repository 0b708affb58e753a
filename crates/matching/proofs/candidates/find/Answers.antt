-- `matching::candidates::find` meets its contract.
use native.Mathlib.Omega.{arith}
use Rattle.matching.proofs.Taking.{halving_low, halving_high, halving_end}
use Rattle.matching.proofs.candidates.find.Goals as goal

pub loop-high-preserved-then-code-work : goal.loop-high-preserved-then-code-work
loop-high-preserved-then-code-work c = halving_low c.requires.0 c.loop-high.invariant _ (omega arith) (omega arith) c.if-code-work.true

pub loop-high-preserved : goal.loop-high-preserved
loop-high-preserved c = halving_high c.requires.0 c.loop-high.invariant _ (omega arith) (omega arith) c.if-code-work.false

pub returns : goal.returns
returns c = halving_end c.loop-high.invariant (omega arith)
