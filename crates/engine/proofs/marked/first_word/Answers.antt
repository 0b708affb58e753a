-- `engine::marked::first_word` meets its contract.
use native.Mathlib.Omega.{arith}
use borrow.Author.Count.{below_more}
use Rattle.engine.proofs.marked.first_word.Goals as goal

pub loop-i-preserved : goal.loop-i-preserved
loop-i-preserved c = (omega arith, below_more _ _ c.loop-i.invariant.1 c.if-set-i-ne0.false)
