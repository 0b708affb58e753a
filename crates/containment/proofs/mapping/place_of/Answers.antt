-- `containment::mapping::place_of` meets its contract.
use native.Mathlib.Omega.{arith}
use borrow.Author.Count.{below_more}
use Rattle.containment.proofs.mapping.place_of.Goals as goal

pub returns-then-work-i : goal.returns-then-work-i
returns-then-work-i c = record { within = omega arith; here = λ _. c.if-work-i.true; lower = c.loop-i.invariant }

pub loop-i-preserved : goal.loop-i-preserved
loop-i-preserved c = below_more _ _ c.loop-i.invariant c.if-work-i.false

pub returns : goal.returns
returns c = record { within = omega arith; here = λ l. absurd (omega arith); lower = λ j l. c.loop-i.invariant j (omega arith) }
