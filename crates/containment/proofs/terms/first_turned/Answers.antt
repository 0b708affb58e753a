-- `containment::terms::first_turned` meets its contract.
use borrow.Author.Count.{below_more}
use native.Mathlib.Omega.{arith}
use Rattle.containment.proofs.TermsLaws.{turned_by}
use Rattle.containment.proofs.terms.first_turned.Goals as goal

pub loop-a-preserved : goal.loop-a-preserved
loop-a-preserved c = below_more _ _ c.loop-a.invariant c.if-t-a.false

pub returns-then-t-a : goal.returns-then-t-a
returns-then-t-a c = turned_by _ _ _ (record { within = omega arith; lower = c.loop-a.invariant; here = λ _ z. let n = c.if-t-a.true in omega arith })

pub returns : goal.returns
returns c = turned_by _ _ _ (record { within = omega arith; lower = λ d l. c.loop-a.invariant d (omega arith); here = λ l. absurd (omega arith) })
