-- `matching::offered::first_stray` meets its contract.
use mathlib.Core.Path.{sym, subst, ◌∙◌}
use lib.Dec.{T}
use native.Mathlib.Omega.{arith}
use borrow.Author.Count.{below_more}
use Rattle.matching.proofs.OfferedLaws.{stray_by}
use borrow.Author.Rules.{rules}
use Rattle.matching.proofs.offered.first_stray.Goals as goal

pub returns-then-is_in : goal.returns-then-is_in
returns-then-is_in c =
    let loop = c.loop-a in
    let loop-test = c.loop-a-test in
    let is-in = c.is_in in
    stray_by _ _ 16 _
    (record { within = omega (arith, loop-test); lower = loop.invariant.2; here = λ _. (subst T (sym (sym is-in.ensures ∙ c.if-is_in.true)) tt, loop.invariant.0) })

pub loop-a-preserved : goal.loop-a-preserved
loop-a-preserved c =
    let loop = c.loop-a in
    let is-in = c.is_in in
    (search rules, search rules, below_more _ _ loop.invariant.2 (λ h. absurd (subst T (sym is-in.ensures ∙ c.if-is_in.false) h)))

pub returns : goal.returns
returns c =
    let loop = c.loop-a in
    stray_by _ _ 16 _ (record { within = omega arith; lower = λ d l. loop.invariant.2 d (omega arith); here = λ l. absurd (omega arith) })
