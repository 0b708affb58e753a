-- `containment::choose::lowest_in` meets its contract.
use borrow.Author.Count.{below_more}
use mathlib.Core.Path.{sym, ◌∙◌}
use native.Mathlib.Omega.{arith}
use Rattle.containment.proofs.ChoiceLaws.{lowest_by}
use Rattle.containment.proofs.MaskedLaws.{union_bit}
use Rattle.containment.proofs.choose.lowest_in.Goals as goal

pub loop-e-init : goal.loop-e-init
loop-e-init c =
    let a = c.args in
    (λ t h. union_bit t a.m a.set a.k (c.union-matched.ensures t a.m h), λ d l. absurd (omega arith))

pub loop-e-preserved : goal.loop-e-preserved
loop-e-preserved c =
    let i = c.loop-e.invariant in
    (i.0, below_more _ _ i.1 (sym c.is_in.ensures ∙ c.if-not-is_in.false))

pub returns : goal.returns
returns c =
    let i = c.loop-e.invariant in
    λ t h. lowest_by _ _ _ _ _ (record { within = omega arith; lower = λ d l. sym (i.0 t h d l) ∙ i.1 d (omega arith); here = λ l. absurd (omega arith) })

pub returns-then-not-is_in : goal.returns-then-not-is_in
returns-then-not-is_in c =
    let i = c.loop-e.invariant in
    λ t h. lowest_by _ _ _ _ _ (record { within = omega arith; lower = λ d l. sym (i.0 t h d (omega arith)) ∙ i.1 d l; here = λ l. sym (i.0 t h _ l) ∙ sym c.is_in.ensures ∙ c.if-not-is_in.true })
