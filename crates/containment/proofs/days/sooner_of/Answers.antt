-- `containment::days::sooner_of` meets its contract.
use mathlib.Core.Path.{sym, ◌∙◌}
use mathlib.Core.Logic.{inl, inr}
use Rattle.containment.specs.Choice.{covers_in}
use Rattle.containment.specs.Terms.{in_force}
use Rattle.containment.proofs.TermsLaws.{sooner_takes, sooner_leaves}
use Rattle.containment.proofs.days.sooner_of.Goals as goal

pub returns-then-d-day : goal.returns-then-d-day
returns-then-d-day c =
    let a = c.args in
    λ b h. sym (sooner_leaves (λ i. covers_in b (in_force a.t i a.k) a.k a.m) a.t a.day a.d a.found (inl c.if-d-day.true))

pub returns-then-found-d : goal.returns-then-found-d
returns-then-found-d c =
    let a = c.args in
    λ b h. sym (sooner_leaves (λ i. covers_in b (in_force a.t i a.k) a.k a.m) a.t a.day a.d a.found (inr (inl c.if-found-d.true)))

pub returns-then-is_cover : goal.returns-then-is_cover
returns-then-is_cover c =
    let a = c.args in
    let e = c.in_force-set.ensures in
    λ b h. sym (sooner_takes (λ i. covers_in b (in_force a.t i a.k) a.k a.m) a.t a.day a.d a.found c.if-d-day.false c.if-found-d.false (rw e at (sym (c.is_cover.ensures b h) ∙ c.if-is_cover.true)))

pub returns : goal.returns
returns c =
    let a = c.args in
    let e = c.in_force-set.ensures in
    λ b h. sym (sooner_leaves (λ i. covers_in b (in_force a.t i a.k) a.k a.m) a.t a.day a.d a.found (inr (inr (rw e at (sym (c.is_cover.ensures b h) ∙ c.if-is_cover.false)))))
