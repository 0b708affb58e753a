-- `containment::costing::cheapest_of` meets its contract.
use mathlib.Core.Path.{◌≡◌, subst}
use mathlib.Core.List.{List}
use Prim.Native.Nat.{ℕ}
use native.Mathlib.Omega.{arith}
use Rattle.containment.specs.Choice.{columns_in}
use Rattle.containment.specs.Cheapest.{cheapest}
use Rattle.containment.specs.Masked.{Masked}
use Rattle.containment.specs.Tries.{Tries}
use Rattle.containment.proofs.ChoiceLaws.{lowest_leaves, lowest_covers}
use Rattle.containment.proofs.BoundedLaws.{reaches_edges}
use Rattle.containment.proofs.CostingLaws.{found_cheapest, found_told, lacking_told, found_small, chosen_fits}
use borrow.Author.Rules.{rules}
use Rattle.containment.proofs.costing.cheapest_of.Goals as goal
use Rattle.containment.proofs.costing.cheapest_of.Goals.{After-settle-x}

-- the masks are those of the usable views alone
masked : (t masks : List ℕ) (usable k m : ℕ) {columns : List ℕ} → columns ≡ columns_in usable t → Masked columns k m masks → Masked (columns_in usable t) k m masks
masked t masks usable k m e h = subst (λ (u : List ℕ). Masked u k m masks) e h

-- what the search leaves belongs to the cheapest set
found : (c : After-settle-x)
    → Tries (columns_in c.args.usable c.args.mapping.now) c.args.m c.args.charges.now c.args.k (cheapest (columns_in c.args.usable c.args.mapping.now) c.args.m c.args.charges.now c.args.k) c.settle-x.result
found c =
    let a = c.args in
    let covers = lowest_covers _ _ _ _ c.lowest_unmatched-e.ensures c.if-e-m.false in
    found_cheapest a.mapping.now a.usable a.m a.charges.now a.k c.masks_of-masks.result c.first_edges.result c.settle-x.result c.requires.0 covers (masked a.mapping.now c.masks_of-masks.result a.usable a.k a.m c.columns_in-columns.ensures c.masks_of-masks.ensures) c.first_edges.ensures c.settle-x.ensures

pub returns-then-e-m : goal.returns-then-e-m
returns-then-e-m c =
    let a = c.args in
    lacking_told a.mapping.now a.usable a.m a.charges.now a.k c.lowest_unmatched-e.result (lowest_leaves _ _ _ _ c.lowest_unmatched-e.ensures c.if-e-m.true) c.lowest_unmatched-e.ensures

pub settle-x-requires : goal.settle-x-requires
settle-x-requires c =
    let a = c.args in
    let pre = c.requires in
    (pre.0, omega (arith, pre.2), search rules, reaches_edges (columns_in a.usable a.mapping.now) a.m a.k c.masks_of-masks.result (masked a.mapping.now c.masks_of-masks.result a.usable a.k a.m c.columns_in-columns.ensures c.masks_of-masks.ensures) c.first_edges.result c.first_edges.ensures c.reach_of-reach.result pre.0 c.reach_of-reach.ensures)

pub choose-chosen-requires : goal.choose-chosen-requires
choose-chosen-requires c =
    let pre = c.requires in
    (pre.1, pre.0, lowest_covers _ _ _ _ c.lowest_unmatched-e.ensures c.if-e-m.false)

pub overflow_cast-result-2 : goal.overflow_cast-result-2
overflow_cast-result-2 c =
    let a = c.args in
    omega (arith, found_small a.mapping.now a.usable a.m a.charges.now a.k c.settle-x.result c.requires.0 (found (goal.at.overflow_cast-result-2 c).After-settle-x))

pub overflow_cast-result-3 : goal.overflow_cast-result-3
overflow_cast-result-3 c =
    let a = c.args in
    omega (arith, chosen_fits a.mapping.now a.usable a.m a.charges.now a.k c.requires.0, c.choose-chosen.ensures)

pub returns : goal.returns
returns c =
    let a = c.args in
    let covers = lowest_covers _ _ _ _ c.lowest_unmatched-e.ensures c.if-e-m.false in
    found_told a.mapping.now a.usable a.m a.charges.now a.k c.settle-x.result c.choose-chosen.result covers (found (goal.at.returns c).After-settle-x) c.choose-chosen.ensures
