-- `containment::days::earliest_of` meets its contract.
use mathlib.Core.Path.{◌≡◌, ap, ◌∙◌}
use native.Mathlib.Omega.{arith}
use native.Mathlib.Numerals.{add-one}
use Rattle.containment.specs.Terms.{earliest}
use Rattle.containment.proofs.days.earliest_of.Goals as goal

pub loop-a-init : goal.loop-a-init
unfolding earliest
loop-a-init c = c.sooner_of-found.ensures _ c.masks_of-masks.ensures

pub loop-a-preserved : goal.loop-a-preserved
unfolding earliest
loop-a-preserved c = c.sooner_of-found-in-loop-a.ensures _ c.masks_of-masks.ensures ∙ rw (add-one, ← c.loop-a.invariant)

pub returns : goal.returns
returns c =
    let e : c.loop-a.a ≡ c.args.k = omega arith in
    c.loop-a.invariant ∙ ap (earliest _ _ _) e
