-- `containment::choose::take_views` meets its contract.
use mathlib.Core.Path.{◌≡◌, ap, ◌∙◌}
use native.Mathlib.Omega.{arith}
use Rattle.containment.specs.Choice.{taken}
use Rattle.containment.proofs.MaskedLaws.{taking_none, taking_more, taking_same}
use Rattle.containment.proofs.choose.take_views.Goals as goal
use Rattle.containment.proofs.choose.take_views.Goals.{then-is_in-more, else-is_in-more}

pub loop-a-init : goal.loop-a-init
loop-a-init c = taking_none _ _ _

pub loop-a-preserved : goal.loop-a-preserved
loop-a-preserved c =
    let l = c.loop-a in
    let i = c.is_in.ensures in
    elim c.if-is_in-more.branch [
      | then-is_in-more w ↦ rw (w.first-is, w.matched-is) (taking_more _ _ _ (omega arith) l.invariant _ w.only-first.ensures (rw i at w.if-is_in-more.true))
      | else-is_in-more w ↦ rw (w.first-is, w.matched-is) (taking_same _ _ _ (omega arith) l.invariant (rw i at w.if-is_in-more.false))
    ]

pub returns : goal.returns
returns c =
    let e : c.loop-a.a ≡ c.args.k = omega arith in
    λ t m h. (c.loop-a.invariant.says t m h).0 ∙ ap (taken t _ m) e
