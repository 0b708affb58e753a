-- `containment::choose::drop_views` meets its contract.
use borrow.Author.Tests.{eq-eqb, ne_eqb}
use mathlib.Core.Path.{◌≡◌, refl, ap, sym, ◌∙◌}
use native.Mathlib.Omega.{arith}
use Rattle.containment.specs.Choice.{kept}
use Rattle.containment.proofs.ChoiceLaws.{turn_drops, turn_lacks, turn_needs}
use Rattle.containment.proofs.MaskedLaws.{union_covers}
use Rattle.containment.proofs.SetBits.{bit_le}
use Rattle.containment.proofs.choose.drop_views.Goals as goal
use Rattle.containment.proofs.choose.drop_views.Goals.{then-is_in+then-union-all, then-is_in+else-union-all, else-is_in}

pub loop-a-init : goal.loop-a-init
unfolding kept
loop-a-init c = λ t h. refl

pub overflow_sub-less : goal.overflow_sub-less
overflow_sub-less c =
    let loop = c.loop-a in
    let is-in = c.is_in in
    let if1 = c.if-is_in in
    let s = loop.set in
    omega (arith, bit_le s _ (sym is-in.ensures ∙ if1.true))

pub loop-a-preserved : goal.loop-a-preserved
loop-a-preserved c =
    let l = c.loop-a in
    let b = c.is_in.ensures in
    let all = c.first_edges-all.ensures in
    λ t h.
    elim c.if-is_in.branch [
      | then-is_in+then-union-all w ↦ w.set-is ∙ turn_drops _ _ _ _ _ _ (l.invariant t h) _ w.only.ensures (sym b ∙ w.if-is_in.true) (sym (union_covers t _ _ _ (w.union.ensures t _ h)) ∙ eq-eqb _ _ (w.if-union-all.true ∙ all))
      | then-is_in+else-union-all w ↦ w.set-is ∙ turn_needs _ _ _ _ _ _ (l.invariant t h) _ w.only.ensures (sym b ∙ w.if-is_in.true) (sym (union_covers t _ _ _ (w.union.ensures t _ h)) ∙ ne_eqb _ _ (λ z. w.if-union-all.false (z ∙ sym all)))
      | else-is_in w ↦ w.set-is ∙ turn_lacks _ _ _ _ _ _ (l.invariant t h) (sym b ∙ w.if-is_in.false)
    ]

pub returns : goal.returns
returns c =
    let e : c.loop-a.a ≡ c.args.k = omega arith in
    λ t h. c.loop-a.invariant t h ∙ ap (kept _ _ _ _) e
