-- `containment::choose::edges_of` meets its contract: the mask of the edges passed.
use mathlib.Core.Path.{◌≡◌, sym, subst}
use Prim.Native.Nat.{ℕ, ◌+◌}
use native.Mathlib.Omega.{arith}
use Rattle.engine.specs.Masks.{Mask}
use Rattle.containment.specs.Masked.{EdgeMatchedBy}
use Rattle.containment.proofs.SetBits.{passing_none, passing_more, passing_same}
use Rattle.containment.proofs.MaskedLaws.{matches_yes, matches_no}
use Rattle.containment.proofs.choose.edges_of.Goals as goal
use Rattle.containment.proofs.choose.edges_of.Goals.{then-mapping-at-ne0, else-mapping-at-ne0}

pub loop-e-init : goal.loop-e-init
loop-e-init c = passing_none _

pub loop-e-preserved : goal.loop-e-preserved
loop-e-preserved c =
    let a = c.args in
    let l = c.loop-e in
    elim c.if-mapping-at-ne0.branch [
      | then-mapping-at-ne0 w ↦ subst (Mask (EdgeMatchedBy a.mapping.now a.a (l.e + 1))) (sym w.mask-is) (passing_more _ l.invariant (matches_yes _ _ _ w.if-mapping-at-ne0.true) _ w.only-mask.ensures)
      | else-mapping-at-ne0 w ↦ subst (Mask (EdgeMatchedBy a.mapping.now a.a (l.e + 1))) (sym w.mask-is) (passing_same _ l.invariant (matches_no _ _ _ w.if-mapping-at-ne0.false))
    ]

pub returns : goal.returns
returns c =
    let a = c.args in
    let e : c.loop-e.e ≡ a.m = omega arith in
    subst (λ (z : ℕ). Mask (EdgeMatchedBy a.mapping.now a.a z) c.loop-e.mask) e c.loop-e.invariant
