-- `containment::choose::union` meets its contract.
use mathlib.Core.Path.{◌≡◌, sym, subst, ◌∙◌}
use Prim.Native.Nat.{ℕ, ◌+◌}
use native.Mathlib.Omega.{arith}
use Rattle.engine.specs.Masks.{Mask}
use Rattle.containment.specs.Masked.{EdgeMatchedIn}
use Rattle.containment.proofs.MaskedLaws.{union_none, union_in, union_out}
use Rattle.containment.proofs.choose.union.Goals as goal
use Rattle.containment.proofs.choose.union.Goals.{then-is_in, else-is_in}

pub loop-a-init : goal.loop-a-init
loop-a-init c = λ t m h. union_none t m _

pub loop-a-preserved : goal.loop-a-preserved
loop-a-preserved c =
    let s = c.args.set in
    let l = c.loop-a in
    let b = c.is_in.ensures in
    λ t m h.
    elim c.if-is_in.branch [
      | then-is_in w ↦ subst (Mask (EdgeMatchedIn t m s (l.a + 1))) (sym w.matched-is) (union_in t m s l.a (l.invariant t m h) (sym b ∙ w.if-is_in.true) (h l.a (omega arith)))
      | else-is_in w ↦ subst (Mask (EdgeMatchedIn t m s (l.a + 1))) (sym w.matched-is) (union_out t m s l.a (l.invariant t m h) (sym b ∙ w.if-is_in.false))
    ]

pub returns : goal.returns
returns c =
    let a = c.args in
    let e : c.loop-a.a ≡ a.k = omega arith in
    λ t m h. subst (λ (z : ℕ). Mask (EdgeMatchedIn t m a.set z) c.loop-a.matched) e (c.loop-a.invariant t m h)
