-- `containment::terms::in_force` meets its contract.
use mathlib.Core.Path.{◌≡◌, refl, ap, ◌∙◌}
use Prim.Native.Nat.{ℕ, ◌+◌}
use native.Mathlib.Omega.{arith}
use lib.Pow.{pow-lt}
use Rattle.containment.specs.Terms.{in_force}
use Rattle.containment.proofs.TermsLaws.{force_small, force_adds, force_skips}
use Rattle.containment.proofs.terms.in_force.Goals as goal
use Rattle.containment.proofs.terms.in_force.Goals.{then-is_in_force, else-is_in_force}

pub loop-a-init : goal.loop-a-init
unfolding in_force
loop-a-init c = refl

pub overflow_add-set : goal.overflow_add-set
overflow_add-set c =
    let l = c.loop-a in
    let a = c.args in
    let s = force_small a.t a.day l.a in
    let p = pow-lt {i = l.a} {j = 16} (omega arith) in
    omega arith

pub loop-a-preserved : goal.loop-a-preserved
loop-a-preserved c =
    let l = c.loop-a in
    let e = c.is_in_force.ensures in
    elim c.if-is_in_force.branch [
      | then-is_in_force w ↦ w.set-is ∙ ap (λ (x : ℕ). l.set + x) w.only-set.ensures ∙ force_adds _ _ _ _ l.invariant (rw e at w.if-is_in_force.true)
      | else-is_in_force w ↦ w.set-is ∙ force_skips _ _ _ _ l.invariant (rw e at w.if-is_in_force.false)
    ]

pub returns : goal.returns
returns c =
    let e : c.loop-a.a ≡ c.args.k = omega arith in
    rw (← e) c.loop-a.invariant
