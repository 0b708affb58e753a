-- `packed::matches::is_none` meets its contract.
use Prim.Native.Nat.{ℕ}
use mathlib.Core.Path.{◌≡◌, refl, ap, sym, ◌∙◌}
use mathlib.Core.Bool.{Bool, ◌||◌}
use lib.ListN.{get_or}
use lib.Dec.{eqb}
use native.Mathlib.Omega.{arith}
use Rattle.packed.specs.Matches.{any_zero}
use Rattle.packed.proofs.MatchLaws.{zero_next}
use Rattle.packed.proofs.matches.is_none.Goals as goal

pub loop-e-init : goal.loop-e-init
unfolding any_zero
loop-e-init c = (omega arith, refl)

pub loop-e-preserved : goal.loop-e-preserved
loop-e-preserved c =
    let l = c.loop-e in
    (omega arith, ap (λ (b : Bool). b || eqb (get_or c.args.c l.e 0) 0) l.invariant.1 ∙ sym (zero_next l.e c.args.c))

pub returns : goal.returns
returns c =
    let e : c.loop-e.e ≡ c.args.m = omega arith in
    c.loop-e.invariant.1 ∙ ap (λ (k : ℕ). any_zero k c.args.c) e
