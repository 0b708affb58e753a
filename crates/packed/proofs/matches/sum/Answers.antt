-- `packed::matches::sum` meets its contract.
use Prim.Native.Nat.{ℕ, ◌+◌}
use mathlib.Core.Path.{◌≡◌, refl, ap, sym, ◌∙◌}
use lib.ListN.{get_or}
use native.Mathlib.Omega.{arith}
use Rattle.packed.specs.Matches.{sum_of}
use Rattle.packed.proofs.MatchLaws.{sum_next}
use Rattle.packed.proofs.matches.sum.Goals as goal

pub loop-e-init : goal.loop-e-init
unfolding sum_of
loop-e-init c = (omega arith, refl, omega arith)

pub loop-e-preserved : goal.loop-e-preserved
loop-e-preserved c =
    let l = c.loop-e in
    let h = c.requires.1 l.e in
    (omega arith, ap (λ (k : ℕ). k + get_or c.args.c l.e 0) l.invariant.1 ∙ sym (sum_next l.e c.args.c), omega arith)

pub returns : goal.returns
returns c =
    let e : c.loop-e.e ≡ c.args.m = omega arith in
    (c.loop-e.invariant.1 ∙ ap (λ (k : ℕ). sum_of k c.args.c) e, omega arith)
