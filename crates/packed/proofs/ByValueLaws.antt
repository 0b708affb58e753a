-- A table filled from words, one a turn.
use mathlib.Core.Path.{◌≡◌, refl, ap, sym, subst, ◌∙◌}
use mathlib.Core.Logic.{⊎_elim}
use mathlib.Core.List.{List}
use Prim.Native.Nat.{ℕ, zero, suc, ◌+◌, ◌*◌, ◌<◌, ◌≤◌}
use native.Mathlib.Omega.{arith}
use lib.ListN.{length, get_or, set, length-set, replicate, length-replicate}
use lib.Seq.{get_or-set_same, get_or-set_other}
use Rattle.packed.specs.ByValue.{Spread}
use Rattle.packed.proofs.OrderCases.{lt_or_ge, eq_or_ne}

pub nothing_at : (n j : ℕ) → ◌≡◌ {A = ℕ} (get_or (replicate n 0) j 0) 0
nothing_at zero j = refl
nothing_at (suc n) zero = refl
nothing_at (suc n) (suc j) = nothing_at n j

module _ (ws : List ℕ) (first step size : ℕ) where
  pub spread_start : (r : List ℕ) → r ≡ replicate size 0 → Spread ws first step 0 size r
  spread_start r e =
      record {
        long = ap length e ∙ length-replicate size 0;
        each = λ j l. absurd (omega arith);
        rest = λ j l. ap (λ (t : List ℕ). get_or t j 0) e ∙ nothing_at size j;
      }

  pub spread_more : (n : ℕ) (r : List ℕ) (x : ℕ) → Spread ws first step n size r → n < size → x ≡ get_or ws (first + step * n) 0 → Spread ws first step (n + 1) size (set r n x)
  spread_more n r x s l e =
      let h : n < length r = let z = s.long in omega arith in
      record {
        long = length-set r n x ∙ s.long;
        each = λ j q. ⊎_elim
            (λ z. subst (λ (k : ℕ). get_or (set r n x) k 0 ≡ get_or ws (first + step * k) 0) (sym z) (get_or-set_same r n x 0 h ∙ e))
            (λ z. get_or-set_other r n j x 0 z ∙ s.each j (⊎_elim (λ (p : j < n). p) (λ (p : n ≤ j). absurd (z (omega arith))) (lt_or_ge j n)))
            (eq_or_ne j n);
        rest = λ j q. get_or-set_other r n j x 0 (λ z. omega arith) ∙ s.rest j (omega arith);
      }

  pub spread_end : (n k : ℕ) (r : List ℕ) → Spread ws first step n size r → n ≡ k → Spread ws first step k size r
  spread_end n k r s e = subst (λ (x : ℕ). Spread ws first step x size r) e s
