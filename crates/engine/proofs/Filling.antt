-- A loop that writes the n words from b on, one a turn.
use mathlib.Core.Path.{◌≡◌, refl, ◌∙◌, sym, subst}
use mathlib.Core.Logic.{⊎_elim}
use mathlib.Core.List.{List}
use Prim.Native.Nat.{ℕ, ◌≤◌, ◌<◌, ◌+◌, zero-le}
use native.Mathlib.Nat.{zero-add}
use native.Mathlib.Omega.{arith}
use lib.ListN.{length, get_or, set, length-set}
use lib.Seq.{get_or-set_same, get_or-set_other}
use Rattle.packed.specs.Order.{Outside}
use Rattle.packed.proofs.OrderCases.{lt_or_ge, eq_or_ne}

-- each of the first v has Q, all others are as they were
pub record Filling (b n : ℕ) (Q : ℕ → ℕ → Type 0) (w₀ w : List ℕ) (v : ℕ) : Type 0 where
  pub upto : v ≤ n
  pub long : length w ≡ length w₀
  pub low : (k : ℕ) → k < b → get_or w k 0 ≡ get_or w₀ k 0
  pub later : (k : ℕ) → b + v ≤ k → get_or w k 0 ≡ get_or w₀ k 0
  pub done : (j : ℕ) → j < v → Q j (get_or w (b + j) 0)

module _ (b n : ℕ) (Q : ℕ → ℕ → Type 0) where
  pub filling_start : (w : List ℕ) → Filling b n Q w w 0
  filling_start w = record { upto = zero-le; long = refl; low = λ k l. refl; later = λ k l. refl; done = λ j l. absurd (omega arith) }

  module _ {w₀ w : List ℕ} {v : ℕ} (t : Filling b n Q w₀ w v) where
    pub filling_more : (at x : ℕ) → v < n → b + n ≤ length w₀ → at ≡ b + v → Q v x → Filling b n Q w₀ (set w at x) (v + 1)
    filling_more at x l h e q =
        let i : at < length w = let z = t.long in omega arith in
        record {
          upto = omega arith;
          long = length-set w at x ∙ t.long;
          low = λ k p. get_or-set_other w at k x 0 (λ z. omega arith) ∙ t.low k p;
          later = λ k p. get_or-set_other w at k x 0 (λ z. omega arith) ∙ t.later k (omega arith);
          done = λ j p. ⊎_elim
              (λ (z : j ≡ v). let y : at ≡ b + j = omega arith in
              subst (λ (k : ℕ). Q j (get_or (set w at x) k 0)) y (subst (Q j) (sym (get_or-set_same w at x 0 i)) (subst (λ (k : ℕ). Q k x) (sym z) q)))
              (λ (z : j ≡ v → ⊥). subst (Q j) (sym (get_or-set_other w at (b + j) x 0 (λ y. z (omega arith))))
              (t.done j (⊎_elim (λ (y : j < v). y) (λ (y : v ≤ j). absurd (z (omega arith))) (lt_or_ge j v))))
              (eq_or_ne j v);
        }

    pub filling_around : n ≤ v → Outside b n w₀ w
    filling_around l = record { long = t.long; low = t.low; high = λ k p. t.later k (let z = t.upto in omega arith) }

    pub filling_each : n ≤ v → (j : ℕ) → j < n → Q j (get_or w (b + j) 0)
    filling_each l j p = t.done j (omega arith)

-- the same from the front on
pub filling_upto : (n : ℕ) (Q : ℕ → ℕ → Type 0) {w₀ w : List ℕ} {v : ℕ} → Filling 0 n Q w₀ w v → (j : ℕ) → j < v → Q j (get_or w j 0)
filling_upto n Q {w = w} t j p = subst (λ (k : ℕ). Q j (get_or w k 0)) (zero-add j) (t.done j p)

pub filling_front : (n : ℕ) (Q : ℕ → ℕ → Type 0) {w₀ w : List ℕ} {v : ℕ} → Filling 0 n Q w₀ w v → n ≤ v → (j : ℕ) → j < n → Q j (get_or w j 0)
filling_front n Q t l j p = filling_upto n Q t j (omega arith)
