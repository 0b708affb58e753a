-- The set bits of a mask, one after the other from the lowest on.
use Prim.Native.Nat.{ℕ, zero, suc, ◌+◌, ◌-◌, ◌/◌, ◌%◌, ◌^◌, ◌<◌, ◌≤◌}
use mathlib.Core.Path.{◌≡◌, refl, ap, sym, ◌∙◌}
use mathlib.Core.Logic.{⊎_elim}
use lib.Count.{count_trailing_zeros, under}
use lib.Pow.{shr-shr, shr_lt, shr_le, pow_mono, field, mod-mod-pow}
use native.Mathlib.Omega.{arith}
use native.Mathlib.Nat.{zero-add, div-one, lt_of_lt_of_le}
use native.Mathlib.Numerals.{add-one, one-add}
use Rattle.packed.proofs.OrderCases.{lt_or_ge}

record LowestBit (x t : ℕ) : Type 0 where
  here : x / 2 ^ t % 2 ≡ 1
  below : (j : ℕ) → j < t → x / 2 ^ j % 2 ≡ 0

halved : (x t : ℕ) → x / 2 ^ suc t ≡ x / 2 / 2 ^ t
halved x t = ap (λ (k : ℕ). x / 2 ^ k) (sym (one-add t)) ∙ sym (shr-shr x 1 t)

lowest : (d x : ℕ) → 0 < x → x < 2 ^ d → LowestBit x (count_trailing_zeros d x)
unfolding count_trailing_zeros
lowest zero x p h = absurd (omega arith)
lowest (suc d) x p h = go (x % 2) refl (λ e. lowest d (x / 2) (omega arith) (shr_lt d 1 (rw add-one h)))
  where
    go : (r : ℕ) → x % 2 ≡ r → (x % 2 ≡ 0 → LowestBit (x / 2) (count_trailing_zeros d (x / 2))) → LowestBit x (under r (count_trailing_zeros d (x / 2)))
    go zero e u =
        let t : ℕ = count_trailing_zeros d (x / 2) in
        record { here = ap (λ (y : ℕ). y % 2) (halved x t) ∙ (u e).here; below = low }
      where
        low : (j : ℕ) → j < suc (count_trailing_zeros d (x / 2)) → x / 2 ^ j % 2 ≡ 0
        low zero l = ap (λ (y : ℕ). y % 2) (div-one x) ∙ e
        low (suc j) l = ap (λ (y : ℕ). y % 2) (halved x j) ∙ (u e).below j (omega arith)
    go (suc r) e u = record { here = ap (λ (y : ℕ). y % 2) (div-one x) ∙ omega arith; below = λ j l. absurd (omega arith) }

-- what is left of x from the bit k on has its lowest set bit z places further
pub record Next (x k left z : ℕ) : Type 0 where
  pub here : x / 2 ^ (k + z) % 2 ≡ 1
  pub below : (j : ℕ) → k ≤ j → j < k + z → x / 2 ^ j % 2 ≡ 0
  pub rest : left / 2 ^ z / 2 ≡ x / 2 ^ (k + z + 1)
  pub inside : k + z < 32

-- a number below 2 ^ m has no bit from m on
pub bit_high : (x m e : ℕ) → x < 2 ^ m → m ≤ e → x / 2 ^ e % 2 ≡ 0
bit_high x m e h l =
    let z : x / 2 ^ e < 2 ^ 0 = shr_lt 0 e (rw zero-add (lt_of_lt_of_le h (pow_mono l))) in
    omega arith

bit_inside : (x e m : ℕ) → x < 2 ^ m → x / 2 ^ e % 2 ≡ 1 → e < m
bit_inside x e m h y = ⊎_elim (λ (l : e < m). l) (λ (l : m ≤ e). absurd (omega (arith, bit_high x m e h l))) (lt_or_ge e m)

pub next_bit : (x k left : ℕ) → x < 2 ^ 32 → left ≡ x / 2 ^ k → 0 < left → Next x k left (count_trailing_zeros 32 left)
next_bit x k left h e p =
    let z : ℕ = count_trailing_zeros 32 left in
    let u : LowestBit left z = lowest 32 left p (omega (arith, shr_le x k)) in
    let y : x / 2 ^ (k + z) % 2 ≡ 1 = ap (λ (i : ℕ). i % 2) (sym (shr-shr x k z) ∙ ap (λ (i : ℕ). i / 2 ^ z) (sym e)) ∙ u.here in
    record {
      here = y;
      below = λ j a b.
          (let f : k + (j - k) ≡ j = omega arith in
          ap (λ (i : ℕ). x / 2 ^ i % 2) (sym f)
          ∙ ap (λ (i : ℕ). i % 2) (sym (shr-shr x k (j - k)) ∙ ap (λ (i : ℕ). i / 2 ^ (j - k)) (sym e))
          ∙ u.below (j - k) (omega arith));
      rest = ap (λ (i : ℕ). i / 2 ^ z / 2) e ∙ ap (λ (i : ℕ). i / 2) (shr-shr x k z) ∙ shr-shr x (k + z) 1;
      inside = bit_inside x (k + z) 32 h y;
    }

-- nothing is left
pub no_bits : (x k left : ℕ) → left ≡ x / 2 ^ k → left ≡ 0 → (j : ℕ) → k ≤ j → x / 2 ^ j % 2 ≡ 0
no_bits x k left e z j a =
    let f : k + (j - k) ≡ j = omega arith in
    let g : x / 2 ^ j ≡ x / 2 ^ k / 2 ^ (j - k) = ap (λ (i : ℕ). x / 2 ^ i) (sym f) ∙ sym (shr-shr x k (j - k)) in
    omega (arith, shr_le (x / 2 ^ k) (j - k))

-- the low bits of x are those of x
pub bit_low : (x m e : ℕ) → e < m → x % 2 ^ m / 2 ^ e % 2 ≡ x / 2 ^ e % 2
bit_low x m e h =
    let f : m - e + e ≡ m = omega arith in
    let g : m - e - 1 + 1 ≡ m - e = omega arith in
    ap (λ (k : ℕ). x % 2 ^ k / 2 ^ e % 2) (sym f)
    ∙ ap (λ (y : ℕ). y % 2) (field x (m - e) e)
    ∙ ap (λ (k : ℕ). x / 2 ^ e % 2 ^ k % 2) (sym g)
    ∙ mod-mod-pow (x / 2 ^ e) (m - e - 1) 1
