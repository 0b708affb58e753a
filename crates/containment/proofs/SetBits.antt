-- A set as a mask of bits: what a set of one number more, or one less, has.
use mathlib.Core.Path.{◌≡◌, refl, ap, sym, subst, ◌∙◌}
use mathlib.Core.Bool.{Bool, true, false}
use mathlib.Core.Logic.{◌⊎◌, inl, inr, ⊎_elim}
use Prim.Native.Nat.{ℕ, zero, suc, ◌+◌, ◌-◌, ◌/◌, ◌%◌, ◌^◌, ◌<◌, ◌≤◌}
use native.Mathlib.Nat.{div-one, div-eq_of_lt, add-div_right, pow-suc}
use native.Mathlib.Omega.{arith}
use lib.Dec.{eqb}
use lib.Bits.{bit_or}
use lib.Pow.{pow_pos, pow_mono, shr-shr}
use borrow.Author.Tests.{eqb-true, eq-eqb, ne_eqb}
use Rattle.packed.proofs.OrderCases.{lt_or_ge}
use Rattle.engine.specs.Simulation.{bit}
use Rattle.engine.specs.Masks.{Mask}
use Rattle.engine.proofs.MaskBits.{has_say, not_by, none_has, mask_cast, mask_or, mask_one, mask_none}
use Rattle.containment.specs.Choice.{Passing}

-- a test is true or false
pub test_cases : (b : Bool) → (b ≡ true) ⊎ (b ≡ false)
test_cases true = inl refl
test_cases false = inr refl

pub never : {P : Type 0} → true ≡ false → P
never h = absurd (let z : ◌≡◌ {A = ℕ} 0 1 = cc in omega arith)

pub bit_say : (x k : ℕ) → bit x k ≡ true → x / 2 ^ k % 2 ≡ 1
unfolding bit
bit_say x k h = eqb-true _ _ h

pub bit_by : (x k : ℕ) → x / 2 ^ k % 2 ≡ 1 → bit x k ≡ true
unfolding bit
bit_by x k e = eq-eqb _ _ e

bit_none : (x k : ℕ) → x / 2 ^ k % 2 ≡ 0 → bit x k ≡ false
unfolding bit
bit_none x k e = ne_eqb _ _ (λ (o : x / 2 ^ k % 2 ≡ 1). omega arith)

bit_lacks : (x k : ℕ) → bit x k ≡ false → x / 2 ^ k % 2 ≡ 0
bit_lacks x k h =
    ⊎_elim (λ (l : x / 2 ^ k % 2 < 1). omega arith) (λ (l : 1 ≤ x / 2 ^ k % 2). never (sym (bit_by x k (omega arith)) ∙ h))
    (lt_or_ge (x / 2 ^ k % 2) 1)

half : (x k : ℕ) → x / 2 ^ suc k ≡ x / 2 / 2 ^ k
half x k = sym (shr-shr x 1 k ∙ ap (λ (n : ℕ). x / 2 ^ n) (omega arith))

-- the bits of half a mask
pub bit_half : (x k : ℕ) → bit x (suc k) ≡ bit (x / 2) k
unfolding bit
bit_half x k = ap (λ (y : ℕ). eqb (y % 2) 1) (half x k)

-- adding 2 ^ a where its bit is 0 leaves the other bits
add_other : (a b x : ℕ) → x / 2 ^ a % 2 ≡ 0 → (a ≡ b → ⊥) → (x + 2 ^ a) / 2 ^ b % 2 ≡ x / 2 ^ b % 2
add_other zero zero x e n = absurd (n refl)
add_other zero (suc b) x e n =
    let d = div-one x in
    let h : (x + 1) / 2 ≡ x / 2 = omega arith in
    rw (half (x + 1) b, half x b, h)
add_other (suc a) zero x e n =
    let p = pow-suc 2 a in
    rw (div-one (x + 2 ^ suc a), div-one x) (omega arith)
add_other (suc a) (suc b) x e n =
    let p = pow-suc 2 a in
    let h : (x + 2 ^ suc a) / 2 ≡ x / 2 + 2 ^ a = omega arith in
    rw (half (x + 2 ^ suc a) b, half x b, h) (add_other a b (x / 2) (rw (half x a) at e) (λ q. n (ap suc q)))

-- ---- order
pub bit_le : (x a : ℕ) → bit x a ≡ true → 2 ^ a ≤ x
bit_le x a h =
    let e = bit_say x a h in
    ⊎_elim (λ (l : x < 2 ^ a). absurd (let z = div-eq_of_lt l in omega arith)) (λ l. l) (lt_or_ge x (2 ^ a))

pub bit_lt : (x a k : ℕ) → bit x a ≡ true → x < 2 ^ k → a < k
bit_lt x a k h l =
    let e = bit_le x a h in
    ⊎_elim (λ (p : a < k). p) (λ (p : k ≤ a). absurd (let q = pow_mono p in omega arith)) (lt_or_ge a k)

pub bit_over : (x a : ℕ) → x < 2 ^ a → bit x a ≡ false
bit_over x a l = bit_none x a (let z = div-eq_of_lt l in omega arith)

pub bit_zero : (a : ℕ) → bit 0 a ≡ false
bit_zero a = bit_over 0 a (pow_pos a)

-- the mask of all numbers below 16
pub bit_every : (a : ℕ) → a < 16 → bit 65535 a ≡ true
bit_every a l = bit_by 65535 a (has_say 65535 a (not_by 16 0 a (pow_pos 16) l (none_has a)))

-- ---- one number more
module _ (x a : ℕ) (out : bit x a ≡ false) where
  pub more_self : bit (x + 2 ^ a) a ≡ true
  more_self = bit_by (x + 2 ^ a) a (let d = add-div_right x (pow_pos a) in let e = bit_lacks x a out in omega arith)

  pub more_has : (b : ℕ) → bit x b ≡ true → bit (x + 2 ^ a) b ≡ true
  more_has b h = bit_by (x + 2 ^ a) b (add_other a b x (bit_lacks x a out) (λ e. never (sym h ∙ ap (bit x) (sym e) ∙ out)) ∙ bit_say x b h)

  pub more_other : (b : ℕ) → (a ≡ b → ⊥) → bit (x + 2 ^ a) b ≡ bit x b
  unfolding bit
  more_other b n = ap (λ (y : ℕ). eqb y 1) (add_other a b x (bit_lacks x a out) n)

-- ---- one number less
module _ (x a : ℕ) (has : bit x a ≡ true) where
  back : (x - 2 ^ a) + 2 ^ a ≡ x
  back = let l = bit_le x a has in omega arith

  pub less_self : bit (x - 2 ^ a) a ≡ false
  less_self = bit_none (x - 2 ^ a) a (let d = ap (λ (y : ℕ). y / 2 ^ a) back in let s = add-div_right (x - 2 ^ a) (pow_pos a) in let e = bit_say x a has in omega arith)

  other : (b : ℕ) → (a ≡ b → ⊥) → (x - 2 ^ a) / 2 ^ b % 2 ≡ x / 2 ^ b % 2
  other b n = sym (add_other a b (x - 2 ^ a) (bit_lacks _ a less_self) n) ∙ ap (λ (y : ℕ). y / 2 ^ b % 2) back

  pub less_say : (b : ℕ) → bit (x - 2 ^ a) b ≡ true → (bit x b ≡ true) × (a ≡ b → ⊥)
  less_say b h =
      let n : a ≡ b → ⊥ = λ e. never (sym h ∙ ap (bit (x - 2 ^ a)) (sym e) ∙ less_self) in
      (bit_by x b (sym (other b n) ∙ bit_say (x - 2 ^ a) b h), n)

  pub less_by : (b : ℕ) → bit x b ≡ true → (a ≡ b → ⊥) → bit (x - 2 ^ a) b ≡ true
  less_by b h n = bit_by (x - 2 ^ a) b (other b n ∙ bit_say x b h)

-- ---- the numbers that pass a test, as a mask
module _ (p : ℕ → Bool) where
  pub passing_none : Mask (Passing p 0) 0
  passing_none = mask_none (λ k q. let l = q.0 in omega arith)

  pub passing_more : {e mask : ℕ} → Mask (Passing p e) mask → p e ≡ true → (b : ℕ) → b ≡ 2 ^ e → Mask (Passing p (e + 1)) (bit_or mask b)
  passing_more {e} h y b q =
      mask_cast
      (λ k. ⊎_elim (λ z. (let l = z.0 in omega arith, z.1)) (λ z. (let l = z.0 in omega arith, subst (λ (x : ℕ). p x ≡ true) z.0 y)))
      (λ k z. ⊎_elim (λ (l : k < e). inl (l, z.1)) (λ (l : e ≤ k). inr (let n = z.0 in (omega arith, y))) (lt_or_ge k e))
      (mask_or h (mask_one e b q y))

  pub passing_same : {e mask : ℕ} → Mask (Passing p e) mask → p e ≡ false → Mask (Passing p (e + 1)) mask
  passing_same {e} h n =
      mask_cast (λ k z. (let l = z.0 in omega arith, z.1))
      (λ k z. ⊎_elim (λ (l : k < e). (l, z.1))
      (λ (l : e ≤ k). let m = z.0 in let q : k ≡ e = omega arith in never (sym z.1 ∙ ap p q ∙ n)) (lt_or_ge k e))
      h
