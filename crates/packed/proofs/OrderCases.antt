-- Cases on numbers and tests.
use mathlib.Core.Path.{◌≡◌, refl, ap, ◌∙◌, sym}
use mathlib.Core.Bool.{Bool, true, false, ◌&&◌, ◌||◌}
use mathlib.Core.Logic.{◌⊎◌, inl, inr, ⊎_elim}
use Prim.Native.Nat.{ℕ, zero, suc, ◌≤◌, ◌<◌, ◌+◌, zero-le, suc-le-suc}
use native.Mathlib.Nat.{eq-or-lt_of_le}
use native.Mathlib.Omega.{arith}
use lib.Dec.{eqb, ltb}
use borrow.Author.Tests.{eq-eqb, ne_eqb, lt-ltb, le-ltb}
use Rattle.packed.specs.Bits.{one}

pub lt_or_ge : (a b : ℕ) → (a < b) ⊎ (b ≤ a)
lt_or_ge a zero = inr zero-le
lt_or_ge zero (suc b) = inl (omega arith)
lt_or_ge (suc a) (suc b) = ⊎_elim (λ h. inl (suc-le-suc h)) (λ h. inr (suc-le-suc h)) (lt_or_ge a b)

pub eq_or_ne : (a b : ℕ) → (a ≡ b) ⊎ (a ≡ b → ⊥)
eq_or_ne zero zero = inl refl
eq_or_ne zero (suc b) = inr (λ e. omega arith)
eq_or_ne (suc a) zero = inr (λ e. omega arith)
eq_or_ne (suc a) (suc b) = ⊎_elim (λ h. inl (ap suc h)) (λ h. inr (λ e. h (omega arith))) (eq_or_ne a b)

-- below, equal, or above
pub trichotomy : {P : Type 0} (a b : ℕ) → (a < b → P) → (a ≡ b → P) → (b < a → P) → P
trichotomy a b f g h = ⊎_elim f (λ l. ⊎_elim (λ e. g (sym e)) h (eq-or-lt_of_le l)) (lt_or_ge a b)

pub one_eq : (a b : ℕ) → a ≡ b → one (eqb a b) ≡ 1
one_eq a b h = ap one (eq-eqb a b h)

pub one_ne : (a b : ℕ) → (a ≡ b → ⊥) → one (eqb a b) ≡ 0
one_ne a b h = ap one (ne_eqb a b h)

pub one_lt : (a b : ℕ) → a < b → one (ltb a b) ≡ 1
one_lt a b h = ap one (lt-ltb a b h)

pub one_ge : (a b : ℕ) → b ≤ a → one (ltb a b) ≡ 0
one_ge a b h = ap one (le-ltb a b h)

-- below the next number: below, or equal
pub one_step : (x d : ℕ) → one (ltb x (suc d)) ≡ one (ltb x d) + one (eqb d x)
one_step x d =
    ⊎_elim
    (λ h. let a = one_lt x (suc d) (omega arith) in let b = one_lt x d h in let c = one_ne d x (λ e. omega arith) in omega arith)
    (λ h. ⊎_elim
    (λ e. let a = one_lt x (suc d) (omega arith) in let b = one_ge x d h in let c = one_eq d x e in omega arith)
    (λ n. let g : suc d ≤ x = ⊎_elim (λ (p : d < x). p) (λ (p : x ≤ d). absurd (n (omega arith))) (lt_or_ge d x) in
    let a = one_ge x (suc d) g in let b = one_ge x d h in let c = one_ne d x n in omega arith)
    (eq_or_ne d x))
    (lt_or_ge x d)

-- ---- tests
pub eqb_sym : (a b : ℕ) → eqb a b ≡ eqb b a
eqb_sym a b = ⊎_elim (λ e. eq-eqb a b e ∙ sym (eq-eqb b a (sym e))) (λ n. ne_eqb a b n ∙ sym (ne_eqb b a (λ e. n (sym e)))) (eq_or_ne a b)

pub or_cases : (a b : Bool) → (a || b) ≡ true → (a ≡ true) ⊎ (b ≡ true)
or_cases true b h = inl refl
or_cases false b h = inr h

pub or_neither : (a b : Bool) → (a || b) ≡ false → (a ≡ false) × (b ≡ false)
or_neither true b h = absurd (let z : ◌≡◌ {A = ℕ} 0 1 = cc in omega arith)
or_neither false b h = (refl, h)

pub and_both : (a b : Bool) → (a && b) ≡ true → (a ≡ true) × (b ≡ true)
and_both true b h = (refl, h)
and_both false b h = absurd (let z : ◌≡◌ {A = ℕ} 0 1 = cc in omega arith)

pub and_cases : (a b : Bool) → (a && b) ≡ false → (a ≡ false) ⊎ (b ≡ false)
and_cases true b h = inr h
and_cases false b h = inl refl
