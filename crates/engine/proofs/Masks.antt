-- Labels as bits of a mask.
use mathlib.Core.Path.{◌≡◌, ap, subst, ◌∙◌}
use Prim.Native.Nat.{ℕ, suc, ◌+◌, ◌-◌, ◌/◌, ◌%◌, ◌^◌, ◌<◌}
use native.Mathlib.Nat.{div-eq_of_lt, div_self}
use native.Mathlib.Decide.{dec_lt}
use native.Mathlib.Omega.{arith}
use lib.Pow.{pow-lt, pow_pos, pow-add, shl-shr}
use lib.Dec.{T, eqb→eq}
use Rattle.engine.specs.Simulation.{bit}

pub bit_self : (a : ℕ) → T (bit (2 ^ a) a)
unfolding bit
bit_self a = rw (div_self (pow_pos a)) tt

bit_low : (a b : ℕ) → a < b → T (bit (2 ^ a) b) → ⊥
unfolding bit
bit_low a b h t = rw (div-eq_of_lt (pow-lt h)) at t

bit_high : (b c : ℕ) → T (bit (2 ^ (suc c + b)) b) → ⊥
unfolding bit
bit_high b c t =
    let e : (2 ^ (suc c + b)) / 2 ^ b ≡ 2 ^ suc c = ap (λ z. z / 2 ^ b) (pow-add 2 (suc c) b) ∙ shl-shr (2 ^ suc c) b in
    let o : (2 ^ (suc c + b)) / 2 ^ b % 2 ≡ 1 = eqb→eq _ _ t in
    omega arith

-- a mask with one bit has that bit alone
pub bit_one : (a b : ℕ) → T (bit (2 ^ a) b) → b ≡ a
bit_one a b t = step (dec_lt a b) (dec_lt b a)
  where
    step : Dec (a < b) → Dec (b < a) → b ≡ a
    step (yes h) d = absurd (bit_low a b h t)
    step (no n) (yes h) =
        let e : a ≡ suc (a - suc b) + b = omega arith in
        absurd (bit_high b (a - suc b) (subst (λ z. T (bit (2 ^ z) b)) e t))
    step (no n) (no m) = omega arith
