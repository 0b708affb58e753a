-- The edges that some mask names, and whether so many side by side are all named.
use Prim.Native.Nat.{ℕ, zero, suc, ◌+◌, ◌-◌, ◌*◌, ◌/◌, ◌%◌, ◌^◌, ◌<◌, ◌≤◌, max}
use mathlib.Core.Path.{◌≡◌, refl, ap, ap₂, sym, ◌∙◌}
use mathlib.Core.Logic.{⊎_elim}
use mathlib.Core.List.{List}
use mathlib.Core.Bool.{Bool, true, false, not, ◌||◌, ◌&&◌, and-true, and-false}
use lib.ListN.{length, get_or}
use lib.Bits.{bit_or, or_lt}
use lib.Dec.{eqb}
use lib.Pow.{mod-pow-add, pow_pos}
use native.Mathlib.Omega.{arith}
use native.Mathlib.Nat.{mod-lt, zero-div, pow-suc}
use native.Mathlib.Numerals.{one-add}
use borrow.Author.Tests.{eq-eqb, ne_eqb}
use Rattle.packed.specs.Matches.{marks, marked, marked_from, any_empty, Named}
use Rattle.packed.proofs.OrderCases.{eq_or_ne}
use Rattle.packed.proofs.NotedLaws.{bit_or_lem}
use Rattle.packed.proofs.MatchLaws.{under, lists_from, length_more, lists_next, empty_next, marks_from}

-- ---- one more mask

pub named_start : (w : List ℕ) → Named 0 w 0
unfolding marked marks
named_start w = record { small = omega arith; each = λ e l. ap (λ (k : ℕ). eqb (k % 2) 1) (zero-div (2 ^ e)) }

-- a bit is set in the one or in the other, and so many are counted
either : (a b k : ℕ) → a < 2 → b < 2 → eqb a 1 ≡ not (eqb k 0) → eqb (max a b) 1 ≡ not (eqb (k + b) 0)
either a b k h l e =
    ⊎_elim
    (λ (z : b ≡ 0).
    let m : max a b ≡ a = omega arith in
    let s : k ≡ k + b = omega arith in
    ap (λ (j : ℕ). eqb j 1) m ∙ e ∙ ap (λ (j : ℕ). not (eqb j 0)) s)
    (λ (z : b ≡ 0 → ⊥). eq-eqb (max a b) 1 (omega arith) ∙ sym (ap not (ne_eqb (k + b) 0 (λ y. z (omega arith)))))
    (eq_or_ne b 0)

pub named_next : {i : ℕ} {w : List ℕ} {x : ℕ} → Named i w x → 8192 + i < length w → get_or w (8192 + i) 0 < 2 ^ 32 → Named (i + 1) w (bit_or x (get_or w (8192 + i) 0))
unfolding marks
named_next {i} {w} {x} t h s =
    let q : ℕ = get_or w (8192 + i) 0 in
    record {
      small = or_lt 32 x q t.small s;
      each = λ e l.
          ap (λ (j : ℕ). eqb j 1) (bit_or_lem x q e)
          ∙ either (x / 2 ^ e % 2) (q / 2 ^ e % 2) (length (under e i w)) (omega arith) (omega arith) (t.each e l)
          ∙ ap (λ (j : ℕ). not (eqb j 0)) (sym (length_more e i w h));
    }

-- ---- all of them

eqb_same : (a b c d : ℕ) → (a ≡ b → c ≡ d) → (c ≡ d → a ≡ b) → eqb a b ≡ eqb c d
eqb_same a b c d f g =
    ⊎_elim (λ (z : a ≡ b). eq-eqb a b z ∙ sym (eq-eqb c d (f z))) (λ (z : a ≡ b → ⊥). ne_eqb a b z ∙ sym (ne_eqb c d (λ y. z (g y)))) (eq_or_ne a b)

-- the low bits are all set, and one more
ones_next : (m y : ℕ) → eqb (y % 2 ^ suc m) (2 ^ suc m - 1) ≡ eqb (y % 2 ^ m) (2 ^ m - 1) && marks m y
unfolding marks
ones_next m y = go (y / 2 ^ m % 2) (omega arith) (ap (λ (k : ℕ). y % 2 ^ k) (sym (one-add m)) ∙ mod-pow-add y 1 m)
  where
    go : (b : ℕ) → b < 2 → y % 2 ^ suc m ≡ b * 2 ^ m + y % 2 ^ m → eqb (y % 2 ^ suc m) (2 ^ suc m - 1) ≡ eqb (y % 2 ^ m) (2 ^ m - 1) && eqb b 1
    go zero l e =
        ne_eqb (y % 2 ^ suc m) (2 ^ suc m - 1) (λ z. absurd (omega (arith, e, pow-suc 2 m, pow_pos m, mod-lt y (pow_pos m))))
        ∙ sym (and-false (eqb (y % 2 ^ m) (2 ^ m - 1)))
    go (suc zero) l e =
        eqb_same (y % 2 ^ suc m) (2 ^ suc m - 1) (y % 2 ^ m) (2 ^ m - 1) (λ z. omega (arith, e, pow-suc 2 m, pow_pos m)) (λ z. omega (arith, e, pow-suc 2 m, pow_pos m))
        ∙ sym (and-true (eqb (y % 2 ^ m) (2 ^ m - 1)))
    go (suc (suc b)) l e = absurd (omega arith)

not_or : (a b : Bool) → not (a || b) ≡ not a && not b
not_or true b = refl
not_or false b = refl

-- all of m edges side by side are named where none of their lists is empty
pub all_named : (o n m : ℕ) (w : List ℕ) (x : ℕ) → Named n w x → o + m ≤ 32 → eqb (x / 2 ^ o % 2 ^ m) (2 ^ m - 1) ≡ not (any_empty (lists_from o m n w))
unfolding any_empty marked_from
all_named o n zero w x t h = eq-eqb (x / 2 ^ o % 2 ^ 0) (2 ^ 0 - 1) (omega arith)
all_named o n (suc m) w x t h =
    let l : ℕ = length (under (o + m) n w) in
    ones_next m (x / 2 ^ o)
    ∙ ap₂ (λ (a b : Bool). a && b) (all_named o n m w x t (omega arith)) (sym (marks_from o m x) ∙ t.each (o + m) (omega arith))
    ∙ sym (ap not (ap any_empty (lists_next o m n w) ∙ empty_next (lists_from o m n w) (under (o + m) n w)) ∙ not_or (any_empty (lists_from o m n w)) (eqb l 0))
