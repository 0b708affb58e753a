-- The edges of a pattern that were read or written so far, noted in a table: a byte for each two nodes, with a bit for each kind.
use Prim.Native.Nat.{ℕ, suc, ◌+◌, ◌-◌, ◌*◌, ◌/◌, ◌%◌, ◌^◌, ◌<◌, max}
use mathlib.Core.Path.{◌≡◌, refl, ap, sym, ◌∙◌}
use mathlib.Core.List.{List, [], ◌∷◌, ◌++◌}
use mathlib.Core.Bool.{Bool, true, false, ◌&&◌, ◌||◌}
use mathlib.Core.Logic.{⊎_elim}
use lib.ListN.{length, get_or, set, replicate, length-replicate, get_or-replicate, length-set}
use lib.Seq.{get_or-set_same, get_or-set_other}
use lib.Dec.{eqb}
use lib.Bits.{bit_or, or_shr, or_step}
use lib.Arith.{digits_mod}
use lib.Pow.{pow_pos, pow-lt, pow-add, shl-shr}
use native.Mathlib.Nat.{zero-div, div_self, div-eq_of_lt, pow-suc}
use native.Mathlib.Omega.{arith}
use borrow.Author.Tests.{eq-eqb, ne_eqb}
use Rattle.packed.specs.Formats.{linked}
use Rattle.packed.specs.Matches.{marks}
use Rattle.packed.proofs.OrderCases.{trichotomy, eq_or_ne, eqb_sym}

-- ---- tests
or_true : (b : Bool) → (b || true) ≡ true
or_true true = refl
or_true false = refl

or_false : (b : Bool) → (b || false) ≡ b
or_false true = refl
or_false false = refl

or_assoc : (a b c : Bool) → (a || (b || c)) ≡ ((a || b) || c)
or_assoc true b c = refl
or_assoc false b c = refl

-- ---- one kind more in a mask
pub bit_or_lem : (x y k : ℕ) → bit_or x y / 2 ^ k % 2 ≡ max (x / 2 ^ k % 2) (y / 2 ^ k % 2)
bit_or_lem x y k =
    ap (λ (n : ℕ). n % 2) (or_shr x y k ∙ or_step (x / 2 ^ k) (y / 2 ^ k)) ∙ digits_mod (bit_or (x / 2 ^ k / 2) (y / 2 ^ k / 2)) (omega arith)

bit_other : (j k : ℕ) → (k ≡ j → ⊥) → 2 ^ j / 2 ^ k % 2 ≡ 0
bit_other j k n =
    trichotomy j k
    (λ l. ap (λ (x : ℕ). x % 2) (div-eq_of_lt (pow-lt l)))
    (λ e. absurd (n (sym e)))
    (λ l.
    let c : ℕ = j - suc k in
    let e : j ≡ suc c + k = omega arith in
    let d : 2 ^ j / 2 ^ k ≡ 2 ^ suc c = ap (λ (i : ℕ). 2 ^ i / 2 ^ k) e ∙ ap (λ (x : ℕ). x / 2 ^ k) (pow-add 2 (suc c) k) ∙ shl-shr (2 ^ suc c) k in
    omega (arith, d, pow-suc 2 c))

marks_more : (x j k : ℕ) → marks k (bit_or x (2 ^ j)) ≡ (marks k x || eqb k j)
unfolding marks
marks_more x j k =
    ⊎_elim
    (λ (e : k ≡ j).
    let o : 2 ^ j / 2 ^ k % 2 ≡ 1 = ap (λ (i : ℕ). 2 ^ j / 2 ^ i % 2) e ∙ ap (λ (i : ℕ). i % 2) (div_self (pow_pos j)) in
    eq-eqb _ 1 (bit_or_lem x (2 ^ j) k ∙ omega arith) ∙ sym (ap (λ (b : Bool). marks k x || b) (eq-eqb k j e) ∙ or_true (marks k x)))
    (λ (n : k ≡ j → ⊥).
    let o = bit_other j k n in
    let d : bit_or x (2 ^ j) / 2 ^ k % 2 ≡ x / 2 ^ k % 2 = bit_or_lem x (2 ^ j) k ∙ omega arith in
    ap (λ (i : ℕ). eqb i 1) d ∙ sym (ap (λ (b : Bool). marks k x || b) (ne_eqb k j n) ∙ or_false (marks k x)))
    (eq_or_ne k j)

marks_none : (k : ℕ) → marks k 0 ≡ false
unfolding marks
marks_none k = ap (λ (x : ℕ). eqb (x % 2) 1) (zero-div (2 ^ k))

-- ---- one edge more: three fields each
pub data Threes : List ℕ → Type 0 where
  none : Threes []
  edge : {x y z : ℕ} {es : List ℕ} → Threes es → Threes (x ∷ y ∷ z ∷ es)

threes_more : (x y z : ℕ) {es : List ℕ} → Threes es → Threes (es ++ (x ∷ y ∷ z ∷ []))
threes_more x y z none = edge none
threes_more x y z (edge e) = edge (threes_more x y z e)

linked_none : (a b k : ℕ) → linked a b k [] ≡ false
unfolding linked
linked_none a b k = refl

linked_more : (a b k x y z : ℕ) {es : List ℕ} → Threes es
    → linked a b k (es ++ (x ∷ y ∷ z ∷ [])) ≡ (linked a b k es || (eqb x a && (eqb y b && eqb z k)))
unfolding linked
linked_more a b k x y z none = or_false (eqb x a && (eqb y b && eqb z k))
linked_more a b k x y z (edge {x = u} {y = v} {z = w} {es = es} e) =
    let f : Bool = eqb u a && (eqb v b && eqb w k) in
    ap (λ (t : Bool). f || t) (linked_more a b k x y z e) ∙ or_assoc f (linked a b k es) (eqb x a && (eqb y b && eqb z k))

-- ---- the edges es are noted in the table t
pub record Noted (es t : List ℕ) : Type 0 where
  pub long : length t ≡ 256
  pub threes : Threes es
  pub each : (a b k : ℕ) → a < 16 → b < 16 → marks k (get_or t (16 * a + b) 0) ≡ linked a b k es

pub noted_none : {t : List ℕ} → t ≡ replicate 256 0 → Noted [] t
noted_none {t} e =
    record {
      long = ap length e ∙ length-replicate {A = ℕ} 256 0;
      threes = none;
      each = λ a b k p q.
          ap (λ (l : List ℕ). marks k (get_or l (16 * a + b) 0)) e
          ∙ ap (marks k) (get_or-replicate {A = ℕ} 256 (16 * a + b) 0 0 (omega arith))
          ∙ marks_none k
          ∙ sym (linked_none a b k);
    }

-- the edge from x to y of the kind z, beside the one from a to b of the kind k
module _ (x y z a b k : ℕ) where
  same : x ≡ a → y ≡ b → (eqb x a && (eqb y b && eqb z k)) ≡ eqb k z
  same d e = rw (eq-eqb x a d, eq-eqb y b e) (eqb_sym z k)

  other : (16 * x + y ≡ 16 * a + b → ⊥) → (eqb x a && (eqb y b && eqb z k)) ≡ false
  other n =
      ⊎_elim
      (λ (d : x ≡ a). rw (eq-eqb x a d, ne_eqb y b (λ e. n (omega arith))) refl)
      (λ (d : x ≡ a → ⊥). rw (ne_eqb x a d) refl)
      (eq_or_ne x a)

-- the edge from x to y of the kind z is noted too
module _ {es t t' : List ℕ} (x y z : ℕ) (h : Noted es t) (p : x < 16) (q : y < 16) (s : t' ≡ set t (16 * x + y) (bit_or (get_or t (16 * x + y) 0) (2 ^ z))) where
  noted_each : (a b k : ℕ) → a < 16 → b < 16 → marks k (get_or t' (16 * a + b) 0) ≡ (linked a b k es || (eqb x a && (eqb y b && eqb z k)))
  noted_each a b k l m =
      let v : ℕ = bit_or (get_or t (16 * x + y) 0) (2 ^ z) in
      ap (λ (w : List ℕ). marks k (get_or w (16 * a + b) 0)) s
      ∙ ⊎_elim
      (λ (e : 16 * x + y ≡ 16 * a + b).
      ap (λ (i : ℕ). marks k (get_or (set t (16 * x + y) v) i 0)) (sym e)
      ∙ ap (marks k) (get_or-set_same t (16 * x + y) v 0 (omega (arith, h.long)))
      ∙ marks_more (get_or t (16 * x + y) 0) z k
      ∙ ap (λ (i : ℕ). marks k (get_or t i 0) || eqb k z) e
      ∙ ap (λ (c : Bool). c || eqb k z) (h.each a b k l m)
      ∙ ap (λ (c : Bool). linked a b k es || c) (sym (same x y z a b k (omega arith) (omega arith))))
      (λ (n : 16 * x + y ≡ 16 * a + b → ⊥).
      ap (marks k) (get_or-set_other t (16 * x + y) (16 * a + b) v 0 (λ e. n (sym e)))
      ∙ h.each a b k l m
      ∙ sym (ap (λ (c : Bool). linked a b k es || c) (other x y z a b k n) ∙ or_false (linked a b k es)))
      (eq_or_ne (16 * x + y) (16 * a + b))

  pub noted_more : Noted (es ++ (x ∷ y ∷ z ∷ [])) t'
  noted_more =
      record {
        long = ap length s ∙ length-set t (16 * x + y) (bit_or (get_or t (16 * x + y) 0) (2 ^ z)) ∙ h.long;
        threes = threes_more x y z h.threes;
        each = λ a b k l m. noted_each a b k l m ∙ sym (linked_more a b k x y z h.threes);
      }
