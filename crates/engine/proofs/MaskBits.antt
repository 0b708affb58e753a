-- Masks as sets: what each operation on words does to the numbers that they have.
use mathlib.Core.Path.{◌≡◌, refl, ap, ◌∙◌, sym, subst}
use mathlib.Core.Logic.{◌⊎◌, inl, inr, ⊎_elim}
use Prim.Native.Nat.{ℕ, zero, suc, ◌≤◌, ◌<◌, ◌+◌, ◌-◌, ◌/◌, ◌%◌, ◌^◌, min, max, zero-le}
use native.Mathlib.Nat.{zero-div, mod-lt, div-one, div-eq_of_lt, pow-suc, zero-lt-suc}
use native.Mathlib.Omega.{arith}
use lib.Arith.{digits_mod, bin_ind}
use lib.Pow.{shr-shr, pow_mono, pow_pos, lt_of_le_ones}
use lib.Count.{count_trailing_zeros, under}
use lib.Bits.{bit_and, bit_or, bit_xor, differ, and_shr, xor_shr, and_step, xor_step}
use lib.Dec.{eqb→eq}
use Rattle.packed.proofs.OrderCases.{lt_or_ge, eq_or_ne}
use Rattle.packed.proofs.NotedLaws.{bit_or_lem}
use Rattle.engine.specs.Simulation.{bit}
use Rattle.engine.specs.Masks.{Has, Mask, OneOf}
use Rattle.engine.proofs.Masks.{bit_self, bit_one}

-- ---- the bit k of x as a number, 0 or 1
unfoldable bin : ℕ → ℕ → ℕ
bin x k = x / 2 ^ k % 2

pub has_say : (x k : ℕ) → Has x k → x / 2 ^ k % 2 ≡ 1
unfolding bit
has_say x k h = eqb→eq _ _ h

pub has_by : (x k : ℕ) → x / 2 ^ k % 2 ≡ 1 → Has x k
unfolding bit
has_by x k e = rw e tt

say : (x k : ℕ) → Has x k → bin x k ≡ 1
unfolding bin
say x k h = has_say x k h

by : (x k : ℕ) → bin x k ≡ 1 → Has x k
unfolding bin
by x k e = has_by x k e

bin_lt : (x k : ℕ) → bin x k < 2
unfolding bin
bin_lt x k = mod-lt (x / 2 ^ k) (zero-lt-suc 1)

-- not having a bit
lacks : (x k : ℕ) → (Has x k → ⊥) → bin x k ≡ 0
lacks x k n = let l = bin_lt x k in ⊎_elim (λ e. absurd (n (by x k e))) (λ (e : bin x k ≡ 1 → ⊥). ⊎_elim (λ (h : bin x k < 1). omega arith) (λ (h : 1 ≤ bin x k). absurd (e (omega arith))) (lt_or_ge (bin x k) 1)) (eq_or_ne (bin x k) 1)

bin_and : (a b k : ℕ) → bin (bit_and a b) k ≡ min (bin a k) (bin b k)
unfolding bin
bin_and a b k =
    let u = bin_lt a k in
    let v = bin_lt b k in
    ap (λ (x : ℕ). x % 2) (and_shr a b k ∙ and_step (a / 2 ^ k) (b / 2 ^ k)) ∙ digits_mod (bit_and (a / 2 ^ k / 2) (b / 2 ^ k / 2)) (omega arith)

bin_or : (a b k : ℕ) → bin (bit_or a b) k ≡ max (bin a k) (bin b k)
unfolding bin
bin_or a b k = bit_or_lem a b k

differ_bits : (x y : ℕ) → x < 2 → y < 2 → differ x y ≡ (x + y) % 2
differ_bits zero zero p q = refl
differ_bits zero (suc zero) p q = refl
differ_bits zero (suc (suc y)) p q = omega arith
differ_bits (suc zero) zero p q = refl
differ_bits (suc zero) (suc zero) p q = refl
differ_bits (suc zero) (suc (suc y)) p q = omega arith
differ_bits (suc (suc x)) y p q = omega arith

bin_xor : (a b k : ℕ) → bin (bit_xor a b) k ≡ (bin a k + bin b k) % 2
unfolding bin
bin_xor a b k =
    let u = bin_lt a k in
    let v = bin_lt b k in
    let d = differ_bits (bin a k) (bin b k) u v in
    ap (λ (x : ℕ). x % 2) (xor_shr a b k ∙ xor_step (a / 2 ^ k) (b / 2 ^ k)) ∙ digits_mod (bit_xor (a / 2 ^ k / 2) (b / 2 ^ k / 2)) (omega arith) ∙ d

-- the bits of a that b lacks
bin_minus : (a b k : ℕ) → bin (bit_xor a (bit_and a b)) k ≡ min (bin a k) (1 - bin b k)
bin_minus a b k =
    let u = bin_lt a k in
    let v = bin_lt b k in
    let e = bin_and a b k in
    bin_xor a (bit_and a b) k ∙ omega arith

bin_zero : (k : ℕ) → bin 0 k ≡ 0
unfolding bin
bin_zero k = ap (λ (x : ℕ). x % 2) (zero-div (2 ^ k))

bin_low : (x : ℕ) → bin x 0 ≡ x % 2
unfolding bin
bin_low x = ap (λ (y : ℕ). y % 2) (div-one x)

bin_from : (x a b : ℕ) → bin (x / 2 ^ a) b ≡ bin x (a + b)
unfolding bin
bin_from x a b = ap (λ (y : ℕ). y % 2) (shr-shr x a b)

bin_half : (x k : ℕ) → bin (x / 2) k ≡ bin x (suc k)
bin_half x k = bin_from x 1 k ∙ ap (bin x) (omega arith)

bins_le : (a b : ℕ) → ((k : ℕ) → bin a k ≤ bin b k) → a ≤ b
bins_le =
    bin_ind (λ (n : ℕ). (b : ℕ) → ((k : ℕ) → bin n k ≤ bin b k) → n ≤ b) (λ b h. zero-le)
    (λ n ih b h.
    let hi : n / 2 ≤ b / 2 = ih (b / 2) (λ k. rw (bin_half n k, bin_half b k) (h (suc k))) in
    let lo : n % 2 ≤ b % 2 = rw (bin_low n, bin_low b) at (h 0) in
    omega arith)

-- not, at w bits
bin_not : (w a k : ℕ) → a < 2 ^ w → k < w → bin ((2 ^ w - 1) - a) k ≡ 1 - bin a k
bin_not zero a k h l = omega arith
bin_not (suc w) a zero h l =
    let e = pow-suc 2 w in
    let p = pow_pos w in
    let f = bin_low a in
    bin_low ((2 ^ suc w - 1) - a) ∙ omega arith
bin_not (suc w) a (suc k) h l =
    let e = pow-suc 2 w in
    let p = pow_pos w in
    let q : ((2 ^ suc w - 1) - a) / 2 ≡ (2 ^ w - 1) - a / 2 = omega arith in
    sym (bin_half ((2 ^ suc w - 1) - a) k) ∙ ap (λ (x : ℕ). bin x k) q ∙ bin_not w (a / 2) k (omega arith) (omega arith) ∙ ap (λ (x : ℕ). 1 - x) (bin_half a k)

-- the low four bits of a word
bin_four : (x b : ℕ) → b < 4 → bin (x % 16) b ≡ bin x b
unfolding bin
bin_four x zero l = omega arith
bin_four x (suc zero) l = omega arith
bin_four x (suc (suc zero)) l = omega arith
bin_four x (suc (suc (suc zero))) l = omega arith
bin_four x (suc (suc (suc (suc b)))) l = absurd (omega arith)

-- ---- what the operations do to the members
pub none_has : (k : ℕ) → Has 0 k → ⊥
none_has k h = let e = say 0 k h in let z = bin_zero k in omega arith

pub or_left : (a b k : ℕ) → Has a k → Has (bit_or a b) k
or_left a b k h = by _ k (bin_or a b k ∙ (let e = say a k h in let l = bin_lt b k in omega arith))

pub or_right : (a b k : ℕ) → Has b k → Has (bit_or a b) k
or_right a b k h = by _ k (bin_or a b k ∙ (let e = say b k h in let l = bin_lt a k in omega arith))

pub or_cases : (a b k : ℕ) → Has (bit_or a b) k → Has a k ⊎ Has b k
or_cases a b k h =
    let e : max (bin a k) (bin b k) ≡ 1 = sym (bin_or a b k) ∙ say _ k h in
    let l = bin_lt b k in
    ⊎_elim (λ (p : bin a k < 1). inr (by b k (omega arith))) (λ (p : 1 ≤ bin a k). inl (by a k (omega arith))) (lt_or_ge (bin a k) 1)

pub and_say : (a b k : ℕ) → Has (bit_and a b) k → Has a k × Has b k
and_say a b k h =
    let e = say _ k h in
    let f = bin_and a b k in
    let u = bin_lt a k in
    let v = bin_lt b k in
    (by a k (omega arith), by b k (omega arith))

pub and_by : (a b k : ℕ) → Has a k → Has b k → Has (bit_and a b) k
and_by a b k h i = by _ k (bin_and a b k ∙ (let e = say a k h in let f = say b k i in omega arith))

-- a without the members of b
pub minus_say : (a b k : ℕ) → Has (bit_xor a (bit_and a b)) k → Has a k × (Has b k → ⊥)
minus_say a b k h =
    let e = say _ k h in
    let f = bin_minus a b k in
    let u = bin_lt a k in
    (by a k (omega arith), λ i. let g = say b k i in omega arith)

pub minus_by : (a b k : ℕ) → Has a k → (Has b k → ⊥) → Has (bit_xor a (bit_and a b)) k
minus_by a b k h n = by _ k (bin_minus a b k ∙ (let e = say a k h in let f = lacks b k n in omega arith))

pub not_say : (w a k : ℕ) → a < 2 ^ w → k < w → Has ((2 ^ w - 1) - a) k → Has a k → ⊥
not_say w a k h l i j = let e = say _ k i in let f = say a k j in let g = bin_not w a k h l in omega arith

pub not_by : (w a k : ℕ) → a < 2 ^ w → k < w → (Has a k → ⊥) → Has ((2 ^ w - 1) - a) k
not_by w a k h l n = by _ k (bin_not w a k h l ∙ (let f = lacks a k n in omega arith))

-- x without its low a bits
pub above_say : (x a k : ℕ) → Has (x / 2 ^ a) k → Has x (a + k)
above_say x a k h = by x (a + k) (sym (bin_from x a k) ∙ say (x / 2 ^ a) k h)

pub above_by : (x a k : ℕ) → Has x (a + k) → Has (x / 2 ^ a) k
above_by x a k h = by (x / 2 ^ a) k (bin_from x a k ∙ say x (a + k) h)

-- four bits of x, from bit a on
pub four_say : (x a b : ℕ) → b < 4 → Has (x / 2 ^ a % 16) b → Has x (a + b)
four_say x a b l h = by x (a + b) (sym (bin_from x a b) ∙ sym (bin_four (x / 2 ^ a) b l) ∙ say _ b h)

pub four_by : (x a b : ℕ) → b < 4 → Has x (a + b) → Has (x / 2 ^ a % 16) b
four_by x a b l h = by _ b (bin_four (x / 2 ^ a) b l ∙ bin_from x a b ∙ say x (a + b) h)

-- the lowest member, if there is one
pub lowest_has : (d x : ℕ) → 0 < x → x < 2 ^ d → (count_trailing_zeros d x < d) × Has x (count_trailing_zeros d x)
unfolding count_trailing_zeros
lowest_has zero x p l = absurd (omega arith)
lowest_has (suc d) x p l = let q = pow-suc 2 d in go (x % 2) refl (λ e. lowest_has d (x / 2) (omega arith) (omega arith))
  where
    go : (r : ℕ) → x % 2 ≡ r → (x % 2 ≡ 0 → (count_trailing_zeros d (x / 2) < d) × Has (x / 2) (count_trailing_zeros d (x / 2)))
        → (under r (count_trailing_zeros d (x / 2)) < suc d) × Has x (under r (count_trailing_zeros d (x / 2)))
    go zero e f =
        let h = f e in
        let i = h.0 in
        ((let z : suc (count_trailing_zeros d (x / 2)) < suc d = omega arith in z), by x _ (sym (bin_half x (count_trailing_zeros d (x / 2))) ∙ say _ _ h.1))
    go (suc r) e f = (zero-lt-suc d, by x 0 (bin_low x ∙ (let l = mod-lt x (zero-lt-suc 1) in let y : x % 2 ≡ 1 = omega arith in y)))

-- and nothing below it
pub lowest_least : (d x k : ℕ) → k < count_trailing_zeros d x → Has x k → ⊥
unfolding count_trailing_zeros
lowest_least zero x k l h = omega arith
lowest_least (suc d) x k l h = go (x % 2) refl (lowest_least d (x / 2)) k l h
  where
    go : (r : ℕ) → x % 2 ≡ r → ((k : ℕ) → k < count_trailing_zeros d (x / 2) → Has (x / 2) k → ⊥) → (k : ℕ) → k < under r (count_trailing_zeros d (x / 2)) → Has x k → ⊥
    go zero e f zero l h = let y = say x 0 h in let z = bin_low x in omega arith
    go zero e f (suc k) l h = f k (omega arith) (by (x / 2) k (bin_half x k ∙ say x (suc k) h))
    go (suc r) e f k l h = omega arith

-- ---- order
imp_le : (x y : ℕ) → x < 2 → (x ≡ 1 → y ≡ 1) → x ≤ y
imp_le zero y l h = zero-le
imp_le (suc zero) y l h = let e = h refl in omega arith
imp_le (suc (suc x)) y l h = omega arith

-- a part is no greater
pub part_le : (a b : ℕ) → ((k : ℕ) → Has a k → Has b k) → a ≤ b
part_le a b h = bins_le a b (λ k. imp_le (bin a k) (bin b k) (bin_lt a k) (λ e. say b k (h k (by a k e))))

-- the members of a number below 2 ^ w
pub has_lt : (w x k : ℕ) → x < 2 ^ w → Has x k → k < w
has_lt w x k l h =
    ⊎_elim (λ (z : k < w). z)
    (λ (z : w ≤ k). absurd (let p = pow_mono z in let e = has_say x k h in let f : x / 2 ^ k ≡ 0 = div-eq_of_lt (omega arith) in omega arith)) (lt_or_ge k w)

-- a mask of numbers below w
pub few_lt : (w x : ℕ) → ((k : ℕ) → Has x k → k < w) → x < 2 ^ w
few_lt w x h =
    let e : (2 ^ w - 1) - 0 ≡ 2 ^ w - 1 = omega arith in
    lt_of_le_ones w (part_le x (2 ^ w - 1) (λ k i. subst (λ (y : ℕ). Has y k) e (not_by w 0 k (pow_pos w) (h k i) (none_has k))))

-- ---- masks of what is said
module _ {A B : ℕ → Type 0} where
  pub mask_cast : {r : ℕ} → ((k : ℕ) → A k → B k) → ((k : ℕ) → B k → A k) → Mask A r → Mask B r
  mask_cast f g m = record { hit = λ k b. m.hit k (g k b); why = λ k h. f k (m.why k h) }

  pub mask_or : {a b : ℕ} → Mask A a → Mask B b → Mask (λ k. A k ⊎ B k) (bit_or a b)
  mask_or {a} {b} m n =
      record {
        hit = λ k. ⊎_elim (λ p. or_left a b k (m.hit k p)) (λ p. or_right a b k (n.hit k p));
        why = λ k h. ⊎_elim (λ p. inl (m.why k p)) (λ p. inr (n.why k p)) (or_cases a b k h);
      }

-- one number, where S holds
pub mask_one : (u r : ℕ) {S : Type 0} → r ≡ 2 ^ u → S → Mask (λ k. (u ≡ k) × S) r
mask_one u r e s =
    record {
      hit = λ k p. subst (λ (x : ℕ). Has x k) (sym e) (subst (Has (2 ^ u)) p.0 (bit_self u));
      why = λ k h. (sym (bit_one u k (subst (λ (x : ℕ). Has x k) e h)), s);
    }

pub mask_self : (x : ℕ) → Mask (Has x) x
mask_self x = record { hit = λ k h. h; why = λ k h. h }

pub mask_none : {Q : ℕ → Type 0} → ((k : ℕ) → Q k → ⊥) → Mask Q 0
mask_none n = record { hit = λ k q. absurd (n k q); why = λ k h. absurd (none_has k h) }

-- ---- one of a growing number
pub one_none : {Q : ℕ → Type 0} → OneOf 0 Q → ⊥
one_none o = let l = o.below in omega arith

pub one_last : {Q : ℕ → Type 0} (j : ℕ) → Q j → OneOf (j + 1) Q
one_last j q = record { at = j; below = omega arith; holds = q }

pub one_more : {Q : ℕ → Type 0} (j : ℕ) → OneOf j Q → OneOf (j + 1) Q
one_more j o = record { at = o.at; below = (let l = o.below in omega arith); holds = o.holds }

pub one_cases : {Q : ℕ → Type 0} (j : ℕ) → OneOf (j + 1) Q → OneOf j Q ⊎ Q j
one_cases {Q} j o =
    let l = o.below in
    ⊎_elim (λ (h : o.at < j). inl (record { at = o.at; below = h; holds = o.holds }))
    (λ (h : j ≤ o.at). inr (subst Q (let e : o.at ≡ j = omega arith in e) o.holds)) (lt_or_ge o.at j)

-- a union, set by set
module _ (Q : ℕ → ℕ → Type 0) where
  pub union_start : Mask (λ k. OneOf 0 (λ e. Q e k)) 0
  union_start = mask_none (λ k o. one_none o)

  pub union_more : (j : ℕ) {r s : ℕ} → Mask (λ k. OneOf j (λ e. Q e k)) r → Mask (Q j) s → Mask (λ k. OneOf (j + 1) (λ e. Q e k)) (bit_or r s)
  union_more j m n = mask_cast (λ k. ⊎_elim (one_more j) (one_last j)) (λ k. one_cases j) (mask_or m n)

  pub union_end : (j n : ℕ) {r : ℕ} → Mask (λ k. OneOf j (λ e. Q e k)) r → j ≡ n → Mask (λ k. OneOf n (λ e. Q e k)) r
  union_end j n {r} m e = subst (λ (x : ℕ). Mask (λ k. OneOf x (λ e. Q e k)) r) e m
