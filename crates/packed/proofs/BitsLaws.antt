-- Laws of bits, of the numbers that they spell, and of fields.
use Prim.Native.Nat.{ℕ, zero, suc, ◌+◌, ◌*◌, ◌/◌, ◌%◌, ◌^◌, ◌≤◌, ◌<◌}
use mathlib.Core.Path.{◌≡◌, refl, ap, sym, ◌∙◌, subst}
use mathlib.Core.List.{List, [], ◌∷◌, ◌++◌, append_assoc}
use mathlib.Core.Bool.{Bool, true, false, false≢true}
use lib.ListN.{length, take, drop, get_or, replicate, length-append, length-take, length-drop}
use lib.Seq.{take_at, drop_at, take-nil, drop-nil, take-append-add, drop-append-add, take-add, take-take, drop-drop, length-take-le}
use lib.Dec.{eqb}
use lib.Pow.{pow_pos, mod-pow-add, shr-shr, shr_le, high, low, pow_mono}
use native.Mathlib.Omega.{arith}
use native.Mathlib.Numerals.{one-add, add-one}
use native.Mathlib.Nat.{pow-suc, add-mul, mul_assoc, mul_comm, mod-eq_of_lt, div-one, div-lt_iff_lt-mul, one-mul, add_assoc, zero-add, suc-add, add_comm, lt_of_lt_of_le}
use borrow.Author.Tests.{eq-eqb, ne_eqb}
use Rattle.packed.specs.Bits.{one, odd, bits_of, num_from, num, bits, field, zeros, gap}

-- ---- one bit

one_odd : (n : ℕ) → one (odd n) ≡ n % 2
one_odd n = go (n % 2) (omega arith)
  where
    go : (r : ℕ) → r < 2 → one (eqb r 1) ≡ r
    go zero h = refl
    go (suc zero) h = refl
    go (suc (suc r)) h = absurd (omega arith)

odd_digit : (a : ℕ) (b : Bool) → odd (a * 2 + one b) ≡ b
odd_digit a true = eq-eqb ((a * 2 + 1) % 2) 1 (omega arith)
odd_digit a false = ne_eqb ((a * 2 + 0) % 2) 1 (omega arith)

one_small : (b : Bool) → one b < 2
one_small true = omega arith
one_small false = omega arith

-- ---- padding

pub gap_small : (at : ℕ) → gap at ≤ 7
unfolding gap
gap_small at = omega arith

pub gap_none : (at : ℕ) → at % 8 ≡ 0 → gap at ≡ 0
unfolding gap
gap_none at h = omega arith

pub gap_fills : (at : ℕ) → (at + gap at) % 8 ≡ 0
unfolding gap
gap_fills at = omega arith

-- ---- lengths

pub length_bits_of : (w n : ℕ) → length (bits_of w n) ≡ w
unfolding bits_of
length_bits_of zero n = refl
length_bits_of (suc w) n = ap suc (length_bits_of w n)

pub length-bits : (s : List ℕ) → length (bits s) ≡ 8 * length s
unfolding bits
length-bits [] = refl
length-bits (x ∷ xs) = omega (arith, length-append (bits_of 8 x) (bits xs), length_bits_of 8 x, length-bits xs)

-- ---- the number that bits spell

mod_suc : (n w : ℕ) → n % 2 ^ suc w ≡ (n / 2 ^ w % 2) * 2 ^ w + n % 2 ^ w
mod_suc n w = ap (λ (k : ℕ). n % 2 ^ k) (sym (one-add w)) ∙ mod-pow-add n 1 w

num_from_bits_of : (acc w n : ℕ) → num_from acc (bits_of w n) ≡ acc * 2 ^ w + n % 2 ^ w
unfolding num_from bits_of
num_from_bits_of acc zero n = omega arith
num_from_bits_of acc (suc w) n =
    num_from_bits_of (acc * 2 + one (odd (n / 2 ^ w))) w n
    ∙ rw mod_suc (simp (one_odd, pow-suc, add-mul, mul_assoc, mul_comm 2 (2 ^ w), add_assoc))

pub num_bits_of : (w n : ℕ) → num (bits_of w n) ≡ n % 2 ^ w
unfolding num
num_bits_of w n = omega (arith, num_from_bits_of 0 w n)

pub num_bits_of_lt : (w n : ℕ) → n < 2 ^ w → num (bits_of w n) ≡ n
num_bits_of_lt w n h = num_bits_of w n ∙ mod-eq_of_lt h

num_from_div : (acc : ℕ) (bs : List Bool) → num_from acc bs / 2 ^ length bs ≡ acc
unfolding num_from
num_from_div acc [] = div-one acc
num_from_div acc (b ∷ bs) =
    let e : num_from (acc * 2 + one b) bs / 2 ^ length bs ≡ acc * 2 + one b = num_from_div (acc * 2 + one b) bs in
    ap (λ (k : ℕ). num_from (acc * 2 + one b) bs / 2 ^ k) (sym (add-one (length bs)))
    ∙ sym (shr-shr (num_from (acc * 2 + one b) bs) (length bs) 1)
    ∙ ap (λ (k : ℕ). k / 2) e
    ∙ omega (arith, one_small b)

pub num_lt : (bs : List Bool) → num bs < 2 ^ length bs
unfolding num
num_lt bs = omega (arith, (div-lt_iff_lt-mul {x = num bs} {y = 1} (pow_pos (length bs))).0 (omega (arith, num_from_div 0 bs)), one-mul (2 ^ length bs))

bits_of_num_from : (acc : ℕ) (bs : List Bool) → bits_of (length bs) (num_from acc bs) ≡ bs
unfolding bits_of num_from
bits_of_num_from acc [] = refl
bits_of_num_from acc (b ∷ bs) =
    let e : num_from (acc * 2 + one b) bs / 2 ^ length bs ≡ acc * 2 + one b = num_from_div (acc * 2 + one b) bs in
    rw (e, odd_digit, bits_of_num_from (acc * 2 + one b) bs)

pub bits_of_num : (w : ℕ) (bs : List Bool) → length bs ≡ w → bits_of w (num bs) ≡ bs
unfolding num
bits_of_num w bs e = subst (λ (k : ℕ). bits_of k (num bs) ≡ bs) e (bits_of_num_from 0 bs)

pub num-take_lt : (w : ℕ) (bs : List Bool) → num (take w bs) < 2 ^ w
num-take_lt w bs = lt_of_lt_of_le (num_lt (take w bs)) (pow_mono (omega (arith, length-take w bs)))

num_from-append : (acc : ℕ) (xs ys : List Bool) → num_from acc (xs ++ ys) ≡ num_from (num_from acc xs) ys
unfolding num_from
num_from-append acc [] ys = refl
num_from-append acc (x ∷ xs) ys = num_from-append (acc * 2 + one x) xs ys

-- bits after other bits
pub num-append : (xs ys : List Bool) → num (xs ++ ys) ≡ num xs * 2 ^ length ys + num ys
unfolding num
num-append xs ys =
    num_from-append 0 xs ys
    ∙ ap (num_from (num_from 0 xs)) (sym (bits_of_num_from 0 ys))
    ∙ num_from_bits_of (num_from 0 xs) (length ys) (num_from 0 ys)
    ∙ ap (λ (z : ℕ). num_from 0 xs * 2 ^ length ys + z) (mod-eq_of_lt (num_lt ys))

-- ---- parts of a number's bits

-- the first a of a + b bits are those of the high part
pub bits_of_add : (a b n : ℕ) → bits_of (a + b) n ≡ bits_of a (n / 2 ^ b) ++ bits_of b n
unfolding bits_of
bits_of_add zero b n = rw zero-add
bits_of_add (suc a) b n = rw (suc-add, shr-shr, add_comm b a, bits_of_add a b n)

-- only the low part counts
pub bits_of_mod : (w n : ℕ) → bits_of w (n % 2 ^ w) ≡ bits_of w n
bits_of_mod w n = rw (← num_bits_of w n) (bits_of_num w (bits_of w n) (length_bits_of w n))

pub bits_of_pair : (a b hi lo : ℕ) → lo < 2 ^ b → bits_of (a + b) (hi * 2 ^ b + lo) ≡ bits_of a hi ++ bits_of b lo
bits_of_pair a b hi lo h =
    bits_of_add a b (hi * 2 ^ b + lo)
    ∙ rw (high hi b h, ← bits_of_mod b (hi * 2 ^ b + lo), low hi b h)

pub drop_bits_of : (j w n : ℕ) → drop j (bits_of (j + w) n) ≡ bits_of w n
drop_bits_of j w n = rw bits_of_add (drop_at (bits_of j (n / 2 ^ w)) (bits_of w n) j (length_bits_of j (n / 2 ^ w)))

pub take_bits_of : (j w n : ℕ) → take j (bits_of (j + w) n) ≡ bits_of j (n / 2 ^ w)
take_bits_of j w n = rw bits_of_add (take_at (bits_of j (n / 2 ^ w)) (bits_of w n) j (length_bits_of j (n / 2 ^ w)))

-- ---- the bits of bytes

pub drop_bits : (s : List ℕ) (k : ℕ) → drop (8 * k) (bits s) ≡ bits (drop k s)
unfolding bits bits_of
drop_bits s zero = refl
drop_bits [] (suc k) = drop-nil (8 * suc k)
drop_bits (x ∷ xs) (suc k) =
    let e : 8 * suc k ≡ 8 + 8 * k = omega arith in
    rw e (drop-append-add (bits_of 8 x) (bits xs) (8 * k) ∙ drop_bits xs k)

pub take-bits : (s : List ℕ) (k : ℕ) → take (8 * k) (bits s) ≡ bits (take k s)
unfolding bits bits_of
take-bits s zero = refl
take-bits [] (suc k) = take-nil (8 * suc k)
take-bits (x ∷ xs) (suc k) =
    let e : 8 * suc k ≡ 8 + 8 * k = omega arith in
    rw e (take-append-add (bits_of 8 x) (bits xs) (8 * k) ∙ ap (λ (l : List Bool). bits_of 8 x ++ l) (take-bits xs k))

pub bits-append : (s t : List ℕ) → bits (s ++ t) ≡ bits s ++ bits t
unfolding bits
bits-append [] t = refl
bits-append (x ∷ xs) t = ap (λ (l : List Bool). bits_of 8 x ++ l) (bits-append xs t) ∙ sym (append_assoc (bits_of 8 x) (bits xs) (bits t))

-- the first byte
pub first_byte : (x : ℕ) (xs : List ℕ) → x < 256 → num (take 8 (bits (x ∷ xs))) ≡ x
unfolding bits
first_byte x xs h = ap num (take_at (bits_of 8 x) (bits xs) 8 (length_bits_of 8 x)) ∙ num_bits_of_lt 8 x h

-- bytes with the same bits are the same
pub bits_injective : (s t : List ℕ) → ((i : ℕ) → get_or s i 0 < 256) → ((i : ℕ) → get_or t i 0 < 256) → bits s ≡ bits t → s ≡ t
bits_injective [] [] h k e = refl
bits_injective [] (y ∷ ys) h k e = absurd (omega (arith, ap length e, length-bits [], length-bits (y ∷ ys)))
bits_injective (x ∷ xs) [] h k e = absurd (omega (arith, ap length e, length-bits (x ∷ xs), length-bits []))
bits_injective (x ∷ xs) (y ∷ ys) h k e =
    let p : x ≡ y = sym (first_byte x xs (h 0)) ∙ ap (λ (l : List Bool). num (take 8 l)) e ∙ first_byte y ys (k 0) in
    let q : bits xs ≡ bits ys = sym (drop_bits (x ∷ xs) 1) ∙ ap (drop 8) e ∙ drop_bits (y ∷ ys) 1 in
    rw (p, bits_injective xs ys (λ i. h (suc i)) (λ i. k (suc i)) q)

-- ---- zeros

pub bits_of_zero : (w : ℕ) → bits_of w 0 ≡ replicate w false
unfolding bits_of
bits_of_zero zero = refl
bits_of_zero (suc w) =
    let e : 0 / 2 ^ w ≡ 0 = omega (arith, shr_le 0 w) in
    rw (e, bits_of_zero w)

pub zeros_replicate : (w : ℕ) → zeros (replicate w false) ≡ true
unfolding zeros
zeros_replicate zero = refl
zeros_replicate (suc w) = zeros_replicate w

pub replicate_zeros : (bs : List Bool) → zeros bs ≡ true → bs ≡ replicate (length bs) false
unfolding zeros
replicate_zeros [] h = refl
replicate_zeros (true ∷ bs) h = absurd (false≢true h)
replicate_zeros (false ∷ bs) h = ap (λ (l : List Bool). false ∷ l) (replicate_zeros bs h)

num_from_le : (acc : ℕ) (bs : List Bool) → acc ≤ num_from acc bs
unfolding num_from
num_from_le acc [] = omega arith
num_from_le acc (b ∷ bs) = omega (arith, num_from_le (acc * 2 + one b) bs)

pub zeros_num : (bs : List Bool) → zeros bs ≡ eqb (num bs) 0
unfolding zeros num num_from
zeros_num [] = refl
zeros_num (true ∷ bs) = sym (ne_eqb (num_from 1 bs) 0 (omega (arith, num_from_le 1 bs)))
zeros_num (false ∷ bs) = zeros_num bs

-- ---- fields

-- a field of at most k bits is below 2 ^ k
pub field_lt : (s : List ℕ) (at n k : ℕ) → n ≤ k → field s at n < 2 ^ k
unfolding field
field_lt s at n k h = lt_of_lt_of_le (num-take_lt n (drop at (bits s))) (pow_mono h)

-- a field in two parts
pub field_add : (s : List ℕ) (at i k : ℕ) → at + i + k ≤ 8 * length s → field s at (i + k) ≡ field s at i * 2 ^ k + field s (at + i) k
unfolding field
field_add s at i k h =
    let d : List Bool = drop at (bits s) in
    let t : List Bool = take k (drop (at + i) (bits s)) in
    let e : length t ≡ k = length-take-le k (drop (at + i) (bits s)) (omega (arith, length-drop (at + i) (bits s), length-bits s)) in
    ap num (take-add i k d) ∙ rw (drop-drop i at (bits s)) (num-append (take i d) t ∙ rw e)

-- a field is a quotient and a remainder of a field around it, in which o bits stand before it and r bits after it
pub field_inside : (s : List ℕ) (at o w r : ℕ) → at + (o + (w + r)) ≤ 8 * length s → field s (at + o) w ≡ field s at (o + (w + r)) / 2 ^ r % 2 ^ w
unfolding field
field_inside s at o w r h =
    let d : List Bool = drop at (bits s) in
    let t : List Bool = take (o + (w + r)) d in
    let e : length t ≡ o + (w + r) = length-take-le (o + (w + r)) d (omega (arith, length-drop at (bits s), length-bits s)) in
    let f : take w (drop o t) ≡ bits_of w (num t / 2 ^ r) =
    ap (λ (l : List Bool). take w (drop o l)) (sym (bits_of_num (o + (w + r)) t e))
    ∙ rw (drop_bits_of o (w + r) (num t)) (take_bits_of w r (num t)) in
    let g : take w (drop o t) ≡ take w (drop (at + o) (bits s)) =
    ap (λ (l : List Bool). take w (drop o l)) (take-add o (w + r) d)
    ∙ ap (take w) (drop_at (take o d) (take (w + r) (drop o d)) o (length-take-le o d (omega (arith, length-drop at (bits s), length-bits s))))
    ∙ take-take w (w + r) (drop o d) (omega arith)
    ∙ ap (take w) (drop-drop o at (bits s)) in
    ap num (sym g ∙ f) ∙ num_bits_of w (num t / 2 ^ r)
