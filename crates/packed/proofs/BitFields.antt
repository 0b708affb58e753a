-- Fields read from whole bytes, and written byte by byte.
use Prim.Native.Nat.{ℕ, zero, suc, ◌+◌, ◌*◌, ◌-◌, ◌/◌, ◌%◌, ◌^◌, ◌≤◌, ◌<◌}
use mathlib.Core.Path.{◌≡◌, refl, ap, sym, ◌∙◌, subst}
use mathlib.Core.List.{List, [], ◌∷◌, ◌++◌, append-nil}
use mathlib.Core.Bool.{Bool}
use lib.ListN.{length, take, drop, get_or, set, length-append}
use lib.Seq.{sets, take_at, drop_at, drop-cons}
use lib.Dec.{eqb}
use lib.Pow as pow
use lib.Pow.{pow_pos, shr-shr, shr_lt, shl_lt, shl-shr, shl_exact, pow-add, pow-lt, split, low, mod-mod-pow}
use lib.Arith.{digits_lt}
use native.Mathlib.Omega.{arith}
use native.Mathlib.Nat.{mod-lt, mod-eq_of_lt, one-mul, div-add-mod', div-one, add-zero}
use Rattle.packed.specs.Bits.{bits_of, num_from, num, bits, field, zeros, gap}
use Rattle.packed.proofs.BitsLaws.{length_bits_of, drop_bits, first_byte, bits_of_add, bits_of_mod, bits_of_pair, zeros_num, field_add, field_inside}
use Rattle.packed.proofs.Sets.{sets_append, sets_beyond, sets_drop, sets_left, sets_at}

-- ---- words

-- 1 << k in a word of w bits
pub pow_word : (k w : ℕ) → k < w → 1 * 2 ^ k % 2 ^ w ≡ 2 ^ k
pow_word k w h = rw one-mul (mod-eq_of_lt (pow-lt h))

-- nothing is shifted out of a word
high_word : (x n : ℕ) → x < 2 ^ 32 → x / 2 ^ n * 2 ^ n % 2 ^ 32 ≡ x / 2 ^ n * 2 ^ n
high_word x n h = mod-eq_of_lt (omega (arith, div-add-mod' x (2 ^ n)))

-- ---- reading

pub field_none : (s : List ℕ) (at : ℕ) → field s at 0 ≡ 0
unfolding field num num_from
field_none s at = refl

field_byte : (s : List ℕ) (j : ℕ) → j < length s → get_or s j 0 < 256 → field s (8 * j) 8 ≡ get_or s j 0
unfolding field
field_byte s j h b = rw (drop_bits s j, drop-cons s j 0 h) (first_byte (get_or s j 0) (drop (suc j) s) b)

-- one byte more
pub field_bytes : (s : List ℕ) (q i : ℕ) → q + i < length s → get_or s (q + i) 0 < 256 → field s (8 * q) (8 * (i + 1)) ≡ field s (8 * q) (8 * i) * 256 + get_or s (q + i) 0
field_bytes s q i h b =
    let e : 8 * (i + 1) ≡ 8 * i + 8 = omega arith in
    let f : 8 * q + 8 * i ≡ 8 * (q + i) = omega arith in
    rw (e, field_add s (8 * q) (8 * i) 8 (omega arith), f, field_byte s (q + i) h b)

-- how many bytes the field of n bits at the bit offset at touches
abbrev touched : ℕ → ℕ → ℕ
touched at n = (at % 8 + n + 7) / 8

-- a field from the number of the bytes that it touches, as it is computed in a word
pub field_coded : (s : List ℕ) (at n v : ℕ) → n ≤ 32 → at + n ≤ 8 * length s → v ≡ field s (8 * (at / 8)) (8 * touched at n)
    → v / 2 ^ (8 * touched at n - (at % 8 + n)) % (1 * 2 ^ n % 2 ^ 64) ≡ field s at n
field_coded s at n v h l f =
    let q : ℕ = at / 8 in
    let r : ℕ = 8 * touched at n - (at % 8 + n) in
    let e : 8 * touched at n ≡ at % 8 + (n + r) = omega arith in
    let p : 8 * q + at % 8 ≡ at = omega arith in
    rw (pow_word n 64 (omega arith), f)
    (ap (λ (w : ℕ). field s (8 * q) w / 2 ^ r % 2 ^ n) e
    ∙ sym (field_inside s (8 * q) (at % 8) n r (omega arith))
    ∙ ap (λ (i : ℕ). field s i n) p)

pub gap_zero : (s : List ℕ) (at : ℕ) → eqb (field s at ((8 - at % 8) % 8)) 0 ≡ zeros (take (gap at) (drop at (bits s)))
unfolding field gap
gap_zero s at = sym (zeros_num (take ((8 - at % 8) % 8) (drop at (bits s))))

-- ---- writing

-- the byte x, with c in the place of its k bits above the m low ones
abbrev patch : ℕ → ℕ → ℕ → ℕ → ℕ
patch x k m c = x / 2 ^ (k + m) * 2 ^ (k + m) + (c * 2 ^ m + x % 2 ^ m)

low_lt : (k m x c : ℕ) → c < 2 ^ k → c * 2 ^ m + x % 2 ^ m < 2 ^ (k + m)
low_lt k m x c fits = rw pow-add (digits_lt fits (mod-lt x (pow_pos m)))

module _ (x k m c : ℕ) (within : k + m ≤ 8) (fits : c < 2 ^ k) where
  whole : 8 - (k + m) + (k + m) ≡ 8
  whole = omega arith

  pub patch_lt : x < 256 → patch x k m c < 256
  patch_lt h =
      let o : ℕ = 8 - (k + m) in
      let g : x / 2 ^ (k + m) < 2 ^ o = shr_lt o (k + m) (rw whole h) in
      let r : 2 ^ o * 2 ^ (k + m) ≡ 2 ^ 8 = sym (pow-add 2 o (k + m)) ∙ ap (λ (w : ℕ). 2 ^ w) whole in
      subst (λ (z : ℕ). patch x k m c < z) r (digits_lt g (low_lt k m x c fits))

  -- as it is computed in a word
  pub patch_coded : x < 256 → x / 2 ^ (k + m) * 2 ^ (k + m) % 2 ^ 32 + (c * 2 ^ m % 2 ^ 32 + x % (1 * 2 ^ m % 2 ^ 32)) ≡ patch x k m c
  patch_coded h = rw (high_word x (k + m) (omega arith), pow_word m 32 (omega arith), shl_exact {a = c} k m 32 fits (omega arith))

  -- the three parts of a byte, before and after
  before : bits_of 8 x ≡ bits_of (8 - (k + m)) (x / 2 ^ (k + m)) ++ (bits_of k (x / 2 ^ m) ++ bits_of m x)
  before = ap (λ (w : ℕ). bits_of w x) (sym whole) ∙ rw (bits_of_add (8 - (k + m)) (k + m) x, bits_of_add k m x)

  after : bits_of 8 (patch x k m c) ≡ bits_of (8 - (k + m)) (x / 2 ^ (k + m)) ++ (bits_of k c ++ bits_of m x)
  after =
      ap (λ (w : ℕ). bits_of w (patch x k m c)) (sym whole)
      ∙ rw (
        bits_of_pair (8 - (k + m)) (k + m) (x / 2 ^ (k + m)) (c * 2 ^ m + x % 2 ^ m) (low_lt k m x c fits),
        bits_of_pair k m c (x % 2 ^ m) (mod-lt x (pow_pos m)),
        bits_of_mod,
      )

  pub bits_of_patch : bits_of 8 (patch x k m c) ≡ sets (bits_of 8 x) (8 - (k + m)) (bits_of k c)
  bits_of_patch =
      let o : ℕ = 8 - (k + m) in
      after
      ∙ sym (sets_at (bits_of o (x / 2 ^ (k + m))) (bits_of k (x / 2 ^ m)) (bits_of m x) (bits_of k c) o (length_bits_of o (x / 2 ^ (k + m))) (length_bits_of k c ∙ sym (length_bits_of k (x / 2 ^ m))))
      ∙ ap (λ (l : List Bool). sets l o (bits_of k c)) (sym before)

-- the byte x, with those of c in the place of its bits above the m low ones
module _ (x m c : ℕ) (within : m ≤ 8) (fits : c < 256) (clear : c % 2 ^ m ≡ 0) (byte : x < 256) where
  sum : 8 - m + m ≡ 8
  sum = omega arith

  top : c / 2 ^ m < 2 ^ (8 - m)
  top = shr_lt (8 - m) m (rw sum fits)

  patched : c + x % 2 ^ m ≡ patch x (8 - m) m (c / 2 ^ m)
  patched =
      let none : x / 2 ^ (8 - m + m) ≡ 0 = rw sum (omega arith) in
      rw none (omega (arith, split c m))

  pub high_lt : c + x % 2 ^ m < 256
  high_lt = rw patched (patch_lt x (8 - m) m (c / 2 ^ m) (omega arith) top byte)

  pub bits_of_high : bits_of 8 (c + x % 2 ^ m) ≡ sets (bits_of 8 x) 0 (bits_of (8 - m) (c / 2 ^ m))
  bits_of_high =
      let o : 8 - (8 - m + m) ≡ 0 = omega arith in
      ap (bits_of 8) patched
      ∙ bits_of_patch x (8 - m) m (c / 2 ^ m) (omega arith) top
      ∙ ap (λ (i : ℕ). sets (bits_of 8 x) i (bits_of (8 - m) (c / 2 ^ m))) o

-- a byte is replaced by one that has m over its bits from o on
bits-set : (s : List ℕ) (q o y : ℕ) (m : List Bool) → o + length m ≤ 8 → bits_of 8 y ≡ sets (bits_of 8 (get_or s q 0)) o m → bits (set s q y) ≡ sets (bits s) (8 * q + o) m
unfolding bits
bits-set [] q o y m h e = sym (sets_beyond [] (8 * q + o) m (omega arith))
bits-set (x ∷ xs) zero o y m h e =
    let i : 8 * zero + o ≡ o = omega arith in
    rw (i, e) (sym (sets_left (bits_of 8 x) (bits xs) o m (omega (arith, length_bits_of 8 x))))
bits-set (x ∷ xs) (suc q) o y m h e =
    let i : 8 * suc q + o ≡ 8 + (8 * q + o) = omega arith in
    let l : List Bool = bits_of 8 x ++ bits xs in
    rw (i, sets_drop l 8 (8 * q + o) m (omega (arith, length-append (bits_of 8 x) (bits xs), length_bits_of 8 x)), take_at (bits_of 8 x) (bits xs) 8 (length_bits_of 8 x), drop_at (bits_of 8 x) (bits xs) 8 (length_bits_of 8 x), bits-set xs q o y m h e)

-- k bits that lie in the byte at the bit offset p
pub put_inside : (s : List ℕ) (p k c y : ℕ) → p % 8 + k ≤ 8 → bits_of 8 y ≡ sets (bits_of 8 (get_or s (p / 8) 0)) (8 - (k + (8 - p % 8 - k))) (bits_of k c) → bits (set s (p / 8) y) ≡ sets (bits s) p (bits_of k c)
put_inside s p k c y h e =
    let o : 8 - (k + (8 - p % 8 - k)) ≡ p % 8 = omega arith in
    let f : 8 * (p / 8) + p % 8 ≡ p = omega arith in
    bits-set s (p / 8) (p % 8) y (bits_of k c) (omega (arith, length_bits_of k c)) (e ∙ rw o)
    ∙ ap (λ (i : ℕ). sets (bits s) i (bits_of k c)) f

-- a whole byte
pub put_whole : (s : List ℕ) (q c : ℕ) → bits (set s q c) ≡ sets (bits s) (8 * q) (bits_of 8 c)
put_whole s q c =
    let x : List Bool = bits_of 8 (get_or s q 0) in
    let n : length (bits_of 8 c) ≡ length x = length_bits_of 8 c ∙ sym (length_bits_of 8 (get_or s q 0)) in
    let e : bits_of 8 c ≡ sets x 0 (bits_of 8 c) =
    sym (ap (λ (l : List Bool). sets l 0 (bits_of 8 c)) (sym (append-nil x)) ∙ sets_at [] x [] (bits_of 8 c) 0 refl n ∙ append-nil (bits_of 8 c)) in
    bits-set s q 0 c (bits_of 8 c) (omega (arith, length_bits_of 8 c)) e ∙ ap (λ (i : ℕ). sets (bits s) i (bits_of 8 c)) (add-zero (8 * q))

pub put_start : (l : List Bool) (at v : ℕ) → l ≡ sets l at (bits_of 0 v)
unfolding bits_of
put_start l at v = refl

-- the first i bits of v are written, then the k others
pub put_next : (l : List Bool) (at i k v : ℕ) → sets (sets l at (bits_of i (v / 2 ^ k))) (at + i) (bits_of k v) ≡ sets l at (bits_of (i + k) v)
put_next l at i k v =
    let a : List Bool = bits_of i (v / 2 ^ k) in
    rw bits_of_add
    (subst (λ (z : ℕ). sets (sets l at a) (at + z) (bits_of k v) ≡ sets l at (a ++ bits_of k v)) (length_bits_of i (v / 2 ^ k)) (sets_append l at a (bits_of k v)))

-- all but left of the n bits of v are written, then a byte of those
pub put_more : (l : List Bool) (at n left p v : ℕ) → left ≤ n → 8 ≤ left → p ≡ at + (n - left)
    → sets (sets l at (bits_of (n - left) (v / 2 ^ left))) p (bits_of 8 (v / 2 ^ (left - 8) % 256)) ≡ sets l at (bits_of (n - (left - 8)) (v / 2 ^ (left - 8)))
put_more l at n left p v h g e =
    let y : ℕ = v / 2 ^ (left - 8) in
    let f : left - 8 + 8 ≡ left = omega arith in
    let i : n - left + 8 ≡ n - (left - 8) = omega arith in
    let d : v / 2 ^ left ≡ y / 2 ^ 8 = sym (shr-shr v (left - 8) 8 ∙ ap (λ (k : ℕ). v / 2 ^ k) f) in
    rw (e, d, bits_of_mod 8 y) (put_next l at (n - left) 8 y ∙ ap (λ (k : ℕ). sets l at (bits_of k y)) i)

-- or all of those
pub put_last : (l : List Bool) (at n left p v : ℕ) → left ≤ n → p ≡ at + (n - left)
    → sets (sets l at (bits_of (n - left) (v / 2 ^ left))) p (bits_of left (v % 2 ^ left)) ≡ sets l at (bits_of n v)
put_last l at n left p v h e =
    let i : n - left + left ≡ n = omega arith in
    rw (e, bits_of_mod) (put_next l at (n - left) left v ∙ ap (λ (k : ℕ). sets l at (bits_of k v)) i)

-- up to a byte and from there on, if any are left
pub put_split : (l : List Bool) (at k left n q v : ℕ) → k + left ≡ n → (0 < left → 8 * q ≡ at + k)
    → sets (sets l at (bits_of k (v / 2 ^ left))) (8 * q) (bits_of left v) ≡ sets l at (bits_of n v)
unfolding bits_of
put_split l at k zero n q v e f = rw div-one (let z : k ≡ n = omega arith in ap (λ (w : ℕ). sets l at (bits_of w v)) z)
put_split l at k (suc left) n q v e f = rw (f (omega arith), ← e) (put_next l at k (suc left) v)

-- 24 bits, moved to where they stand in a word before its m low ones
module _ (v m : ℕ) (within : m ≤ 8) (fits : v < 2 ^ 24) where
  pub moved : v * 2 ^ m % 2 ^ 32 ≡ v * 2 ^ m
  moved = shl_exact {a = v} 24 m 32 fits (omega arith)

  pub moved_clear : v * 2 ^ m % 2 ^ 32 % 256 % 2 ^ m ≡ 0
  moved_clear =
      let w : 8 ≡ 8 - m + m = omega arith in
      rw moved (ap (λ (i : ℕ). v * 2 ^ m % 2 ^ i % 2 ^ m) w ∙ mod-mod-pow (v * 2 ^ m) (8 - m) m ∙ ap (λ (y : ℕ). y % 2 ^ m) (sym (add-zero (v * 2 ^ m))) ∙ low v m {lo = 0} (pow_pos m))

-- 24 bits in four bytes, of which the first has m: the bytes of x, which is v before the rest of the last byte
put_four : (l : List Bool) (at m v x p₁ p₂ p₃ : ℕ) → m ≤ 8 → x ≡ v * 2 ^ m → p₁ ≡ at + m → p₂ ≡ p₁ + 8 → p₃ ≡ p₂ + 8
    → sets (sets (sets (sets l at (bits_of m (x / 2 ^ 24))) p₁ (bits_of 8 (x / 2 ^ 16 % 256))) p₂ (bits_of 8 (x / 2 ^ 8 % 256))) p₃ (bits_of (8 - m) (x % 256 / 2 ^ m)) ≡ sets l at (bits_of 24 v)
put_four l at m v x p₁ p₂ p₃ h e i₁ i₂ i₃ =
    let left : ℕ = 24 - m in
    let same : x / 2 ^ m ≡ v = ap (λ (y : ℕ). y / 2 ^ m) e ∙ shl-shr v m in
    let down : (j k : ℕ) → m + j ≡ k → x / 2 ^ k ≡ v / 2 ^ j = (λ j k q. ap (λ (i : ℕ). x / 2 ^ i) (sym q) ∙ sym (shr-shr x m j) ∙ ap (λ (y : ℕ). y / 2 ^ j) same) in
    let last : 8 - m ≡ left - 8 - 8 = omega arith in
    let w : 8 ≡ left - 8 - 8 + m = omega arith in
    let a : bits_of m (x / 2 ^ 24) ≡ bits_of (24 - left) (v / 2 ^ left) = ap (bits_of m) (down left 24 (omega arith)) ∙ ap (λ (k : ℕ). bits_of k (v / 2 ^ left)) (let z : m ≡ 24 - left = omega arith in z) in
    let d : bits_of (8 - m) (x % 256 / 2 ^ m) ≡ bits_of (left - 8 - 8) (v % 2 ^ (left - 8 - 8)) =
    ap (λ (k : ℕ). bits_of k (x % 256 / 2 ^ m)) last
    ∙ ap (bits_of (left - 8 - 8)) (ap (λ (k : ℕ). x % 2 ^ k / 2 ^ m) w ∙ pow.field x (left - 8 - 8) m ∙ ap (λ (y : ℕ). y % 2 ^ (left - 8 - 8)) same) in
    rw (a, d, down (left - 8) 16 (omega arith), down (left - 8 - 8) 8 (omega arith), put_more l at 24 left p₁ v (omega arith) (omega arith) (omega arith), put_more l at 24 (left - 8) p₂ v (omega arith) (omega arith) (omega arith))
    (put_last l at 24 (left - 8 - 8) p₃ v (omega arith) (omega arith))

module _ (s : List ℕ) (at m v x y₁ y₂ : ℕ) where
  abbrev whole_bytes : List ℕ
  whole_bytes = set (set (set s (at / 8) y₁) (at / 8 + 1) (x / 2 ^ 16 % 256)) (at / 8 + 2) (x / 2 ^ 8 % 256)

  pub put_bytes : m ≡ 8 - at % 8 → x ≡ v * 2 ^ m → bits_of 8 y₁ ≡ sets (bits_of 8 (get_or s (at / 8) 0)) (8 - (m + 0)) (bits_of m (x / 2 ^ 24))
      → bits_of 8 y₂ ≡ sets (bits_of 8 (get_or whole_bytes (at / 8 + 3) 0)) 0 (bits_of (8 - m) (x % 256 / 2 ^ m)) → bits (set whole_bytes (at / 8 + 3) y₂) ≡ sets (bits s) at (bits_of 24 v)
  put_bytes e f h₁ h₂ =
      let o : 8 - (m + 0) ≡ at % 8 = omega arith in
      let i : 8 * (at / 8) + at % 8 ≡ at = omega arith in
      let first : bits (set s (at / 8) y₁) ≡ sets (bits s) at (bits_of m (x / 2 ^ 24)) =
      bits-set s (at / 8) (at % 8) y₁ (bits_of m (x / 2 ^ 24)) (omega (arith, length_bits_of m (x / 2 ^ 24))) (h₁ ∙ ap (λ (k : ℕ). sets (bits_of 8 (get_or s (at / 8) 0)) k (bits_of m (x / 2 ^ 24))) o)
      ∙ ap (λ (k : ℕ). sets (bits s) k (bits_of m (x / 2 ^ 24))) i in
      bits-set whole_bytes (at / 8 + 3) 0 y₂ (bits_of (8 - m) (x % 256 / 2 ^ m)) (omega (arith, length_bits_of (8 - m) (x % 256 / 2 ^ m))) h₂
      ∙ ap (λ (t : List Bool). sets t (8 * (at / 8 + 3) + 0) (bits_of (8 - m) (x % 256 / 2 ^ m)))
      (put_whole _ (at / 8 + 2) (x / 2 ^ 8 % 256)
      ∙ ap (λ (t : List Bool). sets t (8 * (at / 8 + 2)) (bits_of 8 (x / 2 ^ 8 % 256)))
      (put_whole _ (at / 8 + 1) (x / 2 ^ 16 % 256) ∙ ap (λ (t : List Bool). sets t (8 * (at / 8 + 1)) (bits_of 8 (x / 2 ^ 16 % 256))) first))
      ∙ put_four (bits s) at m v x (8 * (at / 8 + 1)) (8 * (at / 8 + 2)) (8 * (at / 8 + 3) + 0) (omega arith) f (omega arith) (omega arith) (omega arith)
