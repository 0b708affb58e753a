-- The moves of a reader and of a writer through pairs, lists, sheets and books.
use Prim.Native.Nat.{ℕ, zero, suc, ◌+◌, ◌-◌, ◌*◌, ◌/◌, ◌%◌, ◌^◌, ◌<◌, ◌≤◌}
use mathlib.Core.Path.{◌≡◌, refl, ap, sym, ◌∙◌}
use mathlib.Core.List.{List, [], ◌∷◌}
use mathlib.Core.Bool.{Bool, not}
use mathlib.Core.Logic.{⊎_elim}
use lib.ListN.{length, drop, get_or, set, drop_of_length-le}
use lib.Seq.{sets, length-sets, drop-cons}
use lib.Dec.{eqb, leb}
use native.Mathlib.Omega.{arith}
use native.Mathlib.Numerals.{add-one}
use borrow.Author.Tests.{le-leb, lt-leb, eq-eqb, ne_eqb}
use Rattle.packed.specs.Bits.{bits, bits_of, field}
use Rattle.packed.specs.Format.{Format, bytes_of, done, ask, test, pad, then, whole}
use Rattle.packed.specs.Formats.{code, pairs, lists, standing, sheet, book}
use Rattle.packed.specs.Reading.{Reading, Refuses, ReadsPart, Value, TwoValues}
use Rattle.packed.specs.Writing.{Writing, Rejects, WritesPart, Put, TwoPut}
use Rattle.packed.specs.declared.reply.Refusal.{Refusal}
use Rattle.packed.specs.Refusals.{file_number}
use Rattle.packed.specs.declared.reply.File.{File}
use Rattle.packed.specs.declared.reply.File.TheVariants.{Sheet}
use Rattle.packed.specs.declared.reply.Refusal.TheVariants.{Truncated, NotAscending, ZeroCount}
use Rattle.packed.proofs.OrderCases.{lt_or_ge}
use Rattle.packed.proofs.BitsLaws.{field_lt, field_add, bits_of_mod, length-bits}
use Rattle.packed.proofs.BitFields.{put_next}
use Rattle.packed.proofs.RoundTrip.{whole_is, bits_bytes_of}
use Rattle.packed.proofs.ReadingLaws.{field_short, starts, same_at, left_is, goes_on, reads, passes, fails, refused, calls, calls_refused}
use Rattle.packed.proofs.WritingLaws.{begins, same_to, left_to, writes, accepts, denies, rejected, closes, parts, parts_rejected}
use Rattle.packed.specs.Parts.{Part}
use Rattle.std.specs.Prelude.{Ok, Err}

-- ---- what is left of a format, one step on

one_less : (n : ℕ) → 0 < n → n ≡ suc (n - 1)
one_less n h = omega arith

-- after the pair a, b
abbrev after_pair : ℕ → ℕ → ℕ → ℕ → Format
after_pair left least a b = test (leb least (code a b)) 6 (pairs (left - 1) (suc (code a b)))

pub pairs_more : (left least : ℕ) → 0 < left → pairs left least ≡ ask 12 0 4096 3 (λ a. ask 12 0 4096 3 (λ b. after_pair left least a b))
unfolding pairs
pairs_more left least h = ap (λ (k : ℕ). pairs k least) (one_less left h)

pub pairs_end : (left least : ℕ) → left ≤ 0 → pairs left least ≡ done
unfolding pairs
pairs_end zero least h = refl
pairs_end (suc k) least h = absurd (omega arith)

-- after a list's count n
abbrev after_count : ℕ → ℕ → Format
after_count left n = test (not (eqb n 0)) 8 (then (pairs n 0) (lists (left - 1)))

lists_more : (left : ℕ) → 0 < left → lists left ≡ ask 14 0 8193 3 (λ n. after_count left n)
unfolding lists
lists_more left h = ap lists (one_less left h)

pub lists_end : (left : ℕ) → left ≤ 0 → lists left ≡ done
unfolding lists
lists_end zero h = refl
lists_end (suc k) h = absurd (omega arith)

sheet_is : (m : ℕ) → sheet m ≡ ask 1 0 2 3 (λ lead. lists (standing lead m))
unfolding sheet
sheet_is m = refl

-- a book from its sheet j on
abbrev pub book_from : List ℕ → ℕ → Format
book_from counts j = book (drop j counts)

book_more : (counts : List ℕ) (j : ℕ) → j < length counts → book_from counts j ≡ then (whole (sheet (get_or counts j 0))) (book_from counts (j + 1))
unfolding book
book_more counts j h = ap book (drop-cons counts j 0 h ∙ ap (λ (n : ℕ). get_or counts j 0 ∷ drop n counts) (sym (add-one j)))

pub book_end : (counts : List ℕ) (j : ℕ) → length counts ≤ j → book_from counts j ≡ done
unfolding book
book_end counts j h = ap book (drop_of_length-le counts {i = j} h)

-- ---- reading
-- a pair whose bits are not all there
pub pair_short : (s : List ℕ) (at : ℕ) → at ≤ 8 * length s → 8 * length s < at + 24 → (f : ℕ → ℕ → Format)
    → Refuses (ask 12 0 4096 3 (λ a. ask 12 0 4096 3 (λ b. f a b))) s at 4 (Truncated Sheet)
pair_short s at l h f =
    ⊎_elim
    (λ (g : 8 * length s < at + 12). (record { number = field_short s at 12 0 4096 3 (λ a. ask 12 0 4096 3 (λ b. f a b)) l g; detail = refl }))
    (λ (g : at + 12 ≤ 8 * length s). (
    let v : Value 12 0 4096 s at [] 0 (field s at 12) [] = record { some = omega arith; fits = g; is = refl; least = omega arith; most = omega (arith, field_lt s at 12 12 (omega arith)); stored = refl } in
    let second : Refuses (ask 12 0 4096 3 (λ b. f (field s at 12) b)) s (at + 12) 4 (Truncated Sheet) = record { number = field_short s (at + 12) 12 0 4096 3 (λ b. f (field s at 12) b) g (omega arith); detail = refl } in
    refused (reads (starts {w₀ = []} {i₀ = 0} l) v) second))
    (lt_or_ge (8 * length s) (at + 12))

-- the fields of a pair whose bits are all there, from its code
pub pair_values : {s w : List ℕ} {at i c : ℕ} {w₁ w₂ : List ℕ} → at + 24 ≤ 8 * length s → c ≡ field s at 24 → w₁ ≡ set w i (c / 4096) → w₂ ≡ set w₁ (i + 1) (c % 4096)
    → TwoValues 12 4096 s at w i (c / 4096) (c % 4096) w₂
pair_values {s} {at = at} {c = c} {w₁} there is p q =
    let e : c ≡ field s at 12 * 4096 + field s (at + 12) 12 = is ∙ field_add s at 12 12 (omega arith) in
    let m = field_lt s at 12 12 (omega arith) in
    let n = field_lt s (at + 12) 12 12 (omega arith) in
    record {
      between = w₁;
      first = record { some = omega arith; fits = omega arith; is = omega (arith, e, n); least = omega arith; most = omega (arith, e, m, n); stored = p };
      second = record { some = omega arith; fits = omega arith; is = omega (arith, e, n); least = omega arith; most = omega arith; stored = q };
    }

module _ {F : Format} {s : List ℕ} {at₀ : ℕ} {w₀ : List ℕ} {i₀ : ℕ} where
  -- one pair more
  module _ (left least : ℕ) {at : ℕ} {w : List ℕ} {i : ℕ} (h : 0 < left) (r : Reading F s at₀ w₀ i₀ (pairs left least) at w i) where
    pair_read : {a b : ℕ} {w' : List ℕ} → TwoValues 12 4096 s at w i a b w'
        → Reading F s at₀ w₀ i₀ (after_pair left least a b) (at + 24) w' (i + 2)
    pair_read p = same_at (omega arith) (omega arith) (reads (reads (left_is (pairs_more left least h) r) p.first) p.second)

    pub pair_passes : {a b : ℕ} {w' : List ℕ} → TwoValues 12 4096 s at w i a b w' → least ≤ code a b
        → Reading F s at₀ w₀ i₀ (pairs (left - 1) (code a b + 1)) (at + 24) w' (i + 2)
    pair_passes {a} {b} p g = left_is (ap (pairs (left - 1)) (sym (add-one (code a b)))) (passes (le-leb least (code a b) g) (pair_read p))

    -- it doesn't exceed the one before
    pub pair_falls : {file : File} {a b : ℕ} {w' : List ℕ} → TwoValues 12 4096 s at w i a b w' → code a b < least → Refuses F s at₀ (file_number file) (NotAscending file)
    pair_falls {file} {a} {b} p g = fails (NotAscending file) (lt-leb least (code a b) g) refl (pair_read p)

    pub pair_refused : {file : ℕ} {x : Refusal} → ((f : ℕ → ℕ → Format) → Refuses (ask 12 0 4096 3 (λ a. ask 12 0 4096 3 (λ b. f a b))) s at file x)
        → Refuses F s at₀ file x
    pair_refused p = refused (left_is (pairs_more left least h) r) (p (after_pair left least))

  -- one list more
  module _ (left : ℕ) {at : ℕ} {w : List ℕ} {i : ℕ} (h : 0 < left) (r : Reading F s at₀ w₀ i₀ (lists left) at w i) where
    count-read : {n : ℕ} {w' : List ℕ} → Value 14 0 8193 s at w i n w' → Reading F s at₀ w₀ i₀ (after_count left n) (at + 14) w' (i + 1)
    count-read p = reads (left_is (lists_more left h) r) p

    pub count_refused : {file : ℕ} {x : Refusal} → ((f : ℕ → Format) → Refuses (ask 14 0 8193 3 f) s at file x) → Refuses F s at₀ file x
    count_refused p = refused (left_is (lists_more left h) r) (p (after_count left))

    -- it is zero
    pub count_falls : {n : ℕ} {w' : List ℕ} → Value 14 0 8193 s at w i n w' → n ≡ 0 → Refuses F s at₀ 4 (ZeroCount Sheet)
    count_falls {n} p z = fails (ZeroCount Sheet) (ap not (eq-eqb n 0 z)) refl (count-read p)

    module _ {n : ℕ} {w' : List ℕ} (p : Value 14 0 8193 s at w i n w') (z : n ≡ 0 → ⊥) where
      count-passes : Reading F s at₀ w₀ i₀ (then (pairs n 0) (lists (left - 1))) (at + 14) w' (i + 1)
      count-passes = passes (ap not (ne_eqb n 0 z)) (count-read p)

      pub list_passes : {at' : ℕ} {w'' : List ℕ} {i' : ℕ} → Reading (pairs n 0) s (at + 14) w' (i + 1) done at' w'' i' → Reading F s at₀ w₀ i₀ (lists (left - 1)) at' w'' i'
      list_passes q = calls (pairs n 0) (lists (left - 1)) count-passes q

      pub list_refused : {file : ℕ} {x : Refusal} → Refuses (pairs n 0) s (at + 14) file x → Refuses F s at₀ file x
      list_refused q = calls_refused (pairs n 0) (lists (left - 1)) count-passes q

  -- one sheet more
  module _ (counts : List ℕ) (j : ℕ) {at : ℕ} {w : List ℕ} {i : ℕ} (h : j < length counts) (r : Reading F s at₀ w₀ i₀ (book_from counts j) at w i) where
    pub sheet_passes : {at' : ℕ} {w' : List ℕ} {i' : ℕ} → Reading (whole (sheet (get_or counts j 0))) s at w i done at' w' i'
        → Reading F s at₀ w₀ i₀ (book_from counts (j + 1)) at' w' i'
    sheet_passes p = calls (whole (sheet (get_or counts j 0))) (book_from counts (j + 1)) (left_is (book_more counts j h) r) p

    pub sheet_refused : {file : ℕ} {x : Refusal} → Refuses (whole (sheet (get_or counts j 0))) s at file x → Refuses F s at₀ file x
    sheet_refused p = calls_refused (whole (sheet (get_or counts j 0))) (book_from counts (j + 1)) (left_is (book_more counts j h) r) p

-- the lead of a sheet, and then the lists that stand
module _ (m : ℕ) {s : List ℕ} {at : ℕ} where
  pub lead_refused : {file : ℕ} {x : Refusal} → ((f : ℕ → Format) → Refuses (ask 1 0 2 3 f) s at file x) → Refuses (sheet m) s at file x
  lead_refused p = rw (sheet_is m) (p (λ lead. lists (standing lead m)))

  module _ {w : List ℕ} {i lead k : ℕ} {w' : List ℕ} (h : at ≤ 8 * length s) (p : Value 1 0 2 s at w i lead w') (e : k ≡ standing lead m) where
    lead-read : Reading (sheet m) s at w i (lists k) (at + 1) w' (i + 1)
    lead-read = left_is (ap lists (sym e)) (reads (left_is (sheet_is m) (starts h)) p)

    pub lists_read : (r : Part) (w'' : List ℕ) → ReadsPart (lists k) s (at + 1) w' (i + 1) 4 r w'' → ReadsPart (sheet m) s at w i 4 r w''
    lists_read (Ok (at', i')) w'' q = goes_on lead-read q
    lists_read (Err x) w'' q = refused lead-read q

-- a file up to its padding
module _ (f : Format) {s : List ℕ} {at₀ : ℕ} {w₀ : List ℕ} {i₀ : ℕ} (h : at₀ ≤ 8 * length s) where
  pub whole_passes : {at : ℕ} {w : List ℕ} {i : ℕ} → Reading f s at₀ w₀ i₀ done at w i → Reading (whole f) s at₀ w₀ i₀ (pad done) at w i
  whole_passes p = calls f (pad done) (left_is (whole_is f) (starts {F = whole f} h)) p

pub whole_refused : (f : Format) {s : List ℕ} {at₀ file : ℕ} {x : Refusal} → at₀ ≤ 8 * length s → Refuses f s at₀ file x → Refuses (whole f) s at₀ file x
whole_refused f h p = calls_refused f (pad done) (left_is (whole_is f) (starts {F = whole f} {w₀ = []} {i₀ = 0} h)) p

-- ---- writing
-- the fields of a pair whose bits were put at once: as if the first had been put alone before
abbrev from_bits : List ℕ → ℕ → ℕ → List Bool
from_bits b at x = sets (bits b) at (bits_of 12 x)

from_bytes : (b : List ℕ) (at x : ℕ) → bits (bytes_of (length b) (from_bits b at x)) ≡ from_bits b at x
from_bytes b at x = bits_bytes_of (length b) (from_bits b at x) (length-sets (bits b) at (bits_of 12 x) ∙ length-bits b)

module _ {ws : List ℕ} (b : List ℕ) {i : ℕ} (at : ℕ) {x : ℕ} (there : i < length ws) (is : x ≡ get_or ws i 0) (most : x < 4096) where
  pub from_put : Put 12 0 4096 ws i b at x (bytes_of (length b) (from_bits b at x))
  from_put = record { there = there; is = is; least = omega arith; most = most; narrow = omega arith; stored = (from_bytes b at x) }

  pub pair_at_once : {y : ℕ} {b' : List ℕ} → i + 1 < length ws → y ≡ get_or ws (i + 1) 0 → y < 4096 → bits b' ≡ sets (bits b) at (bits_of 24 (x * 4096 + y))
      → TwoPut 12 4096 ws i b at x y b'
  pair_at_once {y} there' is' most' p =
      let c : ℕ = x * 4096 + y in
      let d : c / 2 ^ 12 ≡ x = omega arith in
      let e : c % 2 ^ 12 ≡ y = omega arith in
      let q : sets (from_bits b at x) (at + 12) (bits_of 12 y) ≡ sets (bits b) at (bits_of 24 c) =
      ap (λ (k : ℕ). sets (from_bits b at x) (at + 12) (bits_of 12 k)) (sym e)
      ∙ ap (λ (t : List Bool). sets (from_bits b at x) (at + 12) t) (bits_of_mod 12 c)
      ∙ ap (λ (k : ℕ). sets (sets (bits b) at (bits_of 12 k)) (at + 12) (bits_of 12 c)) (sym d)
      ∙ put_next (bits b) at 12 12 c in
      record {
        between = bytes_of (length b) (from_bits b at x);
        first = from_put;
        second = record {
          there = there';
          is = is';
          least = omega arith;
          most = most';
          narrow = omega arith;
          stored = p ∙ sym q ∙ ap (λ (t : List Bool). sets t (at + 12) (bits_of 12 y)) (sym (from_bytes b at x));
        };
      }

module _ {F : Format} {ws : List ℕ} {i₀ : ℕ} {b₀ : List ℕ} {at₀ : ℕ} where
  -- one pair more
  module _ (left least : ℕ) {i : ℕ} {b : List ℕ} {at : ℕ} (h : 0 < left) (r : Writing F ws i₀ b₀ at₀ (pairs left least) i b at) where
    pair_put : {x y : ℕ} {b' : List ℕ} → TwoPut 12 4096 ws i b at x y b'
        → Writing F ws i₀ b₀ at₀ (after_pair left least x y) (i + 2) b' (at + 24)
    pair_put p = same_to (omega arith) (omega arith) (writes (writes (left_to (pairs_more left least h) r) p.first) p.second)

    pub pair_accepted : {x y : ℕ} {b' : List ℕ} → TwoPut 12 4096 ws i b at x y b' → least ≤ code x y
        → Writing F ws i₀ b₀ at₀ (pairs (left - 1) (code x y + 1)) (i + 2) b' (at + 24)
    pair_accepted {x} {y} p g = left_to (ap (pairs (left - 1)) (sym (add-one (code x y)))) (accepts (le-leb least (code x y) g) (pair_put p))

    -- it doesn't exceed the one before
    pub pair_denied : {file : File} {x y : ℕ} {b' : List ℕ} → TwoPut 12 4096 ws i b at x y b' → code x y < least → Rejects F ws i₀ at₀ (file_number file) (NotAscending file)
    pair_denied {file} {x} {y} p g = denies (NotAscending file) (lt-leb least (code x y) g) refl (pair_put p)

    pub pair_rejected : {file : ℕ} {x : Refusal} → ((f : ℕ → ℕ → Format) → Rejects (ask 12 0 4096 3 (λ a. ask 12 0 4096 3 (λ b. f a b))) ws i at file x)
        → Rejects F ws i₀ at₀ file x
    pair_rejected p = rejected (left_to (pairs_more left least h) r) (p (after_pair left least))

  -- one list more
  module _ (left : ℕ) {i : ℕ} {b : List ℕ} {at : ℕ} (h : 0 < left) (r : Writing F ws i₀ b₀ at₀ (lists left) i b at) where
    count-put : {n : ℕ} {b' : List ℕ} → Put 14 0 8193 ws i b at n b' → Writing F ws i₀ b₀ at₀ (after_count left n) (i + 1) b' (at + 14)
    count-put p = writes (left_to (lists_more left h) r) p

    pub count_rejected : {file : ℕ} {x : Refusal} → ((f : ℕ → Format) → Rejects (ask 14 0 8193 3 f) ws i at file x) → Rejects F ws i₀ at₀ file x
    count_rejected p = rejected (left_to (lists_more left h) r) (p (after_count left))

    -- it is zero
    pub count_denied : {n : ℕ} {b' : List ℕ} → Put 14 0 8193 ws i b at n b' → n ≡ 0 → Rejects F ws i₀ at₀ 4 (ZeroCount Sheet)
    count_denied {n} p z = denies (ZeroCount Sheet) (ap not (eq-eqb n 0 z)) refl (count-put p)

    module _ {n : ℕ} {b' : List ℕ} (p : Put 14 0 8193 ws i b at n b') (z : n ≡ 0 → ⊥) where
      count-accepted : Writing F ws i₀ b₀ at₀ (then (pairs n 0) (lists (left - 1))) (i + 1) b' (at + 14)
      count-accepted = accepts (ap not (ne_eqb n 0 z)) (count-put p)

      pub list_accepted : {i' : ℕ} {b'' : List ℕ} {at' : ℕ} → Writing (pairs n 0) ws (i + 1) b' (at + 14) done i' b'' at' → Writing F ws i₀ b₀ at₀ (lists (left - 1)) i' b'' at'
      list_accepted q = parts (pairs n 0) (lists (left - 1)) count-accepted q

      pub list_rejected : {file : ℕ} {x : Refusal} → Rejects (pairs n 0) ws (i + 1) (at + 14) file x → Rejects F ws i₀ at₀ file x
      list_rejected q = parts_rejected (pairs n 0) (lists (left - 1)) count-accepted q

  -- one sheet more
  module _ (counts : List ℕ) (j : ℕ) {i : ℕ} {b : List ℕ} {at : ℕ} (h : j < length counts) (r : Writing F ws i₀ b₀ at₀ (book_from counts j) i b at) where
    pub sheet_accepted : {i' : ℕ} {b' : List ℕ} {at' : ℕ} → Writing (whole (sheet (get_or counts j 0))) ws i b at done i' b' at'
        → Writing F ws i₀ b₀ at₀ (book_from counts (j + 1)) i' b' at'
    sheet_accepted p = parts (whole (sheet (get_or counts j 0))) (book_from counts (j + 1)) (left_to (book_more counts j h) r) p

    pub sheet_rejected : {file : ℕ} {x : Refusal} → Rejects (whole (sheet (get_or counts j 0))) ws i at file x → Rejects F ws i₀ at₀ file x
    sheet_rejected p = parts_rejected (whole (sheet (get_or counts j 0))) (book_from counts (j + 1)) (left_to (book_more counts j h) r) p

-- the lead of a sheet, and then the lists that stand
module _ (m : ℕ) {ws : List ℕ} {i : ℕ} where
  pub lead_rejected : {file : ℕ} {x : Refusal} → ((f : ℕ → Format) → Rejects (ask 1 0 2 3 f) ws i 0 file x) → Rejects (sheet m) ws i 0 file x
  lead_rejected p = rw (sheet_is m) (p (λ lead. lists (standing lead m)))

  module _ {b : List ℕ} {lead k : ℕ} {b' : List ℕ} (h : i ≤ length ws) (p : Put 1 0 2 ws i b 0 lead b') (e : k ≡ standing lead m) where
    lead-put : Writing (sheet m) ws i b 0 (lists k) (i + 1) b' 1
    lead-put = left_to (ap lists (sym e)) (writes (left_to (sheet_is m) (begins h)) p)

    pub lists_put : (r : Part) (b'' : List ℕ) → WritesPart (lists k) ws (i + 1) b' 1 (196622 * k) 4 r b'' → k ≤ m → WritesPart (sheet m) ws i b 0 (1 + 196622 * m) 4 r b''
    lists_put r b'' q l = closes (196622 * k) (1 + 196622 * m) 4 r b'' lead-put q (omega arith)

-- a file up to its padding
module _ (f : Format) {ws : List ℕ} {i₀ : ℕ} {b₀ : List ℕ} {at₀ : ℕ} (h : i₀ ≤ length ws) where
  pub whole_accepted : {i : ℕ} {b : List ℕ} {at : ℕ} → Writing f ws i₀ b₀ at₀ done i b at → Writing (whole f) ws i₀ b₀ at₀ (pad done) i b at
  whole_accepted p = parts f (pad done) (left_to (whole_is f) (begins {F = whole f} h)) p

pub whole_rejected : (f : Format) {ws : List ℕ} {i₀ at₀ file : ℕ} {x : Refusal} → i₀ ≤ length ws → Rejects f ws i₀ at₀ file x → Rejects (whole f) ws i₀ at₀ file x
whole_rejected f h p = parts_rejected f (pad done) (left_to (whole_is f) (begins {F = whole f} {b₀ = []} h)) p
