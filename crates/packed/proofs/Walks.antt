-- The walks over the pairs of sheets and books, one step at a time.
use mathlib.Core.Path.{◌≡◌, refl, sym, ap₂, ◌∙◌}
use mathlib.Core.List.{List, [], ◌∷◌, ◌++◌}
use mathlib.Core.Logic.{⊎_elim}
use Prim.Native.Nat.{ℕ, zero, suc, ◌+◌, ◌-◌, ◌*◌, ◌%◌, ◌<◌, ◌≤◌}
use native.Mathlib.Omega.{arith}
use native.Mathlib.Numerals.{add-one}
use native.Mathlib.Nat.{mod-eq_of_lt}
use lib.ListN.{length, take, drop, get_or, length-take, drop_of_length-le, get_or-eq_default}
use lib.Seq.{drop-cons, get_or-take, length-take-le}
use borrow.Author.Tests.{le-leb, lt-leb, eq-eqb, ne_eqb}
use Rattle.packed.specs.Bits.{field}
use Rattle.packed.specs.Limits.{pair_width}
use Rattle.packed.specs.Formats.{standing}
use Rattle.packed.specs.Walks.{field_or, codes_at, pair_place, codes_on, Spans, pairs_at, lists_end, sheet_pairs, sheet_end, book_pairs, codes_from, pairs_from, fields_end, fields_count, book_pairs_from}
use Rattle.packed.specs.declared.cursor.Extent.{Extent}
use Rattle.packed.proofs.OrderCases.{eq_or_ne}

-- ---- a field, or 0
pub field_or_in : (s : List ℕ) (at n : ℕ) → at + n ≤ 8 * length s → field_or s at n ≡ field s at n
unfolding field_or
field_or_in s at n h = rw (le-leb (at + n) (8 * length s) h)

pub field_or_out : (s : List ℕ) (at n : ℕ) → 8 * length s < at + n → field_or s at n ≡ 0
unfolding field_or
field_or_out s at n h = rw (lt-leb (at + n) (8 * length s) h)

pub low_none : (ws : List ℕ) (i n : ℕ) → length ws ≤ i → 0 < n → 0 ≡ get_or ws i 0 % n
low_none ws i n h p = rw (get_or-eq_default ws 0 h) (sym (mod-eq_of_lt p))

-- ---- a list, pair by pair
pub codes_start : (s : List ℕ) (first n : ℕ) → codes_on s first n 0 ≡ codes_at s first n
codes_start s first n = ap₂ (codes_at s) (let z : first + pair_width * 0 ≡ first = omega arith in z) (let z : n - 0 ≡ n = omega arith in z)

pub codes_none : (s : List ℕ) (first n i : ℕ) → n ≤ i → codes_on s first n i ≡ []
unfolding codes_at
codes_none s first n i h = let z : n - i ≡ 0 = omega arith in rw z

codes_next : (s : List ℕ) (at k v : ℕ) → 0 < k → v ≡ field_or s at pair_width → codes_at s at k ≡ (v ∷ []) ++ codes_at s (at + pair_width) (k - 1)
unfolding codes_at
codes_next s at zero v h e = absurd (omega arith)
codes_next s at (suc k) v h e = let z : suc k - 1 ≡ k = omega arith in rw (z, e)

pub codes_more : (s : List ℕ) (first n i v : ℕ) → i < n → v ≡ field_or s (pair_place first i) pair_width
    → codes_on s first n i ≡ (v ∷ []) ++ codes_on s first n (i + 1)
codes_more s first n i v h e =
    let p : first + pair_width * i + pair_width ≡ first + pair_width * (i + 1) = omega arith in
    let q : n - i - 1 ≡ n - (i + 1) = omega arith in
    codes_next s (pair_place first i) (n - i) v (omega arith) e ∙ ap₂ (λ (at k : ℕ). v ∷ codes_at s at k) p q

-- ---- lists
pub pairs_none : (s : List ℕ) (at m : ℕ) → m ≤ 0 → pairs_at s at m ≡ []
unfolding pairs_at
pairs_none s at zero h = refl
pairs_none s at (suc m) h = absurd (omega arith)

pub ends_none : (s : List ℕ) (at m : ℕ) → m ≤ 0 → lists_end s at m ≡ at
unfolding lists_end
ends_none s at zero h = refl
ends_none s at (suc m) h = absurd (omega arith)

module _ {s : List ℕ} {at : ℕ} {l : Extent} (p : Spans s at l) where
  pub pairs_more : (m : ℕ) → 0 < m → pairs_at s at m ≡ codes_at s l.first l.count ++ pairs_at s l.next (m - 1)
  unfolding pairs_at
  pairs_more zero h = absurd (omega arith)
  pairs_more (suc m) h = let z : suc m - 1 ≡ m = omega arith in rw (z, p.first, p.count, p.next)

  pub ends_more : (m : ℕ) → 0 < m → lists_end s at m ≡ lists_end s l.next (m - 1)
  unfolding lists_end
  ends_more zero h = absurd (omega arith)
  ends_more (suc m) h = let z : suc m - 1 ≡ m = omega arith in rw (z, p.next)

-- ---- a book, sheet by sheet
pub standing_none : (lead m : ℕ) → lead ≡ 0 → 0 ≡ standing lead m
unfolding standing
standing_none lead m e = rw (eq-eqb lead 0 e)

pub standing_all : (lead m : ℕ) → (lead ≡ 0 → ⊥) → m ≡ standing lead m
unfolding standing
standing_all lead m n = rw (ne_eqb lead 0 n)

pub standing_most : (lead m : ℕ) → standing lead m ≤ m
standing_most lead m = ⊎_elim (λ e. omega (arith, standing_none lead m e)) (λ n. omega (arith, standing_all lead m n)) (eq_or_ne lead 0)

pub book_none : (s : List ℕ) (at j k : ℕ) (counts : List ℕ) → k ≤ j → book_pairs s at (drop j (take k counts)) ≡ []
unfolding book_pairs
book_none s at j k counts h = rw (drop_of_length-le (take k counts) {i = j} (omega (arith, length-take k counts)))

pub book_more : (s : List ℕ) (at j k next : ℕ) (counts : List ℕ) → j < k → k ≤ length counts → next ≡ sheet_end s at (get_or counts j 0)
    → book_pairs s at (drop j (take k counts)) ≡ sheet_pairs s at (get_or counts j 0) ++ book_pairs s next (drop (j + 1) (take k counts))
unfolding book_pairs
book_more s at j k next counts h l e =
    let z = length-take-le k counts l in
    rw (drop-cons (take k counts) j 0 (omega arith), get_or-take k counts j 0 h, ← e, add-one j)

-- ---- the same among fields
pub codes_from_none : (ws : List ℕ) (i k : ℕ) → k ≤ 0 → codes_from ws i k ≡ []
unfolding codes_from
codes_from_none ws i zero h = refl
codes_from_none ws i (suc k) h = absurd (omega arith)

pub codes_from_more : (ws : List ℕ) (i k a b : ℕ) → 0 < k → a ≡ get_or ws i 0 % 4096 → b ≡ get_or ws (i + 1) 0 % 4096
    → codes_from ws i k ≡ ((a * 4096 + b) ∷ []) ++ codes_from ws (i + 2) (k - 1)
unfolding codes_from
codes_from_more ws i zero a b h e f = absurd (omega arith)
codes_from_more ws i (suc k) a b h e f = let z : suc k - 1 ≡ k = omega arith in rw (z, e, f)

pub pairs_from_none : (ws : List ℕ) (i m : ℕ) → m ≤ 0 → pairs_from ws i m ≡ []
unfolding pairs_from
pairs_from_none ws i zero h = refl
pairs_from_none ws i (suc m) h = absurd (omega arith)

pub pairs_from_more : (ws : List ℕ) (i m n : ℕ) → 0 < m → n ≡ get_or ws i 0 % 16384
    → pairs_from ws i m ≡ codes_from ws (i + 1) n ++ pairs_from ws (i + (1 + 2 * n)) (m - 1)
unfolding pairs_from
pairs_from_more ws i zero n h e = absurd (omega arith)
pairs_from_more ws i (suc m) n h e = let z : suc m - 1 ≡ m = omega arith in rw (z, e)

pub fields_end_none : (ws : List ℕ) (i m : ℕ) → m ≤ 0 → fields_end ws i m ≡ i
unfolding fields_end
fields_end_none ws i zero h = refl
fields_end_none ws i (suc m) h = absurd (omega arith)

pub fields_end_more : (ws : List ℕ) (i m n : ℕ) → 0 < m → n ≡ get_or ws i 0 % 16384 → fields_end ws i m ≡ fields_end ws (i + (1 + 2 * n)) (m - 1)
unfolding fields_end
fields_end_more ws i zero n h e = absurd (omega arith)
fields_end_more ws i (suc m) n h e = let z : suc m - 1 ≡ m = omega arith in rw (z, e)

pub book_from_none : (ws : List ℕ) (i j k : ℕ) (counts : List ℕ) → k ≤ j → book_pairs_from ws i (drop j (take k counts)) ≡ []
unfolding book_pairs_from
book_from_none ws i j k counts h = rw (drop_of_length-le (take k counts) {i = j} (omega (arith, length-take k counts)))

pub book_from_more : (ws : List ℕ) (i j k m next : ℕ) (counts : List ℕ) → j < k → k ≤ length counts → m ≡ fields_count ws i (get_or counts j 0) → next ≡ fields_end ws (i + 1) m
    → book_pairs_from ws i (drop j (take k counts)) ≡ pairs_from ws (i + 1) m ++ book_pairs_from ws next (drop (j + 1) (take k counts))
unfolding book_pairs_from
book_from_more ws i j k m next counts h l e f =
    let z = length-take-le k counts l in
    rw (drop-cons (take k counts) j 0 (omega arith), get_or-take k counts j 0 h, ← e, ← f, add-one j)
