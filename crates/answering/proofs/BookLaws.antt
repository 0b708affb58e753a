-- An accepted book among its bits, once its different pairs were gathered: it is what the join needs.
use Prim.Native.Nat.{ℕ, zero, suc, ◌+◌, ◌^◌, ◌<◌, ◌≤◌}
use mathlib.Core.Path.{◌≡◌, sym, ap, ◌∙◌}
use mathlib.Core.Logic.{⊎_elim}
use mathlib.Core.List.{List, [], ◌∷◌}
use lib.ListN.{length, take, get_or, get_or-map}
use lib.Seq.{get_or-take}
use native.Mathlib.Omega.{arith}
use Rattle.packed.specs.Format.{ok, decode}
use Rattle.packed.specs.Formats.{book}
use Rattle.packed.specs.Contents.{edges_of, views_of, edge_counts, distinct, sheets_in}
use Rattle.packed.specs.ByValue.{Small}
use Rattle.packed.specs.Walks.{field_or, codes_at, list_end, pairs_at, lists_end, lists_first, lists_count, sheet_pairs, sheet_end, book_pairs, Different}
use Rattle.packed.specs.BookSheets.{list_at, sheet_at}
use Rattle.packed.proofs.DistinctLaws.{member_distinct, distinct_increasing}
use Rattle.packed.proofs.DistinctMerge.{increasing_at}
use Rattle.packed.proofs.Walks.{standing_most}
use Rattle.packed.proofs.AcceptedBounds.{catalogue_bounds}
use Rattle.packed.proofs.BookSheetLaws.{sheet_many, list_is, list_stands, list_increasing, list_small, list_in_book, lists_begin, list_fits}
use Rattle.engine.specs.Lists.{In}
use Rattle.engine.specs.Masks.{OneOf}
use Rattle.matching.specs.Candidates.{Pool, SheetedAt, Booked}
use Rattle.engine.proofs.ListLaws.{not_in_none, in_at, append_in}
use Rattle.engine.proofs.CodeLaws.{in_member, member_in}
use Rattle.containment.specs.Steps.{Views}
use Rattle.containment.proofs.AnswerLaws.{views_few}
use Rattle.answering.proofs.QuoteLaws.{place_of}

-- ---- each pair of a book stands in one of its lists
in_list : (s : List ℕ) (at m : ℕ) {c : ℕ} → In c (pairs_at s at m) → OneOf m (λ f. In c (list_at s at f))
unfolding pairs_at list_at lists_end
in_list s at zero i = absurd (not_in_none i)
in_list s at (suc m) {c} i =
    ⊎_elim
    (λ j. record { at = 0; below = omega arith; holds = j })
    (λ j. let r = in_list s (list_end s at) m {c = c} j in record { at = suc r.at; below = omega (arith, r.below); holds = r.holds })
    (append_in (codes_at s (at + 14) (field_or s at 14)) i)

in_sheet : (s : List ℕ) (at : ℕ) (ms : List ℕ) {c : ℕ} → In c (book_pairs s at ms)
    → OneOf (length ms) (λ a. OneOf (lists_count s (sheet_at s at ms a) (get_or ms a 0)) (λ f. In c (list_at s (lists_first (sheet_at s at ms a)) f)))
unfolding book_pairs sheet_at
in_sheet s at [] i = absurd (not_in_none i)
in_sheet s at (m ∷ ms) {c} i =
    ⊎_elim
    (λ j. record { at = 0; below = omega arith; holds = in_list s (lists_first at) (lists_count s at m) j })
    (λ j. let r = in_sheet s (sheet_end s at m) ms {c = c} j in record { at = suc r.at; below = omega (arith, r.below); holds = r.holds })
    (append_in (sheet_pairs s at m) i)

-- ---- codes that were gathered
module _ {codes : List ℕ} {d : ℕ} {w : List ℕ} (g : Different codes d w) (few : d ≤ 8192) where
  front_at : (i : ℕ) → i < d → get_or w i 0 ≡ get_or (distinct codes) i 0
  front_at i h = sym (get_or-take d w i 0 h) ∙ ap (λ (l : List ℕ). get_or l i 0) (g.few few)

  pool_by : ((c : ℕ) → In c codes → c < 2 ^ 24) → Pool d w
  pool_by small =
      let n = g.number few in
      record {
        most = few;
        long = g.long;
        small = λ i h.
            rw (front_at i h)
            (small _ (member_in codes (sym (member_distinct (get_or (distinct codes) i 0) codes) ∙ in_member (in_at (distinct codes) i 0 (omega arith)))));
        rises = λ i j h l. rw (front_at i (omega arith), front_at j l) (increasing_at (distinct codes) (distinct_increasing codes) i j h (omega arith));
      }

  pool_has : {c : ℕ} → In c codes → OneOf d (λ i. get_or w i 0 ≡ c)
  pool_has {c} i =
      let r = place_of 0 (member_in (distinct codes) (member_distinct c codes ∙ in_member i)) in
      let h : r.at < d = omega (arith, r.below, g.number few) in
      record { at = r.at; below = h; holds = front_at r.at h ∙ sym r.holds }

-- ---- a book that was accepted for the views of a catalogue
module _ {c : List ℕ} {k : ℕ} (v : Views c k) (counts s bs : List ℕ) (same : take k counts ≡ edge_counts v.content)
    (e : decode (book (edge_counts v.content)) s ≡ ok bs) where
  abbrev ms : List ℕ
  ms = take k counts

  read : decode (book ms) s ≡ ok bs
  read = rw same e

  many : length ms ≡ k
  many = ap length same ∙ (catalogue_bounds c v.content v.is).1 ∙ sym v.number

  -- how many edges each view has
  pub count_is : (a : ℕ) → a < k → get_or counts a 0 ≡ edges_of (get_or (views_of v.content) a [])
  unfolding edge_counts
  count_is a h = sym (get_or-take k counts a 0 h) ∙ ap (λ (l : List ℕ). get_or l a 0) same ∙ get_or-map edges_of (views_of v.content) a []

  -- the lists of its sheets
  pub sheet_long : (a : ℕ) → a < k → length (get_or (sheets_in (edge_counts v.content) bs) a []) ≡ get_or counts a 0
  sheet_long a h = rw (← same) (sheet_many ms s bs read a (omega (arith, many)) ∙ get_or-take k counts a 0 h)

  -- of which so many stand
  abbrev pub stand : ℕ → ℕ
  stand a = lists_count s (sheet_at s 0 (take k counts) a) (get_or counts a 0)

  stand_is : (a : ℕ) → a < k → lists_count s (sheet_at s 0 ms a) (get_or ms a 0) ≡ stand a
  stand_is a h = ap (lists_count s (sheet_at s 0 ms a)) (get_or-take k counts a 0 h)

  pub list_same : (a f : ℕ) → a < k → f < stand a → list_at s (lists_first (sheet_at s 0 (take k counts) a)) f ≡ get_or (get_or (sheets_in (edge_counts v.content) bs) a []) f []
  list_same a f h l = rw (← same) (list_is ms s bs read a f (omega (arith, many)) (omega (arith, stand_is a h)))

  pub list_there : (a f x : ℕ) → a < k → In x (get_or (get_or (sheets_in (edge_counts v.content) bs) a []) f []) → f < stand a
  list_there a f x h i = omega (arith, stand_is a h, list_stands ms s bs read a f x (omega (arith, many)) (rw same (in_member i)))

  module _ {d : ℕ} {w : List ℕ} (g : Different (book_pairs s 0 (take k counts)) d w) (few : d ≤ 8192) (short : length s ≤ 65536) where
    pool : Pool d w
    pool =
        pool_by g few λ x i.
        let r = in_sheet s 0 ms i in
        list_small ms s bs read r.at r.holds.at r.below r.holds.below x (in_member r.holds.holds)

    sheeted : (a : ℕ) → a < k → get_or counts a 0 ≤ 32 → SheetedAt s (sheet_at s 0 (take k counts) a) (get_or counts a 0) d w
    unfolding list_at
    sheeted a h small =
        let n = stand_is a h in
        let b : a < length ms = omega (arith, many) in
        record {
          pool = pool;
          short = short;
          few = omega (arith, standing_most (field_or s (sheet_at s 0 ms a) 1) (get_or counts a 0));
          begins = lists_begin ms s bs read a b;
          each = λ f l. let j : f < lists_count s (sheet_at s 0 ms a) (get_or ms a 0) = omega arith in record {
            pool = pool;
            short = short;
            fits = list_fits ms s bs read a f b j;
            ascends = list_increasing ms s bs read a f b j;
            present = λ x i. pool_has g few (member_in (book_pairs s 0 ms) (list_in_book ms s bs read a f b j x (in_member i)));
          };
        }

    pub booked_by : Small counts → Booked s counts k d w
    booked_by small = record { pool = pool; short = short; few = views_few v; small = small; each = λ a h. sheeted a h (small a) }
