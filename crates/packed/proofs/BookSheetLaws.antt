-- The lists of an accepted book, as they stand among its bits, are the lists of its content: each ascends, in 24 bits, and lies within the book.
use mathlib.Core.Path.{◌≡◌, refl, ap, ap₂, ◌∙◌, sym}
use mathlib.Core.Bool.{true, or-true}
use mathlib.Core.Logic.{⊎_elim}
use mathlib.Core.List.{List, [], ◌∷◌, ◌++◌, map, flatten, append-nil}
use Prim.Native.Nat.{ℕ, zero, suc, ◌+◌, ◌-◌, ◌*◌, ◌/◌, ◌%◌, ◌^◌, ◌<◌, ◌≤◌}
use native.Mathlib.Omega.{arith}
use native.Mathlib.Nat.{sub-zero, sub_self}
use lib.ListN.{length, drop, get_or, replicate, length-append, length-replicate, get_or-append}
use Rattle.packed.specs.Format.{ok, decode}
use Rattle.packed.specs.Formats.{code, standing, book}
use Rattle.packed.specs.Contents.{codes_in, member, lists_in, sheet_lists, sheets_in, ends, fields_of, pair_count, sheet_fields}
use Rattle.packed.specs.Distinct.{Increasing}
use Rattle.packed.specs.Walks.{field_or, codes_at, list_end, pairs_at, lists_end, lists_first, lists_count, sheet_pairs, sheet_end, book_pairs}
use Rattle.packed.specs.BookSheets.{list_at, sheet_at}
use Rattle.packed.proofs.BitsLaws.{field_lt}
use Rattle.packed.proofs.OrderCases.{lt_or_ge, eq_or_ne}
use Rattle.packed.proofs.DistinctLaws.{member_append, member_below}
use Rattle.packed.proofs.Walks.{field_or_in, field_or_out, standing_most}
use Rattle.packed.proofs.SheetLaws.{fields_none, fields_some}
use Rattle.packed.proofs.WalkLaws.{ListsOf, none_of, more_of, sheets_more, lists_at, sheet_lists_at, sheets_at, read_whole}

-- ---- how many there are
lists_many : (m : ℕ) (ws : List ℕ) → length (lists_in m ws) ≡ m
unfolding lists_in
lists_many zero ws = refl
lists_many (suc m) ws = ap suc (lists_many m _)

sheet_long : (m : ℕ) (ws : List ℕ) → length (sheet_lists m ws) ≡ m
unfolding sheet_lists
sheet_long m ws =
    let k : ℕ = standing (get_or ws 0 0) m in
    omega (arith, length-append (lists_in k (drop 1 ws)) (replicate (m - k) []), lists_many k (drop 1 ws), length-replicate {A = List ℕ} (m - k) [], standing_most (get_or ws 0 0) m)

lists_in_sheet : (ms ws : List ℕ) (a : ℕ) → a < length ms → length (get_or (sheets_in ms ws) a []) ≡ get_or ms a 0
unfolding sheets_in
lists_in_sheet [] ws a h = absurd (omega arith)
lists_in_sheet (m ∷ ms) ws zero h = sheet_long m ws
lists_in_sheet (m ∷ ms) ws (suc a) h = lists_in_sheet ms _ a (omega arith)

-- ---- by their numbers
list_at_lem : (s : List ℕ) (at m f : ℕ) → f < m → get_or (lists_at s at m) f [] ≡ list_at s at f
unfolding lists_at list_at lists_end
list_at_lem s at zero f h = absurd (omega arith)
list_at_lem s at (suc m) zero h = refl
list_at_lem s at (suc m) (suc f) h = list_at_lem s (list_end s at) m f (omega arith)

lists_at_many : (s : List ℕ) (at m : ℕ) → length (lists_at s at m) ≡ m
unfolding lists_at
lists_at_many s at zero = refl
lists_at_many s at (suc m) = ap suc (lists_at_many s (list_end s at) m)

sheet_at_lem : (s : List ℕ) (at : ℕ) (ms : List ℕ) (a : ℕ) → a < length ms → get_or (sheets_at s at ms) a [] ≡ sheet_lists_at s (sheet_at s at ms a) (get_or ms a 0)
unfolding sheets_at sheet_at
sheet_at_lem s at [] a h = absurd (omega arith)
sheet_at_lem s at (m ∷ ms) zero h = refl
sheet_at_lem s at (m ∷ ms) (suc a) h = sheet_at_lem s (sheet_end s at m) ms a (omega arith)

-- a list that stands, and one that doesn't
standing_at : (s : List ℕ) (at m f : ℕ) → f < lists_count s at m → get_or (sheet_lists_at s at m) f [] ≡ list_at s (lists_first at) f
standing_at s at m f h =
    let k : ℕ = lists_count s at m in
    get_or-append (lists_at s (lists_first at) k) (replicate (m - k) []) [] f (omega (arith, lists_at_many s (lists_first at) k)) ∙ list_at_lem s (lists_first at) k f h

none_after : (ls : List (List ℕ)) (n f : ℕ) → length ls ≤ f → get_or (ls ++ replicate n []) f [] ≡ []
none_after [] zero f h = refl
none_after [] (suc n) zero h = refl
none_after [] (suc n) (suc f) h = none_after [] n f (omega arith)
none_after (l ∷ ls) n zero h = absurd (omega arith)
none_after (l ∷ ls) n (suc f) h = none_after ls n f (omega arith)

nothing : (c : ℕ) → member c [] ≡ true → ⊥
unfolding member
nothing c e = let z : ◌≡◌ {A = ℕ} 0 1 = cc in omega arith

stands_by : (s : List ℕ) (at m f c : ℕ) → member c (get_or (sheet_lists_at s at m) f []) ≡ true → f < lists_count s at m
stands_by s at m f c e =
    let k : ℕ = lists_count s at m in
    ⊎_elim
    (λ (h : f < k). h)
    (λ (h : k ≤ f). absurd (nothing c (sym (ap (member c) (none_after (lists_at s (lists_first at) k) (m - k) f (omega (arith, lists_at_many s (lists_first at) k)))) ∙ e)))
    (lt_or_ge f k)

-- ---- codes have 24 bits
code_below : (s : List ℕ) (at : ℕ) → field_or s at 24 < 2 ^ 24
code_below s at =
    ⊎_elim
    (λ h. rw (field_or_out s at 24 h) (omega arith))
    (λ h. rw (field_or_in s at 24 h) (field_lt s at 24 24 (omega arith)))
    (lt_or_ge (8 * length s) (at + 24))

codes_below : (s : List ℕ) (at k j : ℕ) → j < length (codes_at s at k) → get_or (codes_at s at k) j 0 < 2 ^ 24
unfolding codes_at
codes_below s at zero j h = absurd (omega arith)
codes_below s at (suc k) zero h = code_below s at
codes_below s at (suc k) (suc j) h = codes_below s (at + 24) k j (omega arith)

-- ---- among the pairs of the book
in_front : (c : ℕ) (a b : List ℕ) → member c a ≡ true → member c (a ++ b) ≡ true
in_front c a b e = rw (member_append c a b, e)

in_back : (c : ℕ) (a b : List ℕ) → member c b ≡ true → member c (a ++ b) ≡ true
in_back c a b e = rw (member_append c a b, e) (or-true (member c a))

list_in_lists : (s : List ℕ) (at m f c : ℕ) → f < m → member c (list_at s at f) ≡ true → member c (pairs_at s at m) ≡ true
unfolding list_at lists_end pairs_at
list_in_lists s at zero f c h e = absurd (omega arith)
list_in_lists s at (suc m) zero c h e = in_front c (list_at s at 0) (pairs_at s (list_end s at) m) e
list_in_lists s at (suc m) (suc f) c h e = in_back c (list_at s at 0) (pairs_at s (list_end s at) m) (list_in_lists s (list_end s at) m f c (omega arith) e)

list_in_sheets : (s : List ℕ) (at : ℕ) (ms : List ℕ) (a f c : ℕ) → a < length ms → f < lists_count s (sheet_at s at ms a) (get_or ms a 0)
    → member c (list_at s (lists_first (sheet_at s at ms a)) f) ≡ true → member c (book_pairs s at ms) ≡ true
unfolding sheet_at book_pairs
list_in_sheets s at [] a f c h l e = absurd (omega arith)
list_in_sheets s at (m ∷ ms) zero f c h l e = in_front c (sheet_pairs s at m) (book_pairs s (sheet_end s at m) ms) (list_in_lists s (lists_first at) (lists_count s at m) f c l e)
list_in_sheets s at (m ∷ ms) (suc a) f c h l e = in_back c (sheet_pairs s at m) (book_pairs s (sheet_end s at m) ms) (list_in_sheets s (sheet_end s at m) ms a f c (omega arith) l e)

-- ---- the fields of given sheets
ends_long : (l : List ℕ) → length (ends l) ≡ 2 * length l
unfolding ends
ends_long [] = refl
ends_long (c ∷ cs) = omega (arith, ends_long cs)

codes_back : (l more : List ℕ) → codes_in (length l) (ends l ++ more) ≡ l
unfolding codes_in ends
codes_back [] more = refl
codes_back (c ∷ cs) more = ap₂ (λ (x : ℕ) (l : List ℕ). x ∷ l) (let z : code (c / 4096) (c % 4096) ≡ c = omega arith in z) (codes_back cs more)

lists_back : (ls : List (List ℕ)) → ListsOf (length ls) (fields_of ls) ls
unfolding fields_of
lists_back [] = none_of
lists_back (l ∷ ls) = more_of (length ls) (length l) (ends l) l (fields_of ls) ls (ends_long l) (codes_back l) (lists_back ls)

-- lists of which none has a pair
pub none_total : (ls : List (List ℕ)) → pair_count ls ≡ 0 → ls ≡ replicate (length ls) []
unfolding pair_count
none_total [] h = refl
none_total ([] ∷ ls) h = ap (λ (x : List (List ℕ)). [] ∷ x) (none_total ls (omega arith))
none_total ((x ∷ l) ∷ ls) h = absurd (omega arith)

sheet_back : (ls : List (List ℕ)) (ms us : List ℕ) → sheets_in (length ls ∷ ms) (sheet_fields ls ++ us) ≡ ls ∷ sheets_in ms us
unfolding standing
sheet_back ls ms us =
    ⊎_elim
    (λ z. rw (fields_none ls z)
    (sheets_more (length ls) 0 ms [] us [] none_of
    ∙ ap (λ (x : List (List ℕ)). x ∷ sheets_in ms us) (ap (λ (n : ℕ). replicate n []) (sub-zero (length ls)) ∙ sym (none_total ls z))))
    (λ z. rw (fields_some ls z)
    (sheets_more (length ls) 1 ms (fields_of ls) us ls (lists_back ls)
    ∙ ap (λ (x : List (List ℕ)). x ∷ sheets_in ms us) (ap (λ (n : ℕ). ls ++ replicate n []) (sub_self (length ls)) ∙ append-nil ls)))
    (eq_or_ne (pair_count ls) 0)

-- lists can be read off the fields of their sheet
pub sheet_injective : (ls ms : List (List ℕ)) → length ls ≡ length ms → sheet_fields ls ≡ sheet_fields ms → ls ≡ ms
sheet_injective ls ms n h =
    let p : ls ∷ sheets_in [] [] ≡ ms ∷ sheets_in [] [] =
    sym (sheet_back ls [] []) ∙ ap₂ (λ (k : ℕ) (w : List ℕ). sheets_in (k ∷ []) (w ++ [])) n h ∙ sheet_back ms [] [] in
    cc

pub sheets_back : (sheets : List (List (List ℕ))) → sheets_in (map length sheets) (flatten (map sheet_fields sheets)) ≡ sheets
unfolding flatten
sheets_back [] = unfold sheets_in in refl
sheets_back (ls ∷ sheets) =
    sheet_back ls (map length sheets) (flatten (map sheet_fields sheets)) ∙ ap (λ (t : List (List (List ℕ))). ls ∷ t) (sheets_back sheets)

-- ---- the lists of an accepted book
module _ (ms s ws : List ℕ) (e : decode (book ms) s ≡ ok ws) where
  -- where the sheet a begins, and how many of its lists stand
  abbrev start : ℕ → ℕ
  start a = sheet_at s 0 ms a

  abbrev stand : ℕ → ℕ
  stand a = lists_count s (start a) (get_or ms a 0)

  pub sheet_many : (a : ℕ) → a < length ms → length (get_or (sheets_in ms ws) a []) ≡ get_or ms a 0
  sheet_many = lists_in_sheet ms ws

  sheet_is : (a : ℕ) → a < length ms → get_or (sheets_in ms ws) a [] ≡ sheet_lists_at s (start a) (get_or ms a 0)
  sheet_is a h = ap (λ (x : List (List (List ℕ))). get_or x a []) (read_whole ms s ws e).sheets ∙ sheet_at_lem s 0 ms a h

  pub list_is : (a f : ℕ) → a < length ms → f < stand a → list_at s (lists_first (start a)) f ≡ get_or (get_or (sheets_in ms ws) a []) f []
  list_is a f h l = sym (ap (λ (x : List (List ℕ)). get_or x f []) (sheet_is a h) ∙ standing_at s (start a) (get_or ms a 0) f l)

  -- a list that has a pair stands
  pub list_stands : (a f c : ℕ) → a < length ms → member c (get_or (get_or (sheets_in ms ws) a []) f []) ≡ true → f < stand a
  list_stands a f c h m = stands_by s (start a) (get_or ms a 0) f c (ap (λ (x : List (List ℕ)). member c (get_or x f [])) (sym (sheet_is a h)) ∙ m)

  pub list_increasing : (a f : ℕ) → a < length ms → f < stand a → Increasing (list_at s (lists_first (start a)) f)
  unfolding list_at
  list_increasing a f h l = (((read_whole ms s ws e).stand a h).each f l).rises

  pub list_small : (a f : ℕ) → a < length ms → f < stand a → (c : ℕ) → member c (list_at s (lists_first (start a)) f) ≡ true → c < 2 ^ 24
  unfolding list_at
  list_small a f h l =
      let at : ℕ = lists_end s (lists_first (start a)) f in
      let k : ℕ = field_or s at 14 in
      member_below (codes_at s (at + 14) k) (2 ^ 24) (codes_below s (at + 14) k)

  pub list_in_book : (a f : ℕ) → a < length ms → f < stand a → (c : ℕ) → member c (list_at s (lists_first (start a)) f) ≡ true → member c (book_pairs s 0 ms) ≡ true
  list_in_book a f h l c m = list_in_sheets s 0 ms a f c h l m

  pub lists_begin : (a : ℕ) → a < length ms → lists_first (start a) ≤ 8 * length s
  lists_begin a h = ((read_whole ms s ws e).stand a h).begins

  pub list_fits : (a f : ℕ) → a < length ms → f < stand a
      → lists_end s (lists_first (start a)) f + 14 + 24 * field_or s (lists_end s (lists_first (start a)) f) 14 ≤ 8 * length s
  list_fits a f h l = (((read_whole ms s ws e).stand a h).each f l).fits
