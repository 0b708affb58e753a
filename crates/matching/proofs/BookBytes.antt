-- The book of sheets in bytes: it is read back as their fields, one after the other, and has no more different pairs than the record has edges.
use Prim.Native.Nat.{ℕ, ◌<◌, ◌≤◌}
use mathlib.Core.Path.{◌≡◌, refl, sym, ap, ap₂, subst, ◌∙◌}
use mathlib.Core.Bool.{Bool}
use mathlib.Core.List.{List, [], ◌∷◌, ◌++◌, map, flatten, append_assoc, append-nil}
use lib.ListN.{length, get_or, length-map, get_or-map}
use lib.Seq.{ext_get_or}
use native.Mathlib.Omega.{arith}
use Rattle.packed.specs.Bits.{bits}
use Rattle.packed.specs.Format.{ok, decode}
use Rattle.packed.specs.Formats.{record', book}
use Rattle.packed.specs.Contents.{edges_of, views_of, edge_counts, sheet_fields, sheets_in}
use Rattle.packed.specs.Calls.{accepted, read_catalogue, read_book, pairs_of}
use Rattle.packed.specs.Plain.{PlainSheet, Whole, InTurn}
use Rattle.packed.proofs.BitsLaws.{bits-append}
use Rattle.packed.proofs.AcceptedTurns.{no_turns, more_turns}
use Rattle.packed.proofs.BookSheetLaws.{sheets_back}
use Rattle.packed.proofs.Accepted.{sheet_accepted, book_accepted, book_read_lem}
use Rattle.engine.specs.Lists.{In, here, there, gather, each}
use Rattle.engine.specs.Simulation.{Pattern, Graph, graph_of, view_sheet}
use Rattle.matching.specs.Offered.{Offered, offers, view_at, view_patterns}
use Rattle.matching.specs.Search.{sheet_bytes, book_bytes, view_sheets}
use Rattle.engine.proofs.UpToLaws.{length_up_to, get_d_up_to, up_to_in}
use Rattle.matching.proofs.MatchSetLaws.{view_sheet_lem, view_length, book_pairs_lem}
use Rattle.matching.proofs.PatternLaws.{edges_many}
use Rattle.matching.proofs.RecordLaws.{graph_narrow, graph_few}
use Rattle.matching.proofs.OfferedLaws.{sheets_are, view_plain, view_sound}
use Rattle.matching.proofs.SheetBytes.{SheetFields, sets_sheet}

-- ---- sheets one after the other
pub book_append : (xs ys : List (List (List ℕ))) → book_bytes (xs ++ ys) ≡ book_bytes xs ++ book_bytes ys
unfolding book_bytes
book_append [] ys = refl
book_append (ls ∷ xs) ys = ap (λ (l : List ℕ). sheet_bytes ls ++ l) (book_append xs ys) ∙ sym (append_assoc (sheet_bytes ls) (book_bytes xs) (book_bytes ys))

pub book_one : (ls : List (List ℕ)) → book_bytes (ls ∷ []) ≡ sheet_bytes ls
unfolding book_bytes
book_one ls = append-nil (sheet_bytes ls)

-- the fields of the sheets
abbrev pub book_fields : List (List (List ℕ)) → List ℕ
book_fields sheets = flatten (map sheet_fields sheets)

abbrev Sheets : List ℕ → ℕ → List ℕ → List Bool → Type 0
Sheets ms k ws bs = InTurn (λ i. Whole (PlainSheet (get_or ms i 0))) k ws bs

sheets_turn : (sheets : List (List (List ℕ))) → ((ls : List (List ℕ)) → In ls sheets → SheetFields ls)
    → Sheets (map length sheets) (length (map length sheets)) (book_fields sheets) (bits (book_bytes sheets))
unfolding book_bytes flatten
sheets_turn [] f = (no_turns (λ i. Whole (PlainSheet (get_or [] i 0))) [] (bits [])).0 (refl, unfold bits in refl)
sheets_turn (ls ∷ sheets) f =
    let ms : List ℕ = map length sheets in
    (more_turns (λ i. Whole (PlainSheet (get_or (length ls ∷ ms) i 0))) (length ms) (book_fields (ls ∷ sheets)) (bits (sheet_bytes ls ++ book_bytes sheets))).0
    (record {
      first = sheet_fields ls;
      second = book_fields sheets;
      front = bits (sheet_bytes ls);
      back = bits (book_bytes sheets);
      content = refl;
      layout = bits-append (sheet_bytes ls) (book_bytes sheets);
      before = (sheet_accepted (length ls) (sheet_bytes ls) (sheet_fields ls)).0 (f ls (here refl)).back;
      after = sheets_turn sheets (λ x i. f x (there i));
    })

pub book_back : (sheets : List (List (List ℕ))) → ((ls : List (List ℕ)) → In ls sheets → SheetFields ls)
    → decode (book (map length sheets)) (book_bytes sheets) ≡ ok (book_fields sheets)
book_back sheets f = (book_accepted (map length sheets) (book_bytes sheets) (book_fields sheets)).1 (sheets_turn sheets f)

-- ---- the pairs of a book
abbrev listed : List (List ℕ) → List ℕ
listed ls = gather (λ l. l) ls

all_in : (ls : List (List ℕ)) → flatten ls ≡ listed ls
unfolding flatten gather
all_in [] = refl
all_in (l ∷ ls) = ap (λ (x : List ℕ). l ++ x) (all_in ls)

all_listed : (sheets : List (List (List ℕ))) → flatten (map flatten sheets) ≡ gather listed sheets
unfolding flatten gather
all_listed [] = refl
all_listed (ls ∷ sheets) = ap₂ (λ (x y : List ℕ). x ++ y) (all_in ls) (all_listed sheets)

gather_views : (G : Graph) (Ps : List Pattern) → gather listed (each (λ P. view_sheet P G) Ps) ≡ gather (λ P. listed (view_sheet P G)) Ps
unfolding gather each
gather_views G [] = refl
gather_views G (P ∷ Ps) = ap (λ (l : List ℕ). listed (view_sheet P G) ++ l) (gather_views G Ps)

-- ---- of an accepted catalogue with a set, and an accepted record
module _ (c r cs rs : List ℕ) (one : ℕ) (e : read_catalogue c ≡ accepted cs) (f : decode record' r ≡ ok rs) where
  abbrev o : Offered
  o = offers cs one

  abbrev sheets : List (List (List ℕ))
  sheets = view_sheets o (graph_of rs)

  abbrev sheet_at : ℕ → List (List ℕ)
  sheet_at a = view_sheet (view_at o a) (graph_of rs)

  -- the catalogue says how many lists each sheet has
  pub counts_are : edge_counts cs ≡ map length sheets
  unfolding edge_counts
  counts_are =
      let k = length-map (views_of cs) edges_of in
      ext_get_or 0 (map edges_of (views_of cs)) (map length sheets)
      (k ∙ sym (length-map sheets length ∙ ap length (sheets_are o (graph_of rs)) ∙ length_up_to sheet_at (length (views_of cs))))
      (λ a l.
      let h : a < length (views_of cs) = omega arith in
      get_or-map edges_of (views_of cs) a []
      ∙ sym (get_or-map length sheets a []
      ∙ ap (λ (x : List (List (List ℕ))). length (get_or x a [])) (sheets_are o (graph_of rs))
      ∙ ap length (get_d_up_to sheet_at (length (views_of cs)) a [] h)
      ∙ view_length (view_at o a) (graph_of rs)
      ∙ edges_many (view_plain c cs e a h).1))

  all_sheets : (ls : List (List ℕ)) → In ls sheets → SheetFields ls
  all_sheets ls i =
      let q = up_to_in sheet_at (length (views_of cs)) (subst (λ (x : List (List (List ℕ))). In ls x) (sheets_are o (graph_of rs)) i) in
      let P : Pattern = view_at o q.at in
      subst SheetFields (sym (q.holds ∙ view_sheet_lem P (graph_of rs))) (sets_sheet P (graph_of rs) (view_sound c cs e q.at q.below one) (graph_narrow r rs f) (graph_few r rs f))

  -- the book that is made is accepted beside its catalogue, as the fields of its sheets
  pub made_is : decode (book (edge_counts cs)) (book_bytes sheets) ≡ ok (book_fields sheets)
  made_is = rw (← counts_are) at (book_back sheets all_sheets)

  pub made_back : length (book_bytes sheets) ≤ 65536 → read_book cs (book_bytes sheets) ≡ accepted (book_fields sheets)
  made_back h = (book_read_lem cs (book_bytes sheets) (book_fields sheets)).1 (h, (book_accepted (edge_counts cs) (book_bytes sheets) (book_fields sheets)).0 made_is)

  -- and is never crowded
  pub made_few : length (pairs_of (edge_counts cs) (book_fields sheets)) ≤ 8192
  unfolding pairs_of view_sheets
  made_few =
      let p : flatten (map flatten (sheets_in (edge_counts cs) (book_fields sheets))) ≡ gather (λ P. listed (view_sheet P (graph_of rs))) (view_patterns o) =
      ap (λ (x : List (List (List ℕ))). flatten (map flatten x)) (ap (λ (ms : List ℕ). sheets_in ms (book_fields sheets)) counts_are ∙ sheets_back sheets)
      ∙ all_listed sheets
      ∙ gather_views (graph_of rs) (view_patterns o) in
      rw p (omega (arith, book_pairs_lem (view_patterns o) (graph_of rs), graph_few r rs f))
