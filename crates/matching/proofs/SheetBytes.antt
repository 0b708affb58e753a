-- The sheet of match sets in bytes: how many they are, and that they are read back as the same lists.
use Prim.Native.Nat.{ℕ, ◌≤◌}
use mathlib.Core.Path.{◌≡◌, refl, sym, ap, ap₂, ◌∙◌}
use mathlib.Core.List.{List, [], ◌∷◌}
use lib.ListN.{length}
use lib.Dec.{T}
use native.Mathlib.Omega.{arith}
use Rattle.packed.specs.Format.{ok, decode, encode}
use Rattle.packed.specs.Formats.{pattern, record', sheet}
use Rattle.packed.specs.Contents.{edges_of, pair_count, sheet_fields, sheet_length}
use Rattle.packed.specs.Matches.{all_or_none}
use Rattle.packed.specs.Calls.{accepted, read_sheet, bytes_in}
use Rattle.packed.proofs.SheetLaws.{Fit, fit_none, fit_next, rising_by, all_twice, fields_none, none_encodes, Encoded, sheet_encodes}
use Rattle.packed.proofs.BookSheetLaws.{sheet_injective}
use Rattle.packed.proofs.Accepted.{pattern_accepted, sheet_accepted, sheet_read_lem}
use Rattle.engine.specs.Lists.{In, here, there}
use Rattle.engine.specs.Simulation.{Pattern, Graph, pattern_of, graph_of, match_sets, sound}
use Rattle.matching.specs.Search.{sheet_bytes}
use Rattle.engine.proofs.AllOrNone.{sets_all_or_none}
use Rattle.matching.proofs.MatchSetLaws.{Narrow, Listable, sets_length, sets_listable}
use Rattle.matching.proofs.PatternLaws.{sound_of, edges_many}
use Rattle.matching.proofs.RecordLaws.{graph_narrow, graph_few}

-- the bytes that are written for lists
pub sheet_is : (m : ℕ) (ls : List (List ℕ)) (bytes : List ℕ) → length ls ≡ m → encode (sheet m) (sheet_fields ls) ≡ ok bytes → sheet_bytes ls ≡ bytes
unfolding sheet_bytes
sheet_is m ls bytes e h = ap (λ (k : ℕ). bytes_in (encode (sheet k) (sheet_fields ls))) e ∙ ap bytes_in h

-- where nothing was found they are one zero byte
pub none_bytes : (ls : List (List ℕ)) → pair_count ls ≡ 0 → sheet_bytes ls ≡ 0 ∷ []
none_bytes ls e = sheet_is (length ls) ls (0 ∷ []) refl (ap (encode (sheet (length ls))) (fields_none ls e) ∙ none_encodes (length ls))

-- what they are
pub record SheetFields (ls : List (List ℕ)) : Type 0 where
  pub back : decode (sheet (length ls)) (sheet_bytes ls) ≡ ok (sheet_fields ls)
  pub size : length (sheet_bytes ls) ≡ sheet_length (length ls) (pair_count ls)

pub sheet_by : (m : ℕ) (ls : List (List ℕ)) → length ls ≡ m → Encoded m ls → SheetFields ls
sheet_by m ls e x =
    let b : sheet_bytes ls ≡ x.bytes = sheet_is m ls x.bytes e x.is in
    record { back = rw (e, b) x.back; size = rw (e, b) x.number }

pub fit_by : (ls : List (List ℕ)) → ((l : List ℕ) → In l ls → Listable l) → Fit ls
fit_by [] f = fit_none
fit_by (l ∷ ls) f =
    let r = f l (here refl) in
    fit_next (rising_by 0 l (λ h. omega arith) r.small r.rises) r.most (fit_by ls (λ x i. f x (there i)))

-- the match sets of a pattern in a graph make a sheet
pub sets_sheet : (P : Pattern) (G : Graph) → T (sound P) → Narrow G → length G.edges ≤ 8192 → SheetFields (match_sets P G)
sets_sheet P G s n h =
    let e = sets_all_or_none P G s in
    sheet_by (length (match_sets P G)) (match_sets P G) refl
    (sheet_encodes (length (match_sets P G)) (match_sets P G) refl (fit_by (match_sets P G) (sets_listable P G n h)) (ap all_or_none e ∙ all_twice _ ∙ sym e))

-- they are the same bytes in two graphs only where they are the same
pub sheets_apart : (P : Pattern) (G H : Graph) → SheetFields (match_sets P G) → SheetFields (match_sets P H) → sheet_bytes (match_sets P G) ≡ sheet_bytes (match_sets P H) → match_sets P G ≡ match_sets P H
sheets_apart P G H x y e =
    let l : length (match_sets P G) ≡ length (match_sets P H) = sets_length P G ∙ sym (sets_length P H) in
    let q : ok (sheet_fields (match_sets P G)) ≡ ok (sheet_fields (match_sets P H)) = sym x.back ∙ ap₂ (λ (m : ℕ) (b : List ℕ). decode (sheet m) b) l e ∙ y.back in
    sheet_injective (match_sets P G) (match_sets P H) l (cc)

-- ---- of an accepted pattern and an accepted record
module _ (p r ps rs : List ℕ) (e : decode pattern p ≡ ok ps) (f : decode record' r ≡ ok rs) where
  abbrev lists : List (List ℕ)
  lists = match_sets (pattern_of ps) (graph_of rs)

  pub search_sheet : SheetFields lists
  search_sheet = sets_sheet (pattern_of ps) (graph_of rs) (sound_of ((pattern_accepted p ps).0 e).laid) (graph_narrow r rs f) (graph_few r rs f)

  pub search_many : length lists ≡ edges_of ps
  search_many = sets_length (pattern_of ps) (graph_of rs) ∙ edges_many ((pattern_accepted p ps).0 e).laid

  -- a sheet takes 1 byte where nothing was found, and with m edges and t pairs (1 + 14 m + 24 t) / 8 bytes, rounded up
  pub search_size : length (sheet_bytes lists) ≡ sheet_length (edges_of ps) (pair_count lists)
  search_size = rw search_many at search_sheet.size

  -- the sheet that a search gives is accepted beside its pattern, as the same content
  pub search_is : decode (sheet (edges_of ps)) (sheet_bytes lists) ≡ ok (sheet_fields lists)
  search_is = rw search_many at search_sheet.back

  pub search_back : length (sheet_bytes lists) ≤ 65536 → read_sheet ps (sheet_bytes lists) ≡ accepted (sheet_fields lists)
  search_back h = (sheet_read_lem ps (sheet_bytes lists) (sheet_fields lists)).1 (h, (sheet_accepted (edges_of ps) (sheet_bytes lists) (sheet_fields lists)).0 search_is)
