-- Sheets from a record: read back as the match sets, of the length that is told.
use Prim.Native.Nat.{ℕ, ◌/◌, ◌%◌, ◌<◌}
use mathlib.Core.Path.{◌≡◌, refl, sym, ap, ◌∙◌}
use mathlib.Core.List.{List, [], ◌∷◌}
use lib.ListN.{length}
use lib.Dec.{T}
use native.Mathlib.Omega.{arith}
use Rattle.packed.specs.Formats.{code}
use Rattle.packed.specs.Contents.{edges_of, edge_counts, ends, pair_count, sheet_fields, sheet_length, sheets_in}
use Rattle.packed.specs.Calls.{give, with_workspace, fit_file}
use Rattle.engine.specs.Lists.{In}
use Rattle.engine.specs.Simulation.{Pattern, pattern_of, graph_of, sound, match_sets}
use Rattle.matching.specs.Search.{sheet_bytes, search_outcome, book_for, make_book_outcome}
use Rattle.engine.proofs.ListLaws.{length_each}
use Rattle.matching.proofs.SheetBytes.{search_back, search_size}
use Rattle.matching.proofs.JoinLaws.{answer_each}
use Rattle.matching.specs.Offered.{Brought, Offered, view_patterns}
use Rattle.containment.specs.Answer.{views_in}
use Rattle.answering.specs.Demands.{Question, Catalogue, Record, Sheet, Book, sheet_of, book_of, answer_of}
use Rattle.containment.proofs.AnswerLaws.{views_sound as each_sound}
use Rattle.answering.proofs.CoveredBytes.{offered_goes_on, question_is, record_is, question_bounds, answer_sheet, given_file}
use Rattle.answering.proofs.DemandRules.{goes_on, enough_for, not_refused}

-- ---- the fields of a pair
pub pair_fields : (a b : ℕ) (l : List ℕ) → b < 4096 → ends (code a b ∷ l) ≡ a ∷ b ∷ ends l
unfolding ends
pair_fields a b l h = let x : code a b / 4096 ≡ a = omega arith in let y : code a b % 4096 ≡ b = omega arith in rw (x, y)

-- ---- the sheet that a search gives
module _ (p r ps rs : List ℕ) (e : Question p ps) (f : Record r rs) where
  pub searched : (room : ℕ) → search_outcome p r room ≡ fit_file room (sheet_of (pattern_of ps) rs)
  unfolding search_outcome
  searched room = goes_on _ e ∙ goes_on _ f

  pub searched_back : (out : List ℕ) (room words : ℕ) → with_workspace words (search_outcome p r room) ≡ give [] (out ∷ [])
      → Sheet ps out (sheet_fields (match_sets (pattern_of ps) (graph_of rs)))
  searched_back out room words g =
      let w = enough_for words (search_outcome p r room) (λ z. not_refused (sym z)) g in
      let o = given_file room (sheet_of (pattern_of ps) rs) out (sym (searched room) ∙ w.1) in
      rw o.0 (search_back p r ps rs (question_is p ps e) (record_is r rs f) o.1)

  pub searched_length : length (sheet_of (pattern_of ps) rs) ≡ sheet_length (edges_of ps) (pair_count (match_sets (pattern_of ps) (graph_of rs)))
  searched_length = search_size p r ps rs (question_is p ps e) (record_is r rs f)

pub book_made : (c : Brought) (r : List ℕ) (cs : Offered) (rs : List ℕ) → Catalogue c cs → Record r rs → (room : ℕ) → make_book_outcome c r room ≡ fit_file room (book_of cs rs)
unfolding make_book_outcome
book_made c r cs rs e f room = offered_goes_on c cs e (λ o. book_for o r room) ∙ goes_on _ f

-- an answer is as long as such a sheet
pub answer_size : (q qs : List ℕ) (cs : Offered) (b bs : List ℕ) → Question q qs → Book cs.content b bs → (set : ℕ)
    → length (sheet_bytes (answer_of set qs cs bs)) ≡ sheet_length (edges_of qs) (pair_count (answer_of set qs cs bs))
answer_size q qs cs b bs p k set =
    let Q = pattern_of qs in
    let vs = views_in set (view_patterns cs) (sheets_in (edge_counts cs.content) bs) in
    let n : length (answer_of set qs cs bs) ≡ edges_of qs = ap length (answer_each Q vs) ∙ length_each _ Q.edges ∙ (question_bounds q qs p).many in
    rw n at (answer_sheet cs b bs k Q set).size

-- ---- the patterns of a catalogue
pub views_sound : (c : Brought) (cs : Offered) → Catalogue c cs → (P : Pattern) → In P (view_patterns cs) → T (sound P)
views_sound c cs e = each_sound (record { content = cs.content; is = e.paper; number = refl }) cs.one_way
