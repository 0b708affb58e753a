-- The answers of the calls, once the files were accepted; a pattern that was accepted, by value.
use Prim.Native.Nat.{ℕ, ◌+◌, ◌<◌, ◌≤◌}
use mathlib.Core.Path.{◌≡◌, refl, sym, ap, subst, ◌∙◌}
use mathlib.Core.List.{List, [], ◌∷◌}
use Rattle.std.specs.Prelude.{Option, None, Some}
use Rattle.std.specs.Borrow.{Bor}
use lib.ListN.{length}
use native.Mathlib.Omega.{arith}
use borrow.Author.Tests.{lt-ltb, le-ltb}
use Rattle.packed.specs.Format.{ok, decode}
use Rattle.packed.specs.Formats.{pattern, record'}
use Rattle.packed.specs.Plain.{PlainPattern}
use Rattle.packed.specs.ByValue.{HoldsPattern}
use Rattle.packed.specs.Refusals.{Told, told, reply_told, number_of, detail_of}
use Rattle.packed.specs.declared.reply.Refusal.{Refusal}
use Rattle.packed.specs.declared.reply.Refusal.TheVariants.{NoRoom}
use Rattle.packed.specs.Parts.{Reply}
use Rattle.packed.specs.Calls.{Outcome, give, refuse, told_of, fronts, outputs_of, Fulfils, FulfilsOne, judged, rejected, read_pattern, read_record, fit, fit_file}
use Rattle.packed.specs.Accepting.{Held}
use Rattle.packed.specs.LoadedGraph.{Holds}
use Rattle.packed.specs.declared.by_value.Pattern.{Pattern as Given}
use Rattle.packed.proofs.Accepted.{pattern_accepted}
use Rattle.packed.proofs.CallLaws.{body_refused, read_finds, accepted_by, read_says, judged_accepted, refusal_answered, fit_fits, fitted_tight, fitted_given}
use Rattle.engine.specs.Simulation.{Pattern, pattern_of, graph_of, match_sets, view_sheet}
use Rattle.engine.specs.Index.{index_for, index_of, own_index}
use Rattle.engine.specs.Places.{FirstsMade, edges_at, IndexJudged}
use Rattle.engine.specs.Loaded.{pattern_in, graph_in, Fair}
use Rattle.engine.specs.Matched.{Proper}
use Rattle.matching.specs.Offered.{Offered, view_patterns}
use Rattle.matching.specs.Search.{sheet_bytes, book_bytes, view_sheets, search_for, book_for}
use Rattle.matching.specs.Index.{make_index_outcome, check_index_outcome, search_indexed_for, search_by}
use Rattle.engine.proofs.ListLaws.{each_same}
use Rattle.matching.proofs.MatchSetLaws.{view_same}
use Rattle.matching.proofs.PatternLaws.{fair_by, proper_by, pattern_same}
use Rattle.matching.specs.Books.{book_in}
use Rattle.engine.proofs.OwnIndex.{own_accepted, index_long, firsts_front}
use Rattle.matching.proofs.RecordLaws.{sets_same, index_same, ready_by, ready_ends}
use Rattle.std.specs.Prelude.{Ok, Err}

-- the answer of a search, once the record was accepted and its edges stand in the workspace
pub search_found : {s : List ℕ} {n m : ℕ} {w : List ℕ} (P : Pattern) (room : ℕ) → length s ≤ 44036 → Holds s n m w
    → search_for P s room ≡ fit_file room (sheet_bytes (match_sets P (graph_in s n m w)))
search_found {s} P room l h =
    judged_accepted (λ rs. fit_file room (sheet_bytes (match_sets P (graph_of rs)))) (accepted_by (read_finds 44036 3 record' s l) h.is)
    ∙ ap (λ (ls : List (List ℕ)). fit_file room (sheet_bytes ls)) (sym (sets_same h P))

-- and once it was refused, with an index or without
pub search_unread : (s : List ℕ) (P : Pattern) (index : Option (Bor (List ℕ))) (out : List ℕ) (x : Refusal) → read_record s ≡ rejected (number_of x) (detail_of x)
    → FulfilsOne (search_by P s index (length out)) (reply_told (Err x)) out out
search_unread s P None out x e = body_refused (λ rs. fit_file (length out) (sheet_bytes (match_sets P (graph_of rs)))) out refl x e
search_unread s P (Some index) out x e = body_refused (λ rs. own_index (index_of (graph_of rs)) index.now (fit_file (length out) (sheet_bytes (match_sets P (graph_of rs))))) out refl x e

-- the same of the book that is made
pub book_found : {s : List ℕ} {n m : ℕ} {w : List ℕ} (o : Offered) (room : ℕ) → length s ≤ 44036 → Holds s n m w → book_for o s room ≡ fit_file room (book_in o s n m w)
unfolding view_sheets
book_found {s} {n} {m} {w} o room l h =
    judged_accepted (λ rs. fit_file room (book_bytes (view_sheets o (graph_of rs)))) (accepted_by (read_finds 44036 3 record' s l) h.is)
    ∙ ap (λ (x : List (List (List ℕ))). fit_file room (book_bytes x))
    (each_same (λ P. view_sheet P (graph_of h.fields)) (λ P. view_sheet P (graph_in s n m w)) (view_patterns o) (λ P i. view_same P (graph_of h.fields) (graph_in s n m w) (sym (sets_same h P))))

pub book_fulfilled : {s : List ℕ} {n m : ℕ} {w : List ℕ} (o : Offered) {r : Told} {out out' : List ℕ} → length s ≤ 44036 → Holds s n m w
    → FulfilsOne (fit_file (length out) (book_in o s n m w)) r out out' → FulfilsOne (book_for o s (length out)) r out out'
book_fulfilled o {r} {out} {out'} l h f = subst (λ (a : Outcome). FulfilsOne a r out out') (sym (book_found o (length out) l h)) f

-- ---- the same of the calls with an index
module _ {s : List ℕ} {n m : ℕ} {w : List ℕ} (l : length s ≤ 44036) (h : Holds s n m w) where
  pub made_found : (room : ℕ) → make_index_outcome s room ≡ fit room (index_for n (edges_at m w))
  unfolding make_index_outcome
  made_found room =
      judged_accepted (λ rs. fit room (index_of (graph_of rs))) (accepted_by (read_finds 44036 3 record' s l) h.is) ∙ ap (fit room) (sym (index_same h))

  -- 16 is by the edges in the workspace
  own_found : (index : List ℕ) (f : List ℕ → Outcome) → judged (read_record s) (λ rs. own_index (index_of (graph_of rs)) index (f rs)) ≡ own_index (index_for n (edges_at m w)) index (f h.fields)
  own_found index f =
      judged_accepted (λ rs. own_index (index_of (graph_of rs)) index (f rs)) (accepted_by (read_finds 44036 3 record' s l) h.is)
      ∙ ap (λ (own : List ℕ). own_index own index (f h.fields)) (sym (index_same h))

  module _ {index : List ℕ} (e : index ≡ index_for n (edges_at m w)) where
    pub checked_found : check_index_outcome s index ≡ give (length index ∷ []) []
    unfolding check_index_outcome
    checked_found = own_found index (λ rs. give (length index ∷ []) []) ∙ own_accepted (index_for n (edges_at m w)) index (give (length index ∷ []) []) e

    pub indexed_found : (P : Pattern) (room : ℕ) → search_indexed_for P s index room ≡ fit_file room (sheet_bytes (match_sets P (graph_in s n m w)))
    indexed_found P room =
        own_found index (λ rs. fit_file room (sheet_bytes (match_sets P (graph_of rs))))
        ∙ own_accepted (index_for n (edges_at m w)) index (fit_file room (sheet_bytes (match_sets P (graph_of h.fields)))) e
        ∙ ap (λ (ls : List (List ℕ)). fit_file room (sheet_bytes ls)) (sym (sets_same h P))

  module _ (index : List ℕ) {k x : ℕ} (e : (a : Outcome) → own_index (index_for n (edges_at m w)) index a ≡ refuse k x) where
    pub checked_wrong : check_index_outcome s index ≡ refuse k x
    unfolding check_index_outcome
    checked_wrong = own_found index (λ rs. give (length index ∷ []) []) ∙ e (give (length index ∷ []) [])

    pub indexed_wrong : (P : Pattern) (room : ℕ) → search_indexed_for P s index room ≡ refuse k x
    indexed_wrong P room = own_found index (λ rs. fit_file room (sheet_bytes (match_sets P (graph_of rs)))) ∙ e (fit_file room (sheet_bytes (match_sets P (graph_of h.fields))))

  -- the index is made, if there is room
  pub made_tight : (out : List ℕ) → length out < n + 1 → FulfilsOne (make_index_outcome s (length out)) (reply_told (Err (NoRoom (n + 1)))) out out
  made_tight out q = fitted_tight fit_fits out (index_for n (edges_at m w)) refl (made_found (length out)) (sym (index_long n (edges_at m w))) (lt-ltb (length out) (n + 1) q)

  pub made_given : (out : List ℕ) {out' : List ℕ} → n + 1 ≤ length out → FirstsMade m n w out out' → FulfilsOne (make_index_outcome s (length out)) (reply_told (Ok (n + 1))) out out'
  made_given out q F =
      fitted_given fit_fits out (index_for n (edges_at m w)) refl (made_found (length out)) (sym (index_long n (edges_at m w))) (le-ltb (length out) (n + 1) q)
      (firsts_front (ready_ends (ready_by h (omega arith))) F (omega arith))

  -- a lent one is judged
  pub checked_by : (index : List ℕ) (r : Reply) → IndexJudged m n w index r → Fulfils [] (check_index_outcome s index) (reply_told r) [] []
  unfolding told_of outputs_of fronts
  checked_by index (Ok k) j =
      let e = sym (checked_found j.3) in
      record { result = ap (λ (x : ℕ). told 0 (x ∷ [])) j.0 ∙ ap (told_of []) e; outputs = ap (λ (a : Outcome). outputs_of a []) e }
  checked_by index (Err x) j = refusal_answered [] (checked_wrong index j) refl

  pub indexed_refused : (P : Pattern) (index out : List ℕ) (x : Refusal) → IndexJudged m n w index (Err x)
      → FulfilsOne (search_indexed_for P s index (length out)) (reply_told (Err x)) out out
  indexed_refused P index out x j = refusal_answered (out ∷ []) (indexed_wrong index j P (length out)) refl

-- ---- a pattern that was accepted, by value
module _ (s : List ℕ) {p : Given} {n : ℕ} {w : List ℕ} (q : Held (λ ws. HoldsPattern ws p) (read_pattern s) n w) where
  reads : decode pattern s ≡ ok q.fields
  reads = (read_says 56 1 pattern s q.fields q.is).0

  plain : PlainPattern q.fields ((pattern_accepted s q.fields).0 reads).body
  plain = ((pattern_accepted s q.fields).0 reads).laid

  pub given_fair : Fair p × Proper p
  given_fair = (fair_by plain q.holds, proper_by plain q.holds)

  pub given_same : pattern_in p ≡ pattern_of q.fields
  given_same = pattern_same plain q.holds
