-- The rules of the calls: where 14 and 12 are given and where the output, and what falls to covered and to uncovered queries.
use Prim.Native.Nat.{ℕ, ◌<◌, ◌≤◌}
use mathlib.Core.Path.{◌≡◌, refl, sym, ap, subst, ◌∙◌}
use mathlib.Core.Bool.{Bool, true, false, ◌||◌}
use mathlib.Core.Logic.{◌⊎◌, inl, inr, ◌↔◌, ⊎_elim}
use mathlib.Core.List.{List, [], ◌∷◌}
use lib.ListN.{length, get_or, get_or-eq_default}
use lib.Dec.{T, ltb}
use borrow.Author.Tests.{lt-ltb, le-ltb}
use native.Mathlib.Omega.{arith}
use Rattle.packed.specs.Format.{Format, Result, ok, bad, pick, decode, encode}
use Rattle.packed.specs.Contents.{edges_of, views_of, edge_counts, sheets_in}
use Rattle.packed.specs.Plain.{Below, PatternFile, CatalogueFile, RecordFile, SheetFile, BookFile}
use Rattle.packed.specs.Formats.{pattern, catalogue, record', sheet, book}
use Rattle.packed.specs.Calls.{Outcome, give, refuse, with_workspace, Verdict, accepted, rejected, in_file, write_file, judged, read_pattern, read_catalogue, read_record, read_book, pairs_of, within_pairs_by, fit, fit_file, pattern_read, catalogue_read, record_read, sheet_read, book_read, pattern_written, catalogue_written, record_written, sheet_written, book_written, record_bytes, fit_both}
use Rattle.packed.proofs.OrderCases.{lt_or_ge}
use Rattle.packed.proofs.CallLaws.{many_pairs, within_pairs_is}
use Rattle.packed.proofs.CallRoundTrips.{fit_given, fit_file_given}
use Rattle.packed.proofs.RoundTrip.{Bytes}
use Rattle.packed.proofs.Accepted.{pattern_accepted, catalogue_accepted, record_accepted, sheet_accepted, book_accepted, written_accepted}
use Rattle.engine.specs.Lists.{In}
use Rattle.engine.specs.Simulation.{Edge, Pattern, bit, pattern_of, as_graph, view_sheet}
use Rattle.matching.specs.Join.{matched_by, matched}
use Rattle.matching.specs.Search.{sheet_bytes}
use Rattle.engine.proofs.ListLaws.{not_in_none}
use Rattle.matching.proofs.MatchSetLaws.{view_length}
use Rattle.matching.proofs.JoinLaws.{some_match_say, some_match_by}
use Rattle.matching.specs.Offered.{Brought, Offered, offers, view_patterns, judge_set, with_set, offered}
use Rattle.matching.proofs.OfferedLaws.{judged_right, set_judges}
use Rattle.containment.specs.Choice.{every_view}
use Rattle.containment.specs.Quote.{mapping, quoted_in, quoted_by, used_by}
use Rattle.containment.specs.Answer.{answer_bytes, Choose, answer_in, answer_for, answer_by}
use Rattle.containment.specs.Show.{show_for}
use Rattle.answering.specs.Demands.{Question, CataloguePaper, Catalogue, Record, Sheet, FewPairs, ManyPairs, Book, extract_of, link_of, Covers, Leaves, Covered, Uncovered, lacking_in, chosen_of, answer_of, first_of, Full, Over, OverFile, OverEither, FittedBeside, Fitted, Reads, Writes, Matched, MatchedIn, LowestUnmatched, chosen_in, second_in}
use Rattle.containment.proofs.SetBits.{test_cases, never, bit_lt}
use Rattle.containment.proofs.ChoiceLaws.{MatchedBy, matched_say as matched-in-table, matched_by_lem as matched-by-table, covers_exactly, chosen_covers, used_covered, used_uncovered, lowest_is, lowest_below, chosen_small, chosen_within}
use Rattle.answering.proofs.QuoteLaws.{test_is, matched_exactly, ListedEdge, matched_say, matched_by_lem, listed_whole}
use Rattle.answering.proofs.CoveredBytes.{offered_goes_on, question_bounds, few_views, covered_in, covered_by, answer_covered, answer_uncovered}

-- ---- answers are told apart

pub number_same : {m n d e : ℕ} → refuse m d ≡ refuse n e → m ≡ n
number_same h = cc

pub detail_same : {m n d e : ℕ} → refuse m d ≡ refuse n e → d ≡ e
detail_same h = cc

pub not_refused : {vs : List ℕ} {os : List (List ℕ)} {n d : ℕ} → give vs os ≡ refuse n d → ⊥
not_refused h = let z : ◌≡◌ {A = ℕ} 0 1 = cc in omega arith

-- ---- an accepted file's content goes on

pub goes_on : {v : Verdict} {ws : List ℕ} (k : List ℕ → Outcome) → v ≡ accepted ws → judged v k ≡ k ws
unfolding judged
goes_on k e = rw e

-- beyond its end a list counts as zeros
pub bytes_by : (s : List ℕ) → Below 256 s → Bytes s
bytes_by s h i = ⊎_elim (h i) (λ (l : length s ≤ i). let z = get_or-eq_default s 0 {n = i} l in omega arith) (lt_or_ge i (length s))

-- the file with a content is what is written of it
pub written : (file : ℕ) (F : Format) (s ws : List ℕ) → Below 256 s → decode F s ≡ ok ws → write_file file F ws ≡ accepted s
unfolding write_file
written file F s ws y e = ap (in_file file) ((written_accepted F ws s).1 (bytes_by s y, e))

-- ---- the workspace

pub few_words : (words : ℕ) (a : Outcome) → words < 16384 → with_workspace words a ≡ refuse 14 0
unfolding with_workspace
few_words words a h = rw (lt-ltb words 16384 h)

pub enough_words : (words : ℕ) (a : Outcome) → 16384 ≤ words → with_workspace words a ≡ a
unfolding with_workspace
enough_words words a h = rw (le-ltb words 16384 h)

-- what is not 14 is answered with enough words
pub enough_for : (words : ℕ) (a : Outcome) {b : Outcome} → (refuse 14 0 ≡ b → ⊥) → with_workspace words a ≡ b → (16384 ≤ words) × (a ≡ b)
enough_for words a n e =
    ⊎_elim
    (λ (h : words < 16384). absurd (n (sym (few_words words a h) ∙ e)))
    (λ (h : 16384 ≤ words). (h, sym (enough_words words a h) ∙ e))
    (lt_or_ge words 16384)

-- ---- a full result comes of accepted files

no_full : {n d : ℕ} → Full (refuse n d) → ⊥
no_full f = not_refused (sym f.is)

pub full_same : {a b : Outcome} → a ≡ b → Full a → Full b
full_same e f = rw e at f

pub full_words : (words : ℕ) (a : Outcome) → Full (with_workspace words a) → Full a
full_words words a f = record { values = f.values; outputs = f.outputs; is = (enough_for words a (λ z. not_refused (sym z)) f.is).1 }

pub full_judged : (v : Verdict) (k : List ℕ → Outcome) → Full (judged v k) → (ws : List ℕ) × (v ≡ accepted ws) × Full (k ws)
unfolding judged
full_judged (accepted ws) k f = (ws, refl, f)
full_judged (rejected n d) k f = absurd (no_full f)

-- a file is judged in the same way where the call goes on in the same way
pub judged_same : (v : Verdict) {k k' : List ℕ → Outcome} → ((ws : List ℕ) → v ≡ accepted ws → k ws ≡ k' ws) → judged v k ≡ judged v k'
unfolding judged
judged_same (accepted ws) f = f ws refl
judged_same (rejected n d) f = refl

pub refused_judged : (v : Verdict) (k : List ℕ → Outcome) {n d : ℕ} → judged v k ≡ refuse n d → (v ≡ rejected n d) ⊎ ((ws : List ℕ) × (v ≡ accepted ws) × (k ws ≡ refuse n d))
unfolding judged
refused_judged (accepted ws) k e = inr (ws, refl, e)
refused_judged (rejected m c) k e = inl (cc)

pub full_twice : (v : Verdict) (w : List ℕ → Verdict) (k : List ℕ → List ℕ → Outcome) → Full (judged v (λ x. judged (w x) (k x)))
    → (x : List ℕ) × (y : List ℕ) × (v ≡ accepted x) × (w x ≡ accepted y) × Full (k x y)
full_twice v w k f = let r = full_judged v (λ x. judged (w x) (k x)) f in let t = full_judged (w r.0) (k r.0) r.2 in (r.0, t.0, r.1, t.1, t.2)

-- and of a set that names views alone
pub full_set : (c : Brought) (ws : List ℕ) → CataloguePaper c.file ws → (k : Offered → Outcome) → Full (with_set c.one_way ws k)
    → Catalogue c (offers ws c.one_way) × Full (k (offers ws c.one_way))
full_set c ws e k f =
    let t = full_judged (judge_set c.one_way (length (views_of ws))) _ f in
    (record { paper = e; set = refl; named = judged_right (set_judges c.one_way (length (views_of ws))) t.1 }, t.2)

pub full_offered : (c : Brought) (k : Offered → Outcome) → Full (offered c k) → (cs : Offered) × Catalogue c cs × Full (k cs)
full_offered c k f =
    let t = full_judged (read_catalogue c.file) _ f in
    let u = full_set c t.0 t.1 k t.2 in
    (offers t.0 c.one_way, u.0, u.1)

pub full_within_pairs : (ms ws : List ℕ) (a : Outcome) → Full (within_pairs_by ms ws a) → length (pairs_of ms ws) ≤ 8192
unfolding within_pairs_by
full_within_pairs ms ws a f =
    ⊎_elim
    (λ (h : 8192 < length (pairs_of ms ws)). absurd (no_full (rw (lt-ltb 8192 (length (pairs_of ms ws)) h) at f)))
    (λ (h : length (pairs_of ms ws) ≤ 8192). h)
    (lt_or_ge 8192 (length (pairs_of ms ws)))

result_ok : (file : ℕ) (r : Result ℕ) (s : List ℕ) → in_file file r ≡ accepted s → r ≡ ok s
result_ok file (ok t) s e = let q : t ≡ s = cc in ap ok q
result_ok file (bad n) s e = absurd (let z : ◌≡◌ {A = ℕ} 0 1 = cc in omega arith)

-- what is written has the content
pub wrote : (file : ℕ) (F : Format) (s ws : List ℕ) → write_file file F ws ≡ accepted s → Below 256 s × (decode F s ≡ ok ws)
unfolding write_file
wrote file F s ws e = let r = (written_accepted F ws s).0 (result_ok file (encode F ws) s e) in (λ i h. r.0 i, r.1)

-- ---- 12, or the outputs

module _ (words : ℕ) (a : Outcome) {NoFit : ℕ → Type 0} {values : List ℕ} {outputs : List (List ℕ)} where
  fitted_few : words < 16384 → FittedBeside values words NoFit outputs (with_workspace words a)
  fitted_few h =
      let w = few_words words a h in
      record {
        small_workspace = λ d. (λ e. (h, sym (detail_same (sym w ∙ e))), λ e. w ∙ ap (refuse 14) (sym e.1));
        no_fit = λ d. (λ e. absurd (let z = number_same (sym w ∙ e) in omega arith), λ e. absurd (let l = e.0 in omega arith));
        gives = (λ e. absurd (not_refused (sym e ∙ w)), λ e. absurd (let l = e.0 in omega arith));
        no_other = inl w;
      }

  fitted_tight : 16384 ≤ words → (n : ℕ) → a ≡ refuse 12 n → NoFit n → ((d : ℕ) → NoFit d → d ≡ n) → FittedBeside values words NoFit outputs (with_workspace words a)
  fitted_tight h n q t only =
      let w = enough_words words a h ∙ q in
      record {
        small_workspace = λ d. (λ e. absurd (let z = number_same (sym w ∙ e) in omega arith), λ e. absurd (let l = e.0 in omega arith));
        no_fit = λ d. (λ e. (h, rw (detail_same (sym w ∙ e)) at t), λ e. w ∙ ap (refuse 12) (sym (only d e.1)));
        gives = (λ e. absurd (not_refused (sym e ∙ w)), λ e. absurd (e.1 n t));
        no_other = inr (inl (n, w));
      }

  fitted_given : 16384 ≤ words → a ≡ give values outputs → ((d : ℕ) → NoFit d → ⊥) → FittedBeside values words NoFit outputs (with_workspace words a)
  fitted_given h q fits =
      let w = enough_words words a h ∙ q in
      record {
        small_workspace = λ d. (λ e. absurd (not_refused (sym w ∙ e)), λ e. absurd (let l = e.0 in omega arith));
        no_fit = λ d. (λ e. absurd (not_refused (sym w ∙ e)), λ e. absurd (fits d e.1));
        gives = (λ e. (h, fits), λ e. w);
        no_other = inr (inr w);
      }

  -- an answer that is 12 with what is needed or the outputs, by a test
  pub fitted_by : (n : ℕ) → ((a ≡ refuse 12 n) × NoFit n) ⊎ ((a ≡ give values outputs) × (NoFit n → ⊥)) → ((d : ℕ) → NoFit d → d ≡ n)
      → FittedBeside values words NoFit outputs (with_workspace words a)
  fitted_by n c only =
      ⊎_elim fitted_few
      (λ (h : 16384 ≤ words). ⊎_elim
      (λ t. fitted_tight h n t.0 t.1 only)
      (λ t. fitted_given h t.0 (λ d x. t.1 (rw (only d x) at x)))
      c)
      (lt_or_ge words 16384)

fit_tight : (room : ℕ) (o : List ℕ) → room < length o → fit room o ≡ refuse 12 (length o)
unfolding fit
fit_tight room o h = rw (lt-ltb room (length o) h)

-- an output of bytes or words
pub fitted : (a : Outcome) (words room : ℕ) (o : List ℕ) → a ≡ fit room o → Fitted words (Over room o) (o ∷ []) (with_workspace words a)
fitted a words room o e =
    fitted_by words a (length o)
    (⊎_elim
    (λ (h : room < length o). inl (e ∙ fit_tight room o h, (h, refl)))
    (λ (h : length o ≤ room). inr (e ∙ fit_given room o h, λ x. let l = x.0 in omega arith))
    (lt_or_ge room (length o)))
    (λ d x. x.1)

or_true : (b : Bool) → (b || true) ≡ true
or_true true = refl
or_true false = refl

pub file_tight : (room : ℕ) (o : List ℕ) → (room < length o) ⊎ (65536 < length o) → fit_file room o ≡ refuse 12 (length o)
unfolding fit_file
file_tight room o (inl h) = rw (lt-ltb room (length o) h)
file_tight room o (inr h) = rw (lt-ltb 65536 (length o) h, or_true (ltb room (length o)))

-- a sheet, a book or an answer
pub fitted_file : (a : Outcome) (words room : ℕ) (o : List ℕ) → a ≡ fit_file room o → Fitted words (OverFile room o) (o ∷ []) (with_workspace words a)
fitted_file a words room o e =
    fitted_by words a (length o)
    (⊎_elim
    (λ (h : room < length o). inl (e ∙ file_tight room o (inl h), (inl h, refl)))
    (λ (h : length o ≤ room). ⊎_elim
    (λ (l : 65536 < length o). inl (e ∙ file_tight room o (inr l), (inr l, refl)))
    (λ (l : length o ≤ 65536). inr (e ∙ fit_file_given room o h l, λ x. ⊎_elim (λ (k : room < length o). omega arith) (λ (k : 65536 < length o). omega arith) x.0))
    (lt_or_ge 65536 (length o)))
    (lt_or_ge room (length o)))
    (λ d x. x.1)

first_tight : (room room' : ℕ) (o o' : List ℕ) → room < length o → fit_both room room' o o' ≡ refuse 12 (length o)
unfolding fit_both
first_tight room room' o o' h = rw (lt-ltb room (length o) h)

second_tight : (room room' : ℕ) (o o' : List ℕ) → length o ≤ room → room' < length o' → fit_both room room' o o' ≡ refuse 12 (length o')
unfolding fit_both
second_tight room room' o o' h l = rw (le-ltb room (length o) h, lt-ltb room' (length o') l)

both_given : (room room' : ℕ) (o o' : List ℕ) → length o ≤ room → length o' ≤ room' → fit_both room room' o o' ≡ give [] (o ∷ o' ∷ [])
unfolding fit_both
both_given room room' o o' h l = rw (le-ltb room (length o) h, le-ltb room' (length o') l)

-- two outputs: the first that doesn't fit counts
pub fitted_both : (a : Outcome) (words room room' : ℕ) (o o' : List ℕ) → a ≡ fit_both room room' o o'
    → Fitted words (OverEither room room' o o') (o ∷ o' ∷ []) (with_workspace words a)
fitted_both a words room room' o o' e =
    ⊎_elim
    (λ (h : room < length o). fitted_by words a (length o) (inl (e ∙ first_tight room room' o o' h, inl (h, refl)))
    (λ d. ⊎_elim (λ x. x.1) (λ x. absurd (let l = x.0 in omega arith))))
    (λ (h : length o ≤ room). fitted_by words a (length o')
    (⊎_elim
    (λ (l : room' < length o'). inl (e ∙ second_tight room room' o o' h l, inr (h, (l, refl))))
    (λ (l : length o' ≤ room'). inr (e ∙ both_given room room' o o' h l, ⊎_elim (λ x. let k = x.0 in omega arith) (λ x. let k = x.1.0 in omega arith)))
    (lt_or_ge room' (length o')))
    (λ d. ⊎_elim (λ x. absurd (let l = x.0 in omega arith)) (λ x. x.1.1)))
    (lt_or_ge room (length o))

-- ---- readers and writers

lone_reads : {read : List ℕ → ℕ → Outcome} (v : List ℕ → Verdict) → ((s : List ℕ) (room : ℕ) → read s room ≡ judged (v s) (fit room))
    → Reads read (λ s ws. v s ≡ accepted ws)
lone_reads {read} v is = record {
  gives = λ s ws e room words. fitted (read s room) words room ws (is s room ∙ goes_on _ e);
  only = λ s room words f. let r = full_judged _ _ (full_same (is s room) (full_words words (read s room) f)) in (r.0, r.1);
}

pub pattern_reads : Reads pattern_read Question
unfolding pattern_read
pattern_reads = lone_reads read_pattern (λ s room. refl)

pub catalogue_reads : Reads catalogue_read CataloguePaper
unfolding catalogue_read
catalogue_reads = lone_reads read_catalogue (λ s room. refl)

pub record_reads : Reads record_read Record
unfolding record_read
record_reads = lone_reads read_record (λ s room. refl)

pub sheet_reads : (p : List ℕ) → Reads (sheet_read p) (λ s ws. (ps : List ℕ) × Question p ps × Sheet ps s ws)
unfolding sheet_read
sheet_reads p = record {
  gives = λ s ws e room words. fitted _ words room ws (goes_on _ e.1 ∙ goes_on _ e.2);
  only = λ s room words f. let r = full_twice _ _ _ (full_words words _ f) in (r.1, (r.0, r.2, r.3));
}

pub book_reads : (c : List ℕ) → Reads (book_read c) (λ s ws. (cs : List ℕ) × CataloguePaper c cs × Book cs s ws)
unfolding book_read
book_reads c = record {
  gives = λ s ws e room words.
      fitted _ words room ws (goes_on _ e.1 ∙ goes_on _ e.2.read ∙ within_pairs_is (edge_counts e.0) ws _ e.2.few);
  only = λ s room words f.
      let r = full_twice _ _ _ (full_words words _ f) in
      (r.1, (r.0, r.2, record { read = r.3; few = full_within_pairs _ _ _ r.4 }));
}

lone_writes : {write : List ℕ → ℕ → Outcome} {Has : List ℕ → List ℕ → Type 0} (file : ℕ) (F : Format) → ((s ws : List ℕ) → (decode F s ≡ ok ws) ↔ Has s ws)
    → ((ws : List ℕ) (room : ℕ) → write ws room ≡ judged (write_file file F ws) (fit room)) → Writes write Over Has
lone_writes {write} file F has is = record {
  gives = λ s ws y h room words. fitted (write ws room) words room s (is ws room ∙ goes_on _ (written file F s ws y ((has s ws).1 h)));
  only = λ ws room words f.
      let r = full_judged _ _ (full_same (is ws room) (full_words words (write ws room) f)) in
      let w = wrote file F r.0 ws r.1 in
      (r.0, w.0, (has r.0 ws).0 w.1);
}

pub pattern_writes : Writes pattern_written Over PatternFile
unfolding pattern_written
pattern_writes = lone_writes 1 pattern pattern_accepted (λ ws room. refl)

pub catalogue_writes : Writes catalogue_written Over CatalogueFile
unfolding catalogue_written
catalogue_writes = lone_writes 2 catalogue catalogue_accepted (λ ws room. refl)

pub record_writes : Writes record_written Over RecordFile
unfolding record_written
record_writes = lone_writes 3 record' record_accepted (λ ws room. refl)

pub sheet_writes : (p : List ℕ) → Writes (sheet_written p) OverFile (λ s ws. (ps : List ℕ) × Question p ps × SheetFile (edges_of ps) s ws)
unfolding sheet_written
sheet_writes p = record {
  gives = λ s ws y e room words.
      fitted_file _ words room s (goes_on _ e.1 ∙ goes_on _ (written 4 (sheet (edges_of e.0)) s ws y ((sheet_accepted (edges_of e.0) s ws).1 e.2)));
  only = λ ws room words f.
      let r = full_twice _ _ _ (full_words words _ f) in
      let w = wrote 4 (sheet (edges_of r.0)) r.1 ws r.3 in
      (r.1, w.0, (r.0, r.2, (sheet_accepted (edges_of r.0) r.1 ws).0 w.1));
}

pub book_writes : (c : List ℕ) → Writes (book_written c) OverFile (λ s ws. (cs : List ℕ) × CataloguePaper c cs × BookFile (edge_counts cs) s ws × FewPairs cs ws)
unfolding book_written
book_writes c = record {
  gives = λ s ws y e room words.
      fitted_file _ words room s
      (goes_on _ e.1 ∙ goes_on _ (written 4 (book (edge_counts e.0)) s ws y ((book_accepted (edge_counts e.0) s ws).1 e.2)) ∙ within_pairs_is (edge_counts e.0) ws _ e.3);
  only = λ ws room words f.
      let r = full_twice _ _ _ (full_words words _ f) in
      let w = wrote 4 (book (edge_counts r.0)) r.1 ws r.3 in
      (r.1, w.0, (r.0, r.2, (book_accepted (edge_counts r.0) r.1 ws).0 w.1, full_within_pairs _ _ _ r.4));
}

-- ---- 10

-- 10 falls exactly to a crowded book, where what is answered else is not 10
pub many_pairs_exactly : (words : ℕ) (a : Outcome) (ms ws : List ℕ) (b : Outcome) → a ≡ within_pairs_by ms ws b
    → (length (pairs_of ms ws) ≤ 8192 → (d : ℕ) → b ≡ refuse 10 d → ⊥) → (d : ℕ)
    → (with_workspace words a ≡ refuse 10 d) ↔ ((16384 ≤ words) × (8192 < length (pairs_of ms ws)) × (d ≡ 4))
many_pairs_exactly words a ms ws b e n d = (
  λ x.
      let w = enough_for words a (λ z. let y = number_same z in omega arith) x in
      ⊎_elim
      (λ (h : 8192 < length (pairs_of ms ws)). (w.0, h, sym (detail_same (sym (e ∙ many_pairs ms ws b h) ∙ w.1))))
      (λ (h : length (pairs_of ms ws) ≤ 8192). absurd (n h d (sym (e ∙ within_pairs_is ms ws b h) ∙ w.1)))
      (lt_or_ge 8192 (length (pairs_of ms ws))),
  λ x. enough_words words a x.0 ∙ e ∙ many_pairs ms ws b x.1 ∙ ap (refuse 10) (sym x.2),
)

fit_number : (room : ℕ) (o : List ℕ) (n d : ℕ) → fit room o ≡ refuse n d → n ≡ 12
fit_number room o n d e =
    ⊎_elim (λ h. number_same (sym e ∙ fit_tight room o h)) (λ h. absurd (not_refused (sym (fit_given room o h) ∙ e))) (lt_or_ge room (length o))

pub file_number : (room : ℕ) (o : List ℕ) (n d : ℕ) → fit_file room o ≡ refuse n d → n ≡ 12
file_number room o n d e =
    ⊎_elim (λ h. number_same (sym e ∙ file_tight room o (inl h)))
    (λ h. ⊎_elim
    (λ l. number_same (sym e ∙ file_tight room o (inr l)))
    (λ l. absurd (not_refused (sym (fit_file_given room o h l) ∙ e)))
    (lt_or_ge 65536 (length o)))
    (lt_or_ge room (length o))

pub many_pairs_read : (c cs s ws : List ℕ) → CataloguePaper c cs → read_book cs s ≡ accepted ws → (room words d : ℕ)
    → (with_workspace words (book_read c s room) ≡ refuse 10 d) ↔ ((16384 ≤ words) × ManyPairs cs ws × (d ≡ 4))
unfolding book_read
many_pairs_read c cs s ws e f room words d =
    many_pairs_exactly words _ (edge_counts cs) ws (fit room ws) (goes_on _ e ∙ goes_on _ f) (λ _ k x. let z = fit_number room ws 10 k x in omega arith) d

pub many_pairs_written : (c cs s ws : List ℕ) → CataloguePaper c cs → Below 256 s → BookFile (edge_counts cs) s ws → (room words d : ℕ)
    → (with_workspace words (book_written c ws room) ≡ refuse 10 d) ↔ ((16384 ≤ words) × ManyPairs cs ws × (d ≡ 4))
unfolding book_written
many_pairs_written c cs s ws e y f room words d =
    many_pairs_exactly words _ (edge_counts cs) ws (fit_file room s)
    (goes_on _ e ∙ goes_on _ (written 4 (book (edge_counts cs)) s ws y ((book_accepted (edge_counts cs) s ws).1 f)))
    (λ _ k x. let z = file_number room s 10 k x in omega arith) d

-- what is answered from a book that isn't crowded
abbrev few_pairs_answer : ℕ → List ℕ → Offered → List ℕ → ℕ → Outcome
few_pairs_answer set qs cs bs room = pick (covered_in set qs cs) (fit_file room (answer_bytes qs set (view_patterns cs) (sheets_in (edge_counts cs.content) bs))) (refuse 11 (lacking_in set qs cs))

answer_number : (b : Bool) (room : ℕ) (o : List ℕ) (k d : ℕ) → pick b (fit_file room o) (refuse 11 k) ≡ refuse 10 d → ⊥
answer_number true room o k d e = let z = file_number room o 10 d e in omega arith
answer_number false room o k d e = let z = number_same e in omega arith

pub many_pairs_answer : (choose : Choose) (q : List ℕ) (c : Brought) (b qs : List ℕ) (cs : Offered) (bs : List ℕ) → Question q qs → Catalogue c cs → read_book cs.content b ≡ accepted bs → (room words d : ℕ)
    → (with_workspace words (answer_by choose q c b room) ≡ refuse 10 d) ↔ ((16384 ≤ words) × ManyPairs cs.content bs × (d ≡ 4))
unfolding answer_by answer_for answer_in
many_pairs_answer choose q c b qs cs bs e f g room words d =
    many_pairs_exactly words _ (edge_counts cs.content) bs (few_pairs_answer (choose (quoted_by qs cs)) qs cs bs room) (goes_on _ e ∙ offered_goes_on c cs f (λ o. answer_for choose b room (quoted_by qs o)) ∙ goes_on _ g)
    (λ _ k x. answer_number (covered_in (choose (quoted_by qs cs)) qs cs) room _ (lacking_in (choose (quoted_by qs cs)) qs cs) k x) d

-- no other number
no_other : {words n e : ℕ} {NoFit : ℕ → Type 0} {outputs : List (List ℕ)} {a : Outcome} → Fitted words NoFit outputs a → a ≡ refuse n e → (n ≡ 14) ⊎ (n ≡ 12)
no_other f x =
    ⊎_elim (λ y. inl (number_same (sym x ∙ y)))
    (⊎_elim (λ y. inr (number_same (sym x ∙ y.1))) (λ y. absurd (not_refused (sym y ∙ x))))
    f.no_other

-- ---- covered and uncovered queries

-- an edge of the query that is matched is so by a view that fits the query as a whole
module _ (Q : Pattern) (Ps : List Pattern) (e : Edge) where
  pub listed_matched : ListedEdge Q Ps e → Matched Q Ps e
  listed_matched o = record { extract = o.view; given = o.given; link = o.at; below = o.below; kind = o.kind; lists = o.lists; whole = listed_whole Q Ps e o }

  pub matched_listed : Matched Q Ps e → ListedEdge Q Ps e
  matched_listed o = record { view = o.extract; given = o.given; at = o.link; below = o.below; kind = o.kind; lists = o.lists }

  pub matched_whole : T (matched Q Ps e) ↔ Matched Q Ps e
  matched_whole = (λ t. listed_matched (matched_say Q Ps e t), λ m. matched_by_lem Q Ps e (matched_listed m))

-- a list that has a member stands at a place
pub place_below : (ls : List (List ℕ)) (i : ℕ) {c : ℕ} → In c (get_or ls i []) → i < length ls
place_below ls i {c} m =
    ⊎_elim (λ (h : i < length ls). h)
    (λ (h : length ls ≤ i). absurd (not_in_none (subst (λ l. In c l) (get_or-eq_default ls [] {n = i} h) m)))
    (lt_or_ge i (length ls))

-- it is that of an edge of the view
pub link_below : (Q P : Pattern) (f : ℕ) {c : ℕ} → In c (get_or (view_sheet P (as_graph Q)) f []) → f < length P.edges
link_below Q P f i = omega (arith, place_below (view_sheet P (as_graph Q)) f i, view_length P (as_graph Q))

-- the extracts that answer a query: the chosen ones, or all
module _ (qs : List ℕ) (cs : Offered) where
  abbrev table : List ℕ
  table = mapping (pattern_of qs) (view_patterns cs)

  pub used_chosen : Covered qs cs → used_by (quoted_by qs cs) ≡ chosen_of qs cs
  used_chosen h = used_covered table every_view (edges_of qs) (length (view_patterns cs)) h

  pub used_all : Uncovered qs cs → used_by (quoted_by qs cs) ≡ every_view
  used_all n = used_uncovered table every_view (edges_of qs) (length (view_patterns cs)) n

  pub used_covers : Covered qs cs → Covers (used_by (quoted_by qs cs)) qs cs
  used_covers h = rw (used_chosen h) (chosen_covers table every_view (edges_of qs) (length (view_patterns cs)) h)

  -- all are used where those used leave an edge unmatched
  pub used_leaves : Leaves (used_by (quoted_by qs cs)) qs cs → Uncovered qs cs
  used_leaves n = ⊎_elim (λ h. never (sym (used_covers h) ∙ n)) (λ n'. n') (test_cases (covered_by qs cs))

-- the chosen set has none but extracts that may be used
pub choice_among : (set : ℕ) (qs : List ℕ) (cs : Offered) (a : ℕ) → bit (chosen_in set qs cs) a ≡ true → (a < length (view_patterns cs)) × T (bit set a)
choice_among set qs cs a h =
    let t = mapping (pattern_of qs) (view_patterns cs) in
    let k = length (view_patterns cs) in
    (bit_lt (chosen_in set qs cs) a k h (chosen_small t set (edges_of qs) k), (test_is _).0 (chosen_within t set (edges_of qs) k a h))

-- a showing, by the views in a set
module _ (set : ℕ) (qs : List ℕ) (cs : Offered) (room room' : ℕ) where
  pub shows_both : Leaves set qs cs → show_for room room' (quoted_in set qs cs) ≡ fit_both room room' (record_bytes (first_of qs)) (record_bytes (second_in set qs cs))
  unfolding show_for
  shows_both n = rw n

  shows_none : Covers set qs cs → show_for room room' (quoted_in set qs cs) ≡ refuse 13 0
  unfolding show_for
  shows_none h = rw h

  -- it is given of a query that they leave uncovered alone
  pub shows_full : Full (show_for room room' (quoted_in set qs cs)) → Leaves set qs cs
  shows_full f = ⊎_elim (λ h. absurd (no_full (full_same (shows_none h) f))) (λ n. n) (test_cases (covered_in set qs cs))

  -- 13 falls exactly to a query that they cover
  pub shows_exactly : (a : Outcome) → a ≡ show_for room room' (quoted_in set qs cs) → (words e : ℕ) → (with_workspace words a ≡ refuse 13 e) ↔ ((16384 ≤ words) × Covers set qs cs × (e ≡ 0))
  shows_exactly a is words e = (
    λ x.
        let w = enough_for words a (λ z. let y = number_same z in omega arith) x in
        ⊎_elim
        (λ h. (w.0, h, sym (detail_same (sym (is ∙ shows_none h) ∙ w.1))))
        (λ n. absurd (⊎_elim (λ y. omega arith) (λ y. omega arith) (no_other (fitted_both a words room room' _ _ (is ∙ shows_both n)) x)))
        (test_cases (covered_in set qs cs)),
    λ x. enough_words words _ x.0 ∙ is ∙ shows_none x.1 ∙ ap (refuse 13) (sym x.2),
  )

module _ (q : List ℕ) (c : Brought) (qs : List ℕ) (cs : Offered) (p : Question q qs) (d : Catalogue c cs) where
  -- the table says of a set which edges its views match
  module _ (set : ℕ) where
    matched-plain : (i : ℕ) → i < edges_of qs → MatchedBy (table qs cs) set i (length (view_patterns cs)) ↔ MatchedIn (pattern_of qs) (view_patterns cs) set (link_of qs i)
    unfolding matched_by
    matched-plain i l =
        let Q = pattern_of qs in
        let Ps = view_patterns cs in
        let b = question_bounds q qs p in
        let n = few_views c cs d in
        let h : i < length Q.edges = omega (arith, b.many) in (
          λ o.
              let k = o.below in
              let P = extract_of cs o.at in
              let r = some_match_say (link_of qs i) P.edges (view_sheet P (as_graph Q)) ((matched_exactly Q Ps b.few_edges i o.at h k (omega arith)).0 o.holds.1) in
              record { extract = o.at; given = k; in_set = (test_is _).0 o.holds.0; link = r.0; kind = r.2; lists = r.3 },
          λ m.
              let k = m.given in
              let P = extract_of cs m.extract in
              let t = (matched_exactly Q Ps b.few_edges i m.extract h k (omega arith)).1
              (some_match_by (link_of qs i) P.edges (view_sheet P (as_graph Q)) m.link (link_below Q P m.link m.lists) m.kind m.lists) in
              record { at = m.extract; below = k; holds = ((test_is _).1 m.in_set, t) },
        )

    pub covers_plain : Covers set qs cs ↔ ((i : ℕ) → i < edges_of qs → MatchedIn (pattern_of qs) (view_patterns cs) set (link_of qs i))
    covers_plain =
        let x = covers_exactly (table qs cs) set (length (view_patterns cs)) (edges_of qs) in
        (λ h i l. (matched-plain i l).0 (x.0 h i l), λ f. x.1 (λ i l. (matched-plain i l).1 (f i l)))

    pub lowest_plain : Leaves set qs cs → LowestUnmatched qs (MatchedIn (pattern_of qs) (view_patterns cs) set) (lacking_in set qs cs)
    lowest_plain n =
        let k = length (view_patterns cs) in
        let l = (lowest_below (table qs cs) set k (edges_of qs)).1 n in
        let f = lowest_is (table qs cs) set k (edges_of qs) in
        record {
          below = l;
          unmatched = λ m. never (sym (matched-by-table (table qs cs) set _ k ((matched-plain _ l).1 m)) ∙ f.here l);
          lower = λ e h. (matched-plain e (omega arith)).0 (matched-in-table (table qs cs) set e k (f.lower e h));
        }

  -- ---- accepted books, by a set of views
  module _ (b bs : List ℕ) (k : Book cs.content b bs) (choose : Choose) (room : ℕ) where
    pub given_by : Covers (choose (quoted_by qs cs)) qs cs → answer_by choose q c b room ≡ fit_file room (sheet_bytes (answer_of (choose (quoted_by qs cs)) qs cs bs))
    unfolding answer_bytes
    given_by h = answer_covered q c qs cs p d b bs k choose room h

    pub refused_by : Leaves (choose (quoted_by qs cs)) qs cs → answer_by choose q c b room ≡ refuse 11 (lacking_in (choose (quoted_by qs cs)) qs cs)
    refused_by n = answer_uncovered q c qs cs p d b bs k choose room n

    -- 11 falls exactly to a set that leaves an edge unmatched
    pub refused_exactly : (words e : ℕ)
        → (with_workspace words (answer_by choose q c b room) ≡ refuse 11 e) ↔ ((16384 ≤ words) × Leaves (choose (quoted_by qs cs)) qs cs × (e ≡ lacking_in (choose (quoted_by qs cs)) qs cs))
    refused_exactly words e = (
      λ x.
          let w = enough_for words (answer_by choose q c b room) (λ z. let y = number_same z in omega arith) x in
          ⊎_elim
          (λ h. absurd (⊎_elim (λ y. omega arith) (λ y. omega arith) (no_other (fitted_file (answer_by choose q c b room) words room _ (given_by h)) x)))
          (λ n. (w.0, n, sym (detail_same (sym (refused_by n) ∙ w.1))))
          (test_cases (covered_in (choose (quoted_by qs cs)) qs cs)),
      λ x. enough_words words _ x.0 ∙ refused_by x.1 ∙ ap (refuse 11) (sym x.2),
    )

    -- an answer is given by a set that covers the query alone
    pub full_answered : Full (answer_by choose q c b room) → Covers (choose (quoted_by qs cs)) qs cs
    full_answered f = ⊎_elim (λ h. h) (λ n. absurd (no_full (full_same (refused_by n) f))) (test_cases (covered_in (choose (quoted_by qs cs)) qs cs))
