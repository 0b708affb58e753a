-- Demands 1 and 2 hold.
use Prim.Native.Nat.{ℕ, zero, suc, ◌+◌, ◌*◌, ◌<◌, ◌≤◌, ◌%◌}
use mathlib.Core.Path.{◌≡◌, refl, sym, ap, ◌∙◌, subst}
use mathlib.Core.Bool.{Bool, true, false, ◌||◌}
use mathlib.Core.Logic.{⊎_elim, ◌↔◌, inl, inr}
use mathlib.Core.List.{List, [], ◌∷◌, flatten}
use lib.ListN.{length, get_or}
use lib.Dec.{T, eqb, ltb}
use borrow.Author.Tests.{lt-ltb, le-ltb}
use native.Mathlib.Omega.{arith}
use Rattle.packed.specs.Format.{pick}
use Rattle.packed.specs.Formats.{code}
use Rattle.packed.specs.Contents.{edges_of, views_of, edge_counts, sheets_in, ends, fields_of}
use Rattle.packed.specs.Plain.{BookFile}
use Rattle.packed.specs.OldRecord.{sorted_fields, record_sorted}
use Rattle.packed.specs.Calls.{Outcome, give, refuse, told_of, fronts, outputs_of, work_of, with_workspace, Verdict, accepted, rejected, judged, read_pattern, read_catalogue, read_record, read_sheet, read_book, write_sheet, write_book, pattern_read, catalogue_read, record_read, sheet_read, book_read, pattern_written, catalogue_written, record_written, sheet_written, book_written}
use Rattle.packed.proofs.SheetLaws.{fields_none, fields_some}
use Rattle.packed.proofs.Accepted.{pattern_read_lem, catalogue_read_lem, record_read_lem, sheet_read_lem, book_read_lem}
use Rattle.packed.proofs.CallRoundTrips.{pattern_back, pattern_again, catalogue_back, catalogue_again, record_back, record_again, sheet_back, sheet_again, book_back, book_again}
use Rattle.engine.specs.Lists.{In, some, up_to}
use Rattle.engine.specs.Simulation.{Pair, Edge, no_edge, one_way, both_ways, Pattern, ruled, bit, pattern_of, graph_of, as_graph, fits, match_sets, view_sheet}
use Rattle.matching.specs.Join.{matched}
use Rattle.matching.specs.Search.{view_sheets, search_outcome, book_for, make_book_outcome}
use Rattle.matching.specs.Index.{make_index_outcome, check_index_outcome, search_indexed_outcome}
use Rattle.engine.proofs.ListLaws.{length_each, get_d_each}
use Rattle.engine.proofs.SimLaws.{not_both as rules-differ, sim_is, sim_most}
use Rattle.engine.proofs.MatchLaws.{sound_say}
use Rattle.engine.proofs.AllOrNone.{sets_even}
use Rattle.matching.proofs.MatchSetLaws.{view_sheet_lem}
use Rattle.matching.proofs.Covered.{narrow_query}
use Rattle.matching.proofs.SortedGraphs.{alike_sets}
use Rattle.matching.proofs.Listed.{listed_exactly}
use Rattle.matching.proofs.SheetBytes.{none_bytes}
use Rattle.matching.proofs.RecordLaws.{graph_narrow}
use Rattle.matching.specs.Offered.{Brought, Offered, offers, rule_in, view_at, view_patterns, judge_set, with_set, offered}
use Rattle.matching.proofs.OfferedLaws.{views_number, view_is, not_both, judged_wrong, set_judges}
use Rattle.containment.specs.Choice.{every_view, covers_in}
use Rattle.containment.specs.Quote.{no_pattern, Quoted, quoted_in, quoted_by, usable_views, covering, used_by, QuoteValues, flat, one, mapping, values_from, quote_values, quote_for}
use Rattle.containment.specs.Answer.{Choose, answer_in, answer_for, answer_by}
use Rattle.containment.specs.Cheapest.{cheapest_from, cheapest_for}
use Rattle.containment.specs.Show.{show_for}
use Rattle.containment.specs.Part.{with_first, fit_part, part_for, part_quoted}
use Rattle.answering.specs.Several.{question_at, counted, all_covered, sheets_needed, answer_at, any_long, fit_several, several_in, several_outcome}
use Rattle.containment.specs.Listing.{line_of, line_outcome}
use Rattle.answering.specs.Demands.{Full, Settles, write_pattern, write_catalogue, write_record, Worked, Demand1, Question, Catalogue, Record, own_of, FewPairs, Book, extract_of, link_of, Covered, Matching, Matched, Demand2, first, then_none, lacking_in, chosen_in, masks_in, force_of, When, always, on, usable_when, Timely, quote_when}
use Rattle.answering.proofs.Numbered.{Numbered, numbered, pattern_faults, patterns_faults, catalogue_faults, record_faults, old_faults, sheet_faults, book_faults, gives, refuses, either, workspace_settles, within_pairs_settles, own_settles, fit_settles, fit_file_settles, fit_both_settles, read_settles, write_settles, write_short}
use Rattle.containment.proofs.SetBits.{never, test_cases, bit_zero, bit_every}
use Rattle.containment.specs.Terms.{judge_terms, first_day_for, first_day}
use Rattle.containment.specs.declared.terms.Terms.{Terms}
use Rattle.containment.proofs.ChoiceLaws.{chosen_none, chosen_covers, chosen_needed}
use Rattle.answering.proofs.CoveredBytes.{covered_in, question_bounds, query_rule, few_views, record_is}
use Rattle.containment.proofs.ColumnLaws.{column_in, column_out}
use Rattle.answering.proofs.QuoteLaws.{test_is, mapping_exactly, quote_says_covered}
use Rattle.answering.proofs.DemandRules.{number_same, not_refused, bytes_by, few_words, enough_words, enough_for, full_words, full_judged, full_twice, full_offered, full_within_pairs, fitted, fitted_file, fitted_both, pattern_reads, catalogue_reads, record_reads, sheet_reads, book_reads, pattern_writes, catalogue_writes, record_writes, sheet_writes, book_writes, many_pairs_read, many_pairs_written, many_pairs_answer, listed_matched, matched_listed, covers_plain, given_by, full_answered, full_same, choice_among, shows_both, shows_full}
use Rattle.answering.proofs.DemandFiles.{hands_up, says_judged, says_offered, says_quoted, says_give, says_fit, says_fit_file, says_within_pairs, says_own, says_quote, says_cheapest, says_answer, says_show, Says}
use Rattle.answering.proofs.Entering.{commit_settles, commit_says}
use Rattle.answering.proofs.Parts.{many_pairs_part}
use Rattle.answering.proofs.Severals.{several_hands_up, several_reads_none, many_pairs_several, several_19}
use Rattle.matching.specs.Ask.{ask_of, ask_outcome}
use Rattle.answering.proofs.Asking.{ask_settles_on, ask_says, ask_19}
use Rattle.answering.proofs.WhenLaws.{terms_judges, by_when, goes_on_when, quote_by, cheapest_by, part_by, show_by, show_goes_on, full_when, says_when, says_part, refused_when, make_book_19, quote_19, cheapest_19, part_19, show_19, first_day_19, answer_19}
use Rattle.answering.proofs.DemandIndex.{index_made, check_exactly, check_yes, search_exactly, check_whole, search_whole, way_same, way_searched}
use Rattle.answering.proofs.DemandSheets.{pair_fields, searched_back, searched_length, book_made, views_sound}

-- ---- demand 1

-- a file is read first, by its limit and its number
pattern_first : (s : List ℕ) {k : List ℕ → Outcome} → ((ws : List ℕ) → Settles (k ws)) → Settles (judged (read_pattern s) k)
pattern_first s h = read_settles 56 1 pattern_faults s h

catalogue_first : (s : List ℕ) {k : List ℕ → Outcome} → ((ws : List ℕ) → Settles (k ws)) → Settles (judged (read_catalogue s) k)
unfolding read_catalogue judged
catalogue_first [] h = h (0 ∷ [])
catalogue_first (b ∷ s) h = read_settles 897 2 catalogue_faults (b ∷ s) h

-- what is judged beside it: terms, and a set
judged_first : (v : Verdict) {k : List ℕ → Outcome} → ((n d : ℕ) → v ≡ rejected n d → Numbered n) → ((ws : List ℕ) → Settles (k ws)) → Settles (judged v k)
unfolding judged
judged_first (accepted ws) f h = h ws
judged_first (rejected n d) f h = refuses d (f n d refl)

terms_first : (t : Terms) (k : ℕ) {a : Outcome} → Settles a → Settles (judged (judge_terms t k) (λ _. a))
terms_first t k h = judged_first (judge_terms t k) (λ n d e. let z = judged_wrong (terms_judges t k) e in record { least = omega arith; most = omega arith }) (λ _. h)

set_first : (set : ℕ) (ws : List ℕ) (k : Offered → Outcome) → Settles (k (offers ws set)) → Settles (with_set set ws k)
set_first set ws k h =
    judged_first (judge_set set (length (views_of ws))) (λ n d e. let z = judged_wrong (set_judges set (length (views_of ws))) e in record { least = omega arith; most = omega arith }) (λ _. h)

offered_first : (c : Brought) (k : Offered → Outcome) → ((o : Offered) → Settles (k o)) → Settles (offered c k)
offered_first c k h = catalogue_first c.file (λ ws. set_first c.one_way ws k (h (offers ws c.one_way)))

record_first : (s : List ℕ) {k : List ℕ → Outcome} → ((ws : List ℕ) → Settles (k ws)) → Settles (judged (read_record s) k)
record_first s h = read_settles 44036 3 record_faults s h

answer_settles : (set : ℕ) (x : Quoted) (bs : List ℕ) (room : ℕ) → Settles (answer_in set x bs room)
unfolding answer_in
answer_settles set x bs room = within_pairs_settles (edge_counts x.offer.content) bs (either (covering x set) (fit_file_settles room _) (refuses _ (numbered 11 refl refl)))

answered_settles : (choose : Choose) (q : List ℕ) (c : Brought) (b : List ℕ) (room : ℕ) → Settles (answer_by choose q c b room)
unfolding answer_by answer_for
answered_settles choose q c b room =
    pattern_first q (λ qs. offered_first c _ (λ cs. read_settles 65536 4 (book_faults (edge_counts cs.content)) b (λ bs. answer_settles (choose (quoted_by qs cs)) (quoted_by qs cs) bs room)))

-- an output before those of an outcome
fit_part_settles : (room : ℕ) (o : List ℕ) {a : Outcome} → Settles a → Settles (fit_part room o a)
unfolding fit_part with_first
fit_part_settles room o h =
    either (ltb room (length o)) (refuses _ (numbered 12 refl refl))
    (⊎_elim
    (λ f. inl (record { values = f.values; outputs = o ∷ f.outputs; is = ap (with_first o) f.is }))
    (λ r. inr (record { number = r.number; detail = r.detail; is = ap (with_first o) r.is; least = r.least; most = r.most }))
    h)

part_settles : (b : List ℕ) (room room' : ℕ) (x : Quoted) → Settles (part_for b room room' x)
unfolding part_for answer_for
part_settles b room room' x =
    read_settles 65536 4 (book_faults (edge_counts x.offer.content)) b (λ bs.
    within_pairs_settles (edge_counts x.offer.content) bs
    (either (some (matched (pattern_of x.content) (usable_views x)) (pattern_of x.content).edges)
    (fit_part_settles room _ (read_settles 65536 4 (book_faults (edge_counts x.offer.content)) b (λ bs. answer_settles (used_by (part_quoted x)) (part_quoted x) bs room')))
    (refuses _ (numbered 11 refl refl))))

-- several queries
covered_settles : (x : ℕ → Quoted) (n : ℕ) {a : Outcome} → Settles a → Settles (all_covered x n a)
unfolding all_covered
covered_settles x zero h = h
covered_settles x (suc n) h = covered_settles x n (either (covering (x n) (x n).usable) h (refuses _ (numbered 11 refl refl)))

fit_several_settles : (room needed : ℕ) (o : ℕ → List ℕ) (n : ℕ) → Settles (fit_several room needed o n)
unfolding fit_several
fit_several_settles room needed o n = either (ltb room (length (flatten (up_to o n))) || any_long o n) (refuses _ (numbered 12 refl refl)) (gives _ _)

several_settles : (x : ℕ → Quoted) (n : ℕ) (o : Offered) (bs : List ℕ) (room : ℕ) → Settles (several_in x n o bs room)
unfolding several_in
several_settles x n o bs room =
    within_pairs_settles (edge_counts o.content) bs (covered_settles x n (fit_several_settles room (sheets_needed x n (length (view_patterns o))) (answer_at x (sheets_in (edge_counts o.content) bs)) n))

cheapest_settles : (charges : List ℕ) (x : Quoted) → Settles (cheapest_for charges x)
unfolding cheapest_for cheapest_from
cheapest_settles charges x =
    either (eqb (length charges) (length (view_patterns x.offer))) (either (covering x x.usable) (gives _ []) (refuses _ (numbered 11 refl refl))) (refuses _ (numbered 15 refl refl))

show_settles : (room room' : ℕ) (x : Quoted) → Settles (show_for room room' x)
unfolding show_for
show_settles room room' x = either (covering x x.usable) (refuses 0 (numbered 13 refl refl)) (fit_both_settles room room' _ _)

when_settles : (w : When) (q : List ℕ) (c : Brought) (k : Quoted → Outcome) → ((x : Quoted) → Settles (k x)) → Settles (by_when w q c k)
when_settles always q c k h = pattern_first q (λ qs. offered_first c _ (λ cs. h (quoted_by qs cs)))
when_settles (on t day) q c k h =
    pattern_first q (λ qs. catalogue_first c.file (λ ws. terms_first t (length (views_of ws)) (set_first c.one_way ws (λ o. k (quoted_in (force_of t day o) qs o)) (h _))))

full_answer : (set : ℕ) (x : Quoted) (bs : List ℕ) (room : ℕ) → Full (answer_in set x bs room) → FewPairs x.offer.content bs
unfolding answer_in
full_answer set x bs room f = full_within_pairs (edge_counts x.offer.content) bs _ f

-- what a workspace holds afterwards
worked : (work work' : List ℕ) → work' ≡ work_of work → Worked work work'
unfolding work_of
worked work work' e = record {
  zeroed = λ h. e ∙ rw (le-ltb (length work) 16384 h);
  as_came = λ h. e ∙ rw (lt-ltb (length work) 16384 h);
}

-- a quote refuses what a file, terms or a set are refused with, and nothing else
quote_few : (w : When) (q : List ℕ) (c : Brought) {d : ℕ} → quote_when w q c ≡ refuse 11 d → ⊥
unfolding quote_for
quote_few w q c e =
    ⊎_elim (λ l. omega arith) (λ x. ⊎_elim (λ z. omega arith) (λ y. not_refused y.1) x) (refused_when w q c quote_for (sym (quote_by q c w) ∙ e))

-- a book is accepted if none of 1 to 9 falls to it, and 10 doesn't
book_exactly : (cs s ws : List ℕ) → Book cs s ws ↔ ((length s ≤ 65536) × BookFile (edge_counts cs) s ws × FewPairs cs ws)
book_exactly cs s ws = (
  λ k. let r = (book_read_lem cs s ws).0 k.read in (r.0, r.1, k.few),
  λ k. record { read = (book_read_lem cs s ws).1 (k.0, k.1); few = k.2 },
)

pub demand_1 : Demand1
unfolding record_sorted fronts pattern_read catalogue_read record_read sheet_read book_read pattern_written catalogue_written record_written sheet_written book_written search_outcome make_book_outcome make_index_outcome check_index_outcome search_indexed_outcome quote_for first_day first_day_for answer_for answer_by counted several_outcome line_outcome told_of outputs_of
demand_1 = record {
  read_pattern_lem = λ s room words. workspace_settles words (pattern_first s (fit_settles room));
  read_catalogue_lem = λ s room words. workspace_settles words (catalogue_first s (fit_settles room));
  read_record_lem = λ s room words. workspace_settles words (record_first s (fit_settles room));
  read_sheet_lem = λ p s room words. workspace_settles words (pattern_first p (λ ps. read_settles 65536 4 (sheet_faults (edges_of ps)) s (fit_settles room)));
  read_book_lem = λ c s room words.
      workspace_settles words
      (catalogue_first c (λ cs. read_settles 65536 4 (book_faults (edge_counts cs)) s (λ ws. within_pairs_settles (edge_counts cs) ws (fit_settles room ws))));
  write_pattern_lem = λ ws room words. workspace_settles words (write_settles 1 pattern_faults ws (fit_settles room));
  write_catalogue_lem = λ ws room words. workspace_settles words (write_settles 2 catalogue_faults ws (fit_settles room));
  write_record_lem = λ ws room words. workspace_settles words (write_settles 3 record_faults ws (fit_settles room));
  sort_record = λ s room words. workspace_settles words (read_settles 40964 3 old_faults s (λ ws. write_settles 3 record_faults (sorted_fields ws) (fit_settles room)));
  write_sheet_lem = λ p ws room words. workspace_settles words (pattern_first p (λ ps. write_settles 4 (sheet_faults (edges_of ps)) ws (fit_file_settles room)));
  write_book_lem = λ c ws room words.
      workspace_settles words
      (catalogue_first c (λ cs. write_settles 4 (book_faults (edge_counts cs)) ws (λ s. within_pairs_settles (edge_counts cs) ws (fit_file_settles room s))));
  search = λ p r room words. workspace_settles words (pattern_first p (λ ps. record_first r (λ rs. fit_file_settles room _)));
  make_index = λ r room words. workspace_settles words (record_first r (λ rs. fit_settles room (own_of rs)));
  check_index = λ r index words. workspace_settles words (record_first r (λ rs. own_settles (own_of rs) index (gives _ [])));
  search_indexed = λ p r index room words. workspace_settles words (pattern_first p (λ ps. record_first r (λ rs. own_settles (own_of rs) index (fit_file_settles room _))));
  make_book = λ c r room words. workspace_settles words (offered_first c (λ cs. book_for cs r room) (λ cs. record_first r (λ rs. fit_file_settles room _)));
  ask = λ c r s l words. workspace_settles words (unfold ask_outcome in offered_first c (λ o. ask_of o r s l) (ask_settles_on r s l));
  commit = λ r s p room room' words. workspace_settles words (commit_settles r s p room room');
  quote = λ w q c words. workspace_settles words (subst Settles (sym (quote_by q c w)) (when_settles w q c quote_for (λ x. gives _ [])));
  cheapest = λ w q c charges words. workspace_settles words (subst Settles (sym (cheapest_by q c w charges)) (when_settles w q c (cheapest_for charges) (cheapest_settles charges)));
  first_day_lem = λ q c t day words. workspace_settles words (when_settles (on t day) q c (first_day_for t day) (λ x. gives _ []));
  answer = λ choose q c b room words. workspace_settles words (answered_settles choose q c b room);
  show = λ w q c room room' words. workspace_settles words (subst Settles (sym (show_by q c w room room')) (when_settles w q c (show_for room room') (show_settles room room')));
  part = λ w q c b room room' words. workspace_settles words (subst Settles (sym (part_by q c w b room room')) (when_settles w q c (part_for b room room') (part_settles b room room')));
  several = λ q number c b room words.
      workspace_settles words
      (either (eqb number 0 || ltb 8 number) (refuses _ (numbered 17 refl refl))
      (read_settles (56 * number) 1 (patterns_faults number) q (λ ws. offered_first c _ (λ cs. read_settles 65536 4 (book_faults (edge_counts cs.content)) b (λ bs.
      several_settles (question_at number ws cs) number cs bs room)))));
  line = λ q k room. fit_settles room (line_of q k);
  read_pattern_files = λ s room. hands_up (says_judged (read_pattern s) (λ ws _. says_fit room ws));
  read_catalogue_files = λ s room. hands_up (says_judged (read_catalogue s) (λ ws _. says_fit room ws));
  read_record_files = λ s room. hands_up (says_judged (read_record s) (λ ws _. says_fit room ws));
  read_sheet_files = λ p s room. hands_up (says_judged (read_pattern p) (λ ps _. says_judged (read_sheet ps s) (λ ws _. says_fit room ws)));
  read_book_files = λ c s room. hands_up (says_judged (read_catalogue c) (λ cs _. says_judged (read_book cs s) (λ ws _. says_within_pairs (edge_counts cs) ws (says_fit room ws))));
  write_pattern_files = λ ws room. hands_up (says_judged (write_pattern ws) (λ s _. says_fit room s));
  write_catalogue_files = λ ws room. hands_up (says_judged (write_catalogue ws) (λ s _. says_fit room s));
  write_record_files = λ ws room. hands_up (says_judged (write_record ws) (λ s _. says_fit room s));
  write_sheet_files = λ p ws room. hands_up (says_judged (read_pattern p) (λ ps _. says_judged (write_sheet ps ws) (λ s _. says_fit_file room s)));
  write_book_files = λ c ws room. hands_up (says_judged (read_catalogue c) (λ cs _. says_judged (write_book cs ws) (λ s _. says_within_pairs (edge_counts cs) ws (says_fit_file room s))));
  search_files = λ p r room. hands_up (says_judged (read_pattern p) (λ ps _. says_judged (read_record r) (λ rs _. says_fit_file room _)));
  make_index_files = λ r room. hands_up (says_judged (read_record r) (λ rs _. says_fit room _));
  check_index_files = λ r index. hands_up (says_judged (read_record r) (λ rs _. says_own (own_of rs) index (says_give _ _)));
  search_indexed_files = λ p r index room. hands_up (says_judged (read_pattern p) (λ ps _. says_judged (read_record r) (λ rs _. says_own (own_of rs) index (says_fit_file room _))));
  make_book_files = λ c r room. hands_up (says_offered c (λ cs. book_for cs r room) (λ cs. says_judged (read_record r) (λ rs _. says_fit_file room _)));
  ask_files_lem = λ c r s l. hands_up (ask_says r s l c);
  commit_files_lem = λ r s p room room'. hands_up (commit_says r s p room room');
  quote_files = λ w q c. hands_up (subst (Says _) (sym (quote_by q c w)) (says_when w q c then_none quote_for says_quote));
  cheapest_files = λ w q c charges. hands_up (subst (Says _) (sym (cheapest_by q c w charges)) (says_when w q c then_none (cheapest_for charges) (says_cheapest charges)));
  first_day_files = λ q c t day. hands_up (says_when (on t day) q c then_none (first_day_for t day) (λ x. says_give _ _));
  answer_files = λ choose q c b room.
      hands_up (says_quoted q c (answer_for choose b room) (λ qs cs. says_judged (read_book cs.content b) (λ bs _. says_answer (choose (quoted_by qs cs)) (quoted_by qs cs) bs room)));
  show_files = λ w q c room room'. hands_up (subst (Says _) (sym (show_by q c w room room')) (says_when w q c then_none (show_for room room') (says_show room room')));
  part_files = λ w q c b room room'. hands_up (subst (Says _) (sym (part_by q c w b room room')) (says_when w q c (λ cs. first (read_book cs b) then_none) (part_for b room room') (says_part b room room')));
  several_files_lem = several_hands_up;
  several_unread = several_reads_none;
  never_long = λ ws d. (write_short 1 pattern_faults ws d, write_short 2 catalogue_faults ws d, write_short 3 record_faults ws d);
  never_long_beside = λ cs ws d. (write_short 4 (sheet_faults (edges_of cs)) ws d, write_short 4 (book_faults (edge_counts cs)) ws d);
  make_book_set = make_book_19;
  ask_set = λ c r cs s l d. ask_19 r s l c cs d;
  quote_set = λ w q c qs cs p d y. quote_19 q c qs cs p d w y;
  cheapest_set = λ w q c qs cs charges p d y. cheapest_19 q c qs cs p d w y charges;
  first_day_set = λ q c qs cs t day p d y. first_day_19 q c qs cs p d t day y;
  answer_set = λ choose q c b qs cs room p d. answer_19 q c qs cs p d choose b room;
  show_set = λ w q c qs cs room room' p d y. show_19 q c qs cs p d w y room room';
  part_set = λ w q c b qs cs room room' p d y. part_19 q c qs cs p d w y b room room';
  several_set = several_19;
  right_or_wrong_set = λ set k. (set_judges set k).either;
  not_both_sets = λ set k. not_both (set_judges set k);
  quote_never = λ w q c words d e. quote_few w q c (enough_for words _ (λ z. let y = number_same z in omega arith) e).1;
  small_workspace = λ a words. few_words words a;
  enough = λ a words. enough_words words a;
  accepts_pattern = pattern_read_lem;
  accepts_catalogue = catalogue_read_lem;
  accepts_record = record_read_lem;
  accepts_sheet = sheet_read_lem;
  accepts_book = book_exactly;
  reads_pattern = pattern_reads;
  reads_catalogue = catalogue_reads;
  reads_record = record_reads;
  reads_sheet = sheet_reads;
  reads_book = book_reads;
  writes_pattern = pattern_writes;
  writes_catalogue = catalogue_writes;
  writes_record = record_writes;
  writes_sheet = sheet_writes;
  writes_book = book_writes;
  read_many_pairs = many_pairs_read;
  write_many_pairs = many_pairs_written;
  answer_many_pairs = many_pairs_answer;
  part_many_pairs = λ w q c b qs cs bs p d y k room room' words e. many_pairs_part w q c qs cs p d y b bs k room room' words e;
  several_many_pairs = many_pairs_several;
  search_gives = λ way p r ps rs e f room words. fitted_file _ words room _ (way_searched way p r ps rs e f room);
  search_only = λ p r room words f. let t = full_twice _ _ _ (full_words words _ f) in (t.0, t.1, t.2, t.3);
  search_indexed_only = search_whole;
  make_book_gives = λ c r cs rs e f room words. fitted_file _ words room _ (book_made c r cs rs e f room);
  make_book_only = λ c r room words f. let t = full_offered c (λ cs. book_for cs r room) (full_words words _ f) in let u = full_judged _ _ t.2 in (t.0, u.0, t.1, u.1);
  make_index_gives = λ r rs f room words. fitted _ words room _ (index_made r rs f room);
  make_index_only = λ r room words f. let t = full_judged _ _ (full_words words _ f) in (t.0, t.1);
  check_accepts = λ r rs index f words. check_yes r rs f index words;
  check_only = check_whole;
  check_refuses = λ r rs index f words d. check_exactly r rs f index words d;
  search_refuses = λ p r ps rs index e f room words d. search_exactly r rs f p ps e index room words d;
  quote_only = λ w q c words f. let t = full_when w q c quote_for (full_same (quote_by q c w) (full_words words _ f)) in (t.0, t.1, t.2, t.3, t.4);
  answer_gives = λ choose q c b qs cs bs e f k h room words. fitted_file _ words room _ (given_by q c qs cs e f b bs k choose room h);
  answer_only = λ choose q c b room words f.
      let w = full_words words (answer_by choose q c b room) f in
      let t = full_judged (read_pattern q) _ w in
      let u = full_offered c (λ o. answer_for choose b room (quoted_by t.0 o)) t.2 in
      let z = full_judged _ _ u.2 in
      let k : Book u.0.content b z.0 = record { read = z.1; few = full_answer _ (quoted_by t.0 u.0) _ room z.2 } in
      (t.0, u.0, z.0, t.1, u.1, k, full_answered q c t.0 u.0 t.1 u.1 b z.0 k choose room w);
  show_gives = λ w q c qs cs e f y n room room' words. fitted_both _ words room room' _ _ (show_goes_on w q c qs cs e f y room room' ∙ shows_both (usable_when w cs) qs cs room room' n);
  show_only = λ w q c room room' words f.
      let t = full_when w q c (show_for room room') (full_same (show_by q c w room room') (full_words words _ f)) in
      (t.0, t.1, t.2, t.3, t.4, shows_full (usable_when w t.1) t.0 t.1 room room' t.5);
  full = λ blank r outs outs' work work' values outputs s. (s.outputs, s.result, worked work work' s.workspace);
  front = λ o l. refl;
  both_fronts = λ o o' l l'. refl;
  untouched = λ blank r outs outs' work work' number detail s. (s.outputs, s.result, worked work work' s.workspace);
}

-- ---- demand 2

pub lists_exactly : (r rs : List ℕ) → Record r rs → (P : Pattern) (i : ℕ) → i < length P.edges → (f : Pair) → f.1 < 4096
    → In (code f.0 f.1) (get_or (match_sets P (graph_of rs)) i []) ↔ Matching P (graph_of rs) (get_or P.edges i no_edge) f
lists_exactly r rs e P i h f k = listed_exactly P (graph_of rs) (graph_narrow r rs (record_is r rs e)) i h f k

quote_exactly : (q : List ℕ) (c : Brought) (qs : List ℕ) (cs : Offered) → Question q qs → Catalogue c cs → Covered qs cs ↔ ((e : Edge) → In e (pattern_of qs).edges → Matched (pattern_of qs) (view_patterns cs) e)
quote_exactly q c qs cs eq ec =
    let x = quote_says_covered (pattern_of qs) (view_patterns cs) (few_views c cs ec) (question_bounds q qs eq).few_edges in
    let m : length (pattern_of qs).edges ≡ edges_of qs = (question_bounds q qs eq).many in
    let same = ap (covers_in (mapping (pattern_of qs) (view_patterns cs)) every_view (length (view_patterns cs))) m in (
      λ h e i. listed_matched (pattern_of qs) (view_patterns cs) e (x.0 (same ∙ h) e i),
      λ f. sym same ∙ x.1 (λ e i. matched_listed (pattern_of qs) (view_patterns cs) e (f e i)),
    )

-- the masks of a quote
maps_exactly : (set : ℕ) (q : List ℕ) (c : Brought) (qs : List ℕ) (cs : Offered) → Question q qs → Catalogue c cs → (i a f : ℕ) → i < edges_of qs → a < length (view_patterns cs) → f < length (extract_of cs a).edges
    → T (bit (get_or (masks_in set qs cs) (16 * i + a) 0) f)
    ↔ (T (bit set a) × ((get_or (extract_of cs a).edges f no_edge).kind ≡ (link_of qs i).kind) × In (code (link_of qs i).from (link_of qs i).to) (get_or (view_sheet (extract_of cs a) (as_graph (pattern_of qs))) f []))
maps_exactly set q c qs cs eq ec i a f h l k =
    let b = question_bounds q qs eq in
    let n = few_views c cs ec in
    let t = mapping (pattern_of qs) (view_patterns cs) in
    let x = mapping_exactly (pattern_of qs) (view_patterns cs) b.few_edges i a (omega (arith, b.many)) l (omega arith) f k in
    let z : (16 * i + a) % 16 ≡ a = omega arith in
    ⊎_elim
    (λ y.
    let e = column_in set t (16 * i + a) (ap (bit set) z ∙ y) in (
      λ m. let r = x.0 (subst (λ (v : ℕ). T (bit v f)) e m) in ((test_is _).0 y, r.0, r.1),
      λ m. subst (λ (v : ℕ). T (bit v f)) (sym e) (x.1 (m.1, m.2)),
    ))
    (λ y.
    let e = column_out set t (16 * i + a) (ap (bit set) z ∙ y) in (
      λ m. never (sym ((test_is _).1 (subst (λ (v : ℕ). T (bit v f)) e m)) ∙ bit_zero f),
      λ m. never (sym ((test_is _).1 m.0) ∙ y),
    ))
    (test_cases (bit set a))

-- the values of a quote
abbrev values_by : ℕ → List ℕ → Offered → Bool → ℕ → QuoteValues
values_by usable qs cs b set = record { covered = one b; mapping = masks_in usable qs cs; edges = edges_of qs; chosen = set; lowest = pick b 0 (lacking_in usable qs cs) }

quote_values_lem : (w : When) (q : List ℕ) (c : Brought) (qs : List ℕ) (cs : Offered) → Question q qs → Catalogue c cs → Timely cs w → (b : Bool) → covered_in (usable_when w cs) qs cs ≡ b
    → quote_when w q c ≡ give (flat (values_by (usable_when w cs) qs cs b (chosen_in (usable_when w cs) qs cs))) []
unfolding quote_for quote_values values_from
quote_values_lem w q c qs cs eq ec y b h = quote_by q c w ∙ goes_on_when w q c qs cs eq ec y quote_for ∙ rw h

one_same : (a b : Bool) → one a ≡ one b → a ≡ b
one_same true true e = refl
one_same true false e = absurd (omega arith)
one_same false true e = absurd (omega arith)
one_same false false e = refl

-- which is all that it says of coverage
quote_says : (w : When) (q : List ℕ) (c : Brought) (qs : List ℕ) (cs : Offered) → Question q qs → Catalogue c cs → Timely cs w → (b : Bool) (words : ℕ)
    → ((v : QuoteValues) × (with_workspace words (quote_when w q c) ≡ give (flat v) []) × (v.covered ≡ one b)) ↔ ((16384 ≤ words) × (covered_in (usable_when w cs) qs cs ≡ b))
unfolding flat
quote_says w q c qs cs eq ec y b words = (
  λ x.
      let g = enough_for words (quote_when w q c) (λ z. not_refused (sym z)) x.1 in
      let e = sym (quote_values_lem w q c qs cs eq ec y (covered_in (usable_when w cs) qs cs) refl) ∙ g.1 in
      (g.0, one_same (covered_in (usable_when w cs) qs cs) b (cc)),
  λ x. (values_by (usable_when w cs) qs cs b (chosen_in (usable_when w cs) qs cs), enough_words words (quote_when w q c) x.0 ∙ quote_values_lem w q c qs cs eq ec y b x.1, refl),
)

-- the extract a: the pattern at its place, by the rule that the set says
module _ (cs : Offered) (a : ℕ) (l : a < length (view_patterns cs)) where
  extract_at : extract_of cs a ≡ view_at cs a
  extract_at = view_is cs a no_pattern (omega (arith, views_number cs))

  one_way_in : T (bit cs.one_way a) → (extract_of cs a).rule ≡ one_way
  unfolding rule_in
  one_way_in t = ap (λ (P : Pattern). P.rule) extract_at ∙ rw ((test_is (bit cs.one_way a)).1 t)

  both_ways_out : (T (bit cs.one_way a) → ⊥) → (extract_of cs a).rule ≡ both_ways
  unfolding rule_in
  both_ways_out f = ap (λ (P : Pattern). P.rule) extract_at ∙ ⊎_elim (λ y. absurd (f ((test_is _).0 y))) (λ n. rw n) (test_cases (bit cs.one_way a))

  extract_ruled : extract_of cs a ≡ ruled (extract_of cs a).rule (pattern_of (get_or (views_of cs.content) a []))
  extract_ruled = extract_at ∙ sym (ap (λ (P : Pattern). ruled P.rule (pattern_of (get_or (views_of cs.content) a []))) extract_at)

pub demand_2 : (R : ℕ → ℕ → Type 0) → Demand2 R
unfolding fits fields_of ends view_sheets
demand_2 R = record {
  rule_both_ways = query_rule;
  extract_one_way = one_way_in;
  extract_both_ways = both_ways_out;
  extract_is = extract_ruled;
  extracts_many = views_number;
  simulates = sim_is;
  greatest = λ P G. sim_most P G R;
  one_way_too = λ P G s. record { fit = s.fit; follow = s.follow; arrive = λ e. absurd (rules-differ e) };
  searches = way_searched;
  books = book_made;
  sheets_many = λ cs G. length_each (λ P. view_sheet P G) (view_patterns cs);
  sheet_each = λ cs G a l. get_d_each (λ P. view_sheet P G) (view_patterns cs) a no_pattern [] l;
  same_either_way = λ way p r rs f room words. ap (with_workspace words) (way_same way p r rs f room);
  lists = lists_exactly;
  lists_in_question = λ q qs e P i h f k.
      let b = question_bounds q qs e in
      listed_exactly P (as_graph (pattern_of qs)) (narrow_query (pattern_of qs) (sound_say (pattern_of qs) b.sound) b.few_nodes) i h f k;
  of_extracts = view_sheet_lem;
  sheet_back = λ p r ps rs out e f room words. searched_back p r ps rs e f out room words;
  none_found = fields_none;
  some_found = λ ls h. fields_some ls (λ e. omega arith);
  each_link = λ l ls. refl;
  no_links = refl;
  each_pair = pair_fields;
  no_pairs = refl;
  zero_byte = none_bytes;
  sheet_length_lem = searched_length;
  any_order = λ G H s P.
      alike_sets P G H (record { same_labels = s.kinds; more = λ f. (s.links f).0 }, record { same_labels = sym s.kinds; more = λ f. (s.links f).1 });
  all_or_none_lem = sets_even;
  patterns_sound = λ p ps e. (question_bounds p ps e).sound;
  extracts_sound = views_sound;
  quotes = quote_exactly;
  covers = λ q c qs cs eq ec set. covers_plain q c qs cs eq ec set;
  says_covered = λ w q c qs cs eq ec y words. quote_says w q c qs cs eq ec y true words;
  says_uncovered = λ w q c qs cs eq ec y words. quote_says w q c qs cs eq ec y false words;
  values_covered = λ w q c qs cs eq ec y h. quote_values_lem w q c qs cs eq ec y true h;
  values_uncovered = λ w q c qs cs eq ec y n.
      quote_values_lem w q c qs cs eq ec y false n
      ∙ ap (λ (set : ℕ). give (flat (values_by (usable_when w cs) qs cs false set)) [])
      (chosen_none (mapping (pattern_of qs) (view_patterns cs)) (usable_when w cs) (edges_of qs) (length (view_patterns cs)) n);
  maps = maps_exactly;
  all_usable = λ c cs ec a l. (test_is _).0 (bit_every a (let n = few_views c cs ec in omega arith));
  choice_within = λ set qs cs a t. choice_among set qs cs a ((test_is _).1 t);
  choice_covers = λ set qs cs h. chosen_covers (mapping (pattern_of qs) (view_patterns cs)) set (edges_of qs) (length (view_patterns cs)) h;
  choice_needs = λ set qs cs a t h.
      never (sym h ∙ chosen_needed (mapping (pattern_of qs) (view_patterns cs)) set (edges_of qs) (length (view_patterns cs)) a ((test_is _).1 t));
  patterns = record { back = λ s ws room room' words y. pattern_back s ws room room' words (bytes_by s y); again = pattern_again };
  catalogues = record { back = λ s ws room room' words y. catalogue_back s ws room room' words (bytes_by s y.0) y.1; again = catalogue_again };
  records = record { back = λ s ws room room' words y. record_back s ws room room' words (bytes_by s y); again = record_again };
  sheets = λ p. record { back = λ s ws room room' words y. sheet_back p s ws room room' words (bytes_by s y); again = sheet_again p };
  all_books = λ c. record { back = λ s ws room room' words y. book_back c s ws room room' words (bytes_by s y); again = book_again c };
}
