-- The third demand, and what else holds of answers.
use Prim.Native.Nat.{ℕ, ◌<◌, ◌≤◌}
use mathlib.Core.Path.{◌≡◌, refl, sym, ap, ◌∙◌}
use mathlib.Core.Logic.{◌↔◌, ⊎_elim}
use mathlib.Core.List.{List, [], ◌∷◌}
use lib.ListN.{length, get_or}
use lib.Dec.{T}
use native.Mathlib.Omega.{arith}
use Rattle.packed.specs.Contents.{edge_counts, sheet_fields, sheets_in}
use Rattle.packed.specs.Calls.{give, refuse, with_workspace, read_pattern, read_sheet, read_book, fit_file, record_bytes}
use Rattle.engine.specs.Lists.{In, each}
use Rattle.engine.specs.Simulation.{Edge, Pair, Pattern, Graph, bit, pattern_of, graph_of, as_graph, match_sets, view_sheet}
use Rattle.matching.specs.Join.{without, answer_sets}
use Rattle.matching.specs.Search.{sheet_bytes, view_sheets}
use Rattle.engine.proofs.ListLaws.{each_same}
use Rattle.matching.proofs.BookBytes.{book_fields}
use Rattle.matching.proofs.SortedGraphs.{alike_views, alike_without}
use Rattle.matching.proofs.Uncovered.{uncovered_views}
use Rattle.matching.specs.Offered.{Brought, Offered, view_patterns}
use Rattle.containment.specs.Choice.{every_view}
use Rattle.containment.specs.Quote.{quoted_by, views_in_set, used_by}
use Rattle.containment.specs.Answer.{answer_bytes, Choose, answer_for, answer_by, answer_from, answer_outcome}
use Rattle.answering.specs.Demands.{Question, Catalogue, Record, Sheet, Book, Covers, Leaves, Uncovered, answer_of, lacking_in, lacking, extract_of, link_of, first_of, second_in, lists_in, usable_when, show_when, Matched, LowestUnmatched, Showing, Demand3, Answering}
use Rattle.containment.proofs.SetBits.{test_cases}
use Rattle.answering.proofs.ShowLaws.{lowest_of, lowest_in, shows_in, shows_book}
use Rattle.answering.proofs.CoveredBytes.{views_same, offered_goes_on, question_is, question_bounds, made_sheets, made_book, answer_alike, covered_in, answer_search, answer_back, given_file, few_views}
use Rattle.answering.proofs.DemandRules.{not_refused, judged_same, matched_whole, used_chosen, used_all, used_covers, used_leaves, lowest_plain, refused_by, given_by, refused_exactly, shows_both, shows_exactly}
use Rattle.answering.proofs.QuoteLaws.{test_is, chosen_in, chosen_every}
use Rattle.answering.proofs.WhenLaws.{show_goes_on}
use Rattle.answering.proofs.DemandSheets.{answer_size}
use Rattle.answering.proofs.DemandIndex.{way_same}
use Rattle.answering.proofs.DemandJoin.{answer_joins}

module _ (q : List ℕ) (c : Brought) (qs : List ℕ) (cs : Offered) (p : Question q qs) (d : Catalogue c cs) where
  -- ---- a query that the views in a set leave uncovered
  shown_by : (set : ℕ) → Leaves set qs cs → Showing set qs cs
  unfolding as_graph
  shown_by set n =
      let s = shows_in q c.file qs cs (question_is q qs p) d.paper set n in
      record {
        first_accepted = s.first_read;
        second_accepted = s.second_read;
        items = s.means.0.same_labels;
        links = λ f. (s.means.0.more f, s.means.1.more f);
        lacks = s.lacks;
        in_first = s.in_first;
        not_in_second = s.not_second;
        equal = λ a l t. s.same (extract_of cs a) (chosen_in set (view_patterns cs) a l ((test_is _).1 t));
        equal_books = λ all. shows_book q c.file qs cs (question_is q qs p) d.paper set n (λ a l. (test_is _).1 (all a l));
        differ = s.differs;
      }

  -- the link that the second record lacks
  lowest_whole : Uncovered qs cs → LowestUnmatched qs (Matched (pattern_of qs) (view_patterns cs)) (lacking qs cs)
  lowest_whole n =
      let Q = pattern_of qs in
      let Ps = view_patterns cs in
      let l = lowest_of q c.file qs cs (question_is q qs p) d.paper n in
      record {
        below = omega (arith, l.below, (question_bounds q qs p).many);
        unmatched = λ m. l.unmatched ((matched_whole Q Ps (link_of qs (lacking qs cs))).1 m);
        lower = λ e h. (matched_whole Q Ps (link_of qs e)).0 (l.lower e h);
      }

  -- the two shown records have the same lists
  same_lists : (set : ℕ) → Leaves set qs cs → (P : Pattern) → In P (views_in_set set (view_patterns cs)) → view_sheet P (graph_of (first_of qs)) ≡ view_sheet P (graph_of (second_in set qs cs))
  same_lists set n P i =
      let s = shows_in q c.file qs cs (question_is q qs p) d.paper set n in
      let e = link_of qs (lacking_in set qs cs) in
      let G = graph_of (first_of qs) in
      let H = as_graph (pattern_of qs) in
      alike_views P G H s.means
      ∙ uncovered_views (pattern_of qs) (views_in_set set (view_patterns cs)) e (lowest_in q c.file qs cs (question_is q qs p) d.paper set n).unmatched P i
      ∙ sym (ap (view_sheet P) s.lacks ∙ alike_views P (without e G) (without e H) (alike_without e G H s.means))

  -- ---- accepted books
  module _ (b bs : List ℕ) (k : Book cs.content b bs) where
    read_back : (choose : Choose) (out : List ℕ) (room : ℕ) → answer_by choose q c b room ≡ give [] (out ∷ [])
        → Sheet qs out (sheet_fields (answer_of (choose (quoted_by qs cs)) qs cs bs))
    unfolding answer_bytes
    read_back choose out room e =
        ⊎_elim
        (λ h.
        let g = given_file room _ out (sym (given_by q c qs cs p d b bs k choose room h) ∙ e) in
        ap (read_sheet qs) g.0 ∙ answer_back cs b bs k q qs p (choose (quoted_by qs cs)) g.1)
        (λ n. absurd (not_refused (sym e ∙ refused_by q c qs cs p d b bs k choose room n)))
        (test_cases (covered_in (choose (quoted_by qs cs)) qs cs))

    -- 11 without a set of the client's
    refused-whole : (room words e : ℕ) → (with_workspace words (answer_outcome q c b room) ≡ refuse 11 e) ↔ ((16384 ≤ words) × Uncovered qs cs × (e ≡ lacking qs cs))
    refused-whole room words e =
        let x = refused_exactly q c qs cs p d b bs k used_by room words e in
        let all : Uncovered qs cs → lacking_in (used_by (quoted_by qs cs)) qs cs ≡ lacking qs cs = λ n. ap (λ (set : ℕ). lacking_in set qs cs) (used_all qs cs n) in (
          λ y. let z = x.0 y in let n = used_leaves qs cs z.1 in (z.0, n, z.2 ∙ all n),
          λ z. x.1 (z.0, rw (used_all qs cs z.1) z.1, z.2 ∙ sym (all z.1)),
        )

-- the lists of all extracts
all_lists : (c : Brought) (cs : Offered) → Catalogue c cs → (G : Graph) → lists_in every_view cs G ≡ view_sheets cs G
unfolding view_sheets
all_lists c cs d G = ap (each (λ P. view_sheet P G)) (chosen_every (view_patterns cs) (few_views c cs d))

-- an answer by a set is the same from sheets that agree on those of the set
pub same_lists_in : (set : ℕ) (qs : List ℕ) (cs : Offered) (bs bs' : List ℕ)
    → ((a : ℕ) → a < length (view_patterns cs) → T (bit set a) → get_or (sheets_in (edge_counts cs.content) bs) a [] ≡ get_or (sheets_in (edge_counts cs.content) bs') a [])
    → answer_of set qs cs bs ≡ answer_of set qs cs bs'
same_lists_in set qs cs bs bs' s =
    ap (answer_sets (pattern_of qs)) (views_same set set (view_patterns cs) (sheets_in (edge_counts cs.content) bs) (sheets_in (edge_counts cs.content) bs') (λ a l. refl) s)

same_answer : (choose : Choose) (q : List ℕ) (c : Brought) (qs : List ℕ) (cs : Offered) (b b' bs bs' : List ℕ) → Question q qs → Catalogue c cs → Book cs.content b bs → Book cs.content b' bs'
    → (Covers (choose (quoted_by qs cs)) qs cs → (a : ℕ) → a < length (view_patterns cs) → T (bit (choose (quoted_by qs cs)) a)
    → get_or (sheets_in (edge_counts cs.content) bs) a [] ≡ get_or (sheets_in (edge_counts cs.content) bs') a [])
    → (room : ℕ) → answer_by choose q c b room ≡ answer_by choose q c b' room
same_answer choose q c qs cs b b' bs bs' p d k k' s room =
    let set = choose (quoted_by qs cs) in
    ⊎_elim
    (λ h.
    given_by q c qs cs p d b bs k choose room h
    ∙ ap (λ ls. fit_file room (sheet_bytes ls)) (same_lists_in set qs cs bs bs' (s h))
    ∙ sym (given_by q c qs cs p d b' bs' k' choose room h))
    (λ n. refused_by q c qs cs p d b bs k choose room n ∙ sym (refused_by q c qs cs p d b' bs' k' choose room n))
    (test_cases (covered_in set qs cs))

-- bits that name no view count for nothing
ignored : (c : Brought) (cs : Offered) → Catalogue c cs → (set set' : ℕ) → ((a : ℕ) → a < length (view_patterns cs) → bit set a ≡ bit set' a) → (q b : List ℕ) (room : ℕ)
    → answer_from q c set b room ≡ answer_from q c set' b room
unfolding answer_by answer_for
ignored c cs d set set' f q b room =
    judged_same (read_pattern q) (λ qs _.
    offered_goes_on c cs d (λ o. answer_for (λ _. set) b room (quoted_by qs o))
    ∙ judged_same (read_book cs.content b) (λ bs _. answer_alike set set' qs cs bs room f)
    ∙ sym (offered_goes_on c cs d (λ o. answer_for (λ _. set') b room (quoted_by qs o))))

pub no_function : (q : List ℕ) (c : Brought) (qs : List ℕ) (cs : Offered) → Question q qs → Catalogue c cs → (set : ℕ) → Leaves set qs cs → (F : List (List (List ℕ)) → List ℕ)
    → ((r rs : List ℕ) → Record r rs → F (lists_in set cs (graph_of rs)) ≡ sheet_bytes (match_sets (pattern_of qs) (graph_of rs))) → ⊥
no_function q c qs cs p d set n F h =
    let s = shown_by q c qs cs p d set n in
    s.differ
    (sym (h (record_bytes (first_of qs)) (first_of qs) s.first_accepted)
    ∙ ap F (each_same (λ P. view_sheet P (graph_of (first_of qs))) (λ P. view_sheet P (graph_of (second_in set qs cs))) (views_in_set set (view_patterns cs)) (same_lists q c qs cs p d set n))
    ∙ h (record_bytes (second_in set qs cs)) (second_in set qs cs) s.second_accepted)

pub demand_3 : Demand3
demand_3 = record {
  covered_by = λ way q c r qs cs rs p d f set h l room words. ap (with_workspace words) (answer_search q c qs cs p d r rs f (λ _. set) h l room ∙ sym (way_same way q r rs f room));
  refused_by = λ q c b qs cs bs p d k set room words e. refused_exactly q c qs cs p d b bs k (λ _. set) room words e;
  lowest_by = λ q c qs cs p d set n. lowest_plain q c qs cs p d set n;
  covered = λ way q c r qs cs rs p d f h l room words.
      ap (with_workspace words) (answer_search q c qs cs p d r rs f used_by (used_covers qs cs h) l room ∙ sym (way_same way q r rs f room));
  fits = λ c r cs rs d f l. (book_fields (view_sheets cs (graph_of rs)), made_book c r cs rs d f l, made_sheets c r cs rs d f);
  shows = λ w q c qs cs p d y n room room' words. ap (with_workspace words) (show_goes_on w q c qs cs p d y room room' ∙ shows_both (usable_when w cs) qs cs room room' n);
  uncovered = λ q c qs cs p d set n. shown_by q c qs cs p d set n;
  lowest = λ q c qs cs p d n. lowest_whole q c qs cs p d n;
  shows_covered = λ w q c qs cs p d y room room' words e. shows_exactly (usable_when w cs) qs cs room room' (show_when w q c room room') (show_goes_on w q c qs cs p d y room room') words e;
  refused = λ q c b qs cs bs p d k room words e. refused-whole q c qs cs p d b bs k room words e;
}

pub answers : (L : Edge → Pair → Type 0) → Answering L
answers L = record {
  joins = answer_joins L;
  same = same_answer;
  chooses = used_chosen;
  chooses_all = used_all;
  ignores = ignored;
  back = λ choose q c b qs cs bs out p d k room e. read_back q c qs cs p d b bs k choose out room e;
  answer_length = answer_size;
  no_other_way_in = no_function;
  no_other_way = λ q c qs cs p d n F h. no_function q c qs cs p d every_view n F (λ r rs f. ap F (all_lists c cs d (graph_of rs)) ∙ h r rs f);
}
