-- Answering from a book: the views in a set and their sheets, the book that is made from a record, and that every answer is a sheet.
use Prim.Native.Nat.{ℕ, ◌+◌, ◌/◌, ◌%◌, ◌^◌, ◌<◌, ◌≤◌}
use mathlib.Core.Path.{◌≡◌, refl, sym, ap, ap₂, subst, ◌∙◌}
use mathlib.Core.Bool.{Bool, true, false}
use mathlib.Core.List.{List, [], ◌∷◌}
use lib.ListN.{length, drop, get_or, length-map}
use lib.Seq.{get_or-drop}
use lib.Dec.{T, eqb, ltb, ltb→lt, lt→ltb}
use lib.Pow.{shr-shr}
use borrow.Author.Tests.{le-ltb}
use native.Mathlib.Omega.{arith}
use Rattle.packed.specs.Format.{ok, pick, decode}
use Rattle.packed.specs.Formats.{pattern, record', book}
use Rattle.packed.specs.Contents.{edges_of, views_of, edge_counts, sheets_in, sheet_fields, member}
use Rattle.packed.specs.Walks.{lists_first}
use Rattle.packed.specs.BookSheets.{list_at, sheet_at}
use Rattle.packed.specs.Matches.{all_or_none}
use Rattle.packed.specs.Plain.{PlainPattern}
use Rattle.packed.specs.Calls.{Outcome, give, refuse, accepted, judged, read_sheet, pairs_of, within_pairs_by, fit_file}
use Rattle.packed.proofs.DistinctLaws.{member_distinct}
use Rattle.packed.proofs.SheetLaws.{all_twice, sheet_encodes}
use Rattle.packed.proofs.Accepted.{pattern_accepted, record_accepted, sheet_accepted, book_accepted, pattern_read_lem, record_read_lem, sheet_read_lem, book_read_lem}
use Rattle.packed.proofs.AcceptedBounds.{catalogue_views}
use Rattle.packed.proofs.WalkLaws.{book_pairs_lem}
use Rattle.packed.proofs.BookSheetLaws.{sheets_back, list_is, list_stands, list_small, list_in_book}
use Rattle.packed.proofs.CallLaws.{judged_accepted, over_file, over_file_no, fit_file_fits}
use Rattle.engine.specs.Lists.{In, keep, each}
use Rattle.engine.specs.Simulation.{both_ways, Pattern, Graph, bit, pattern_of, graph_of, sound, match_sets, view_sheet}
use Rattle.matching.specs.Join.{View, covered, answer_sets}
use Rattle.matching.proofs.ByEdge.{view_of}
use Rattle.matching.specs.Search.{sheet_bytes, view_sheets, search_outcome}
use Rattle.engine.proofs.ListLaws.{keep_in, in_keep, keep_length, length_each}
use Rattle.engine.proofs.CodeLaws.{in_member, member_in}
use Rattle.matching.proofs.PatternLaws.{pattern_is, edges_in_lem, edges_many, sound_of}
use Rattle.matching.proofs.RecordLaws.{graph_narrow}
use Rattle.matching.proofs.SheetBytes.{SheetFields, sheet_by, fit_by}
use Rattle.matching.proofs.BookBytes.{book_fields, counts_are, made_back, made_few}
use Rattle.matching.proofs.JoinLaws.{answer_each}
use Rattle.matching.proofs.AnswerLaws.{AnswerStands, answer_all_or_none, answer_listable}
use Rattle.matching.proofs.Covered.{covered_answer}
use Rattle.matching.specs.Offered.{Brought, Offered, offers, view_patterns, with_set, offered}
use Rattle.matching.proofs.OfferedLaws.{views_number, set_judges}
use Rattle.containment.specs.Choice.{every_view, covers_in}
use Rattle.containment.specs.Quote.{mapping, quoted_by, views_in_set}
use Rattle.containment.specs.Answer.{views_in, answer_bytes, Choose, answer_in, answer_for, answer_by}
use Rattle.answering.specs.Demands.{Question, Catalogue, Record, Book, Covers, Leaves, book_of, lacking_in}
use Rattle.containment.proofs.ChoiceLaws.{covers_alike, lowest_alike}
use Rattle.answering.proofs.CandidateLaws.{views_say}
use Rattle.answering.proofs.QuoteLaws.{place_of, set_covers_exactly}

-- ---- the views in a set

-- with their sheets on a graph
pub sets_chosen : (set : ℕ) (G : Graph) (Ps : List Pattern) → views_in set Ps (each (λ P. view_sheet P G) Ps) ≡ each (view_of G) (views_in_set set Ps)
unfolding views_in views_in_set each view_of
sets_chosen set G [] = refl
sets_chosen set G (P ∷ Ps) = step (bit set 0) (views_in_set (set / 2) Ps) (sets_chosen (set / 2) G Ps)
  where
    step : (b : Bool) {x : List View} (l : List Pattern) → x ≡ each (view_of G) l → pick b (view_of G P ∷ x) x ≡ each (view_of G) (pick b (P ∷ l) l)
    step true l e = ap (λ (t : List View). view_of G P ∷ t) e
    step false l e = e

abbrev with_sheet : Pattern → List (List ℕ) → View
with_sheet P ls = record { pattern = P; sheet = ls }

-- the numbers of the set from 1 on, each one lower
next_bit : (set a : ℕ) → bit set (1 + a) ≡ bit (set / 2) a
unfolding bit
next_bit set a = ap (λ (x : ℕ). eqb (x % 2) 1) (sym (shr-shr set 1 a))

-- only the numbers of views count, and only the sheets of those in the set
pub views_same : (set set' : ℕ) (Ps : List Pattern) (xs ys : List (List (List ℕ))) → ((a : ℕ) → a < length Ps → bit set a ≡ bit set' a)
    → ((a : ℕ) → a < length Ps → T (bit set a) → get_or xs a [] ≡ get_or ys a []) → views_in set Ps xs ≡ views_in set' Ps ys
unfolding views_in
views_same set set' [] xs ys f h = refl
views_same set set' (P ∷ Ps) xs ys f h =
    step (bit set 0) (f 0 (omega arith)) (h 0 (omega arith))
    (views_same (set / 2) (set' / 2) Ps (drop 1 xs) (drop 1 ys) (λ a l. sym (next_bit set a) ∙ f (1 + a) (omega arith) ∙ next_bit set' a)
    (λ a l t. get_or-drop 1 xs a [] ∙ h (1 + a) (omega arith) (subst T (sym (next_bit set a)) t) ∙ sym (get_or-drop 1 ys a [])))
  where
    step : (b : Bool) {b' : Bool} {x y : List (List ℕ)} {s t : List View} → b ≡ b' → (T b → x ≡ y) → s ≡ t
        → pick b (with_sheet P x ∷ s) s ≡ pick b' (with_sheet P y ∷ t) t
    step true q f e = rw (← q) (ap₂ (λ (m : List (List ℕ)) (l : List View). with_sheet P m ∷ l) (f tt) e)
    step false q f e = rw (← q) e

-- ---- accepted files
pub question_is : (q qs : List ℕ) → Question q qs → decode pattern q ≡ ok qs
question_is q qs h = (pattern_accepted q qs).1 ((pattern_read_lem q qs).0 h).1

pub record_is : (r rs : List ℕ) → Record r rs → decode record' r ≡ ok rs
record_is r rs h = (record_accepted r rs).1 ((record_read_lem r rs).0 h).1

pub book_is : (cs b bs : List ℕ) → Book cs b bs → decode (book (edge_counts cs)) b ≡ ok bs
book_is cs b bs h = (book_accepted (edge_counts cs) b bs).1 ((book_read_lem cs b bs).0 h.read).1

-- what a catalogue offers goes on: its set, and both
module _ (c : Brought) (cs : Offered) (h : Catalogue c cs) (k : Offered → Outcome) where
  pub set_goes_on : with_set c.one_way cs.content k ≡ k cs
  set_goes_on =
      judged_accepted (λ _. k (offers cs.content c.one_way)) ((set_judges c.one_way (length (views_of cs.content))).right h.named)
      ∙ ap (λ (one : ℕ). k (offers cs.content one)) (sym h.set)

  pub offered_goes_on : offered c k ≡ k cs
  offered_goes_on = judged_accepted (λ ws. with_set c.one_way ws k) h.paper ∙ set_goes_on

-- what a query keeps
pub record QueryBounds (qs : List ℕ) : Type 0 where
  pub sound : T (sound (pattern_of qs))
  pub few_nodes : length (pattern_of qs).labels ≤ 4096
  pub few_edges : length (pattern_of qs).edges ≤ 32
  pub many : length (pattern_of qs).edges ≡ edges_of qs

plain_bounds : {qs : List ℕ} {bs : List Bool} → PlainPattern qs bs → QueryBounds qs
plain_bounds q = record {
  sound = sound_of q;
  few_nodes = omega (arith, ap (λ (P : Pattern). length P.labels) (pattern_is q), q.label_each, q.most_nodes);
  few_edges = omega (arith, edges_many q, edges_in_lem q, q.most_edges);
  many = edges_many q;
}

pub question_bounds : (q qs : List ℕ) → Question q qs → QueryBounds qs
question_bounds q qs h = plain_bounds ((pattern_read_lem q qs).0 h).1.laid

pub few_views : (c : Brought) (cs : Offered) → Catalogue c cs → length (view_patterns cs) ≤ 16
few_views c cs h = let v = catalogue_views c.file cs.content h.paper in omega (arith, views_number cs, v.many, v.most)

-- a query is matched both ways, so that no view has a stronger rule, whether it is matched both ways or one-way
pub query_rule : (qs : List ℕ) → (pattern_of qs).rule ≡ both_ways
unfolding pattern_of
query_rule qs = refl

-- ---- the book that is made from a record

module _ (c : Brought) (r : List ℕ) (cs : Offered) (rs : List ℕ) (d : Catalogue c cs) (f : Record r rs) where
  -- its sheets are the views' match sets
  pub made_sheets : sheets_in (edge_counts cs.content) (book_fields (view_sheets cs (graph_of rs))) ≡ view_sheets cs (graph_of rs)
  made_sheets = rw (counts_are c.file r cs.content rs cs.one_way d.paper (record_is r rs f)) (sheets_back (view_sheets cs (graph_of rs)))

  -- it is accepted, and not crowded
  pub made_book : length (book_of cs rs) ≤ 65536 → Book cs.content (book_of cs rs) (book_fields (view_sheets cs (graph_of rs)))
  made_book h = record {
    read = made_back c.file r cs.content rs cs.one_way d.paper (record_is r rs f) h;
    few = made_few c.file r cs.content rs cs.one_way d.paper (record_is r rs f);
  }

-- ---- what is answered from an accepted book

-- only the numbers of views count in a set
pub answer_alike : (set set' : ℕ) (qs : List ℕ) (cs : Offered) (bs : List ℕ) (room : ℕ) → ((a : ℕ) → a < length (view_patterns cs) → bit set a ≡ bit set' a)
    → answer_in set (quoted_by qs cs) bs room ≡ answer_in set' (quoted_by qs cs) bs room
unfolding answer_in answer_bytes
answer_alike set set' qs cs bs room f =
    let Ps = view_patterns cs in
    let t = mapping (pattern_of qs) Ps in
    let sheets = sheets_in (edge_counts cs.content) bs in
    rw (covers_alike t set set' (length Ps) f (edges_of qs), lowest_alike t set set' (length Ps) f (edges_of qs), views_same set set' Ps sheets sheets f (λ a l _. refl))

-- whether the views in a set cover the query, and whether all do
abbrev pub covered_in : ℕ → List ℕ → Offered → Bool
covered_in set qs cs = covers_in (mapping (pattern_of qs) (view_patterns cs)) set (length (view_patterns cs)) (edges_of qs)

abbrev pub covered_by : List ℕ → Offered → Bool
covered_by qs cs = covered_in every_view qs cs

module _ (q : List ℕ) (c : Brought) (qs : List ℕ) (cs : Offered) (p : Question q qs) (d : Catalogue c cs) where
  module _ (b bs : List ℕ) (k : Book cs.content b bs) (choose : Choose) (room : ℕ) where
    answer_by_lem : answer_by choose q c b room
        ≡ pick (covered_in (choose (quoted_by qs cs)) qs cs) (fit_file room (answer_bytes qs (choose (quoted_by qs cs)) (view_patterns cs) (sheets_in (edge_counts cs.content) bs))) (refuse 11 (lacking_in (choose (quoted_by qs cs)) qs cs))
    unfolding answer_by answer_for answer_in within_pairs_by
    answer_by_lem =
        judged_accepted (λ qs. offered c (λ o. answer_for choose b room (quoted_by qs o))) p
        ∙ offered_goes_on c cs d (λ o. answer_for choose b room (quoted_by qs o))
        ∙ judged_accepted (λ bs. answer_in (choose (quoted_by qs cs)) (quoted_by qs cs) bs room) k.read
        ∙ rw (le-ltb 8192 (length (pairs_of (edge_counts cs.content) bs)) k.few)

    -- where the set covers the query it is the sheet, fitted
    pub answer_covered : Covers (choose (quoted_by qs cs)) qs cs → answer_by choose q c b room ≡ fit_file room (answer_bytes qs (choose (quoted_by qs cs)) (view_patterns cs) (sheets_in (edge_counts cs.content) bs))
    answer_covered h = answer_by_lem ∙ rw h

    -- else 11 with the lowest edge that it leaves unmatched
    pub answer_uncovered : Leaves (choose (quoted_by qs cs)) qs cs → answer_by choose q c b room ≡ refuse 11 (lacking_in (choose (quoted_by qs cs)) qs cs)
    answer_uncovered h = answer_by_lem ∙ rw h

  -- ---- from the book of a record
  module _ (r rs : List ℕ) (f : Record r rs) where
    pub search_found : (room : ℕ) → search_outcome q r room ≡ fit_file room (sheet_bytes (match_sets (pattern_of qs) (graph_of rs)))
    unfolding search_outcome judged
    search_found room = rw (p, f)

    -- by the views in a set that covers the query: the sheet that a search gives
    pub covered_bytes : (set : ℕ) → Covers set qs cs → answer_bytes qs set (view_patterns cs) (view_sheets cs (graph_of rs)) ≡ sheet_bytes (match_sets (pattern_of qs) (graph_of rs))
    unfolding answer_bytes view_sheets
    covered_bytes set h =
        let Q = pattern_of qs in
        let z = question_bounds q qs p in
        let k : T (covered Q (views_in_set set (view_patterns cs))) = (set_covers_exactly Q (view_patterns cs) set (few_views c cs d) z.few_edges).0 (rw z.many h) in
        ap sheet_bytes
        (ap (answer_sets Q) (sets_chosen set (graph_of rs) (view_patterns cs))
        ∙ covered_answer Q (views_in_set set (view_patterns cs)) z.sound z.few_nodes (λ P i b. query_rule qs) k (graph_of rs) (graph_narrow r rs (record_is r rs f)))

    pub answer_search : (choose : Choose) → Covers (choose (quoted_by qs cs)) qs cs → length (book_of cs rs) ≤ 65536 → (room : ℕ)
        → answer_by choose q c (book_of cs rs) room ≡ search_outcome q r room
    answer_search choose h l room =
        answer_covered (book_of cs rs) (book_fields (view_sheets cs (graph_of rs))) (made_book c r cs rs d f l) choose room h
        ∙ ap (λ (sheets : List (List (List ℕ))). fit_file room (answer_bytes qs (choose (quoted_by qs cs)) (view_patterns cs) sheets)) (made_sheets c r cs rs d f)
        ∙ ap (fit_file room) (covered_bytes (choose (quoted_by qs cs)) h)
        ∙ sym (search_found room)

-- ---- an answer from any accepted book is a sheet

module _ (cs : Offered) (b bs : List ℕ) (k : Book cs.content b bs) where
  abbrev counts : List ℕ
  counts = edge_counts cs.content

  abbrev sheets : List (List (List ℕ))
  sheets = sheets_in counts bs

  decoded : decode (book counts) b ≡ ok bs
  decoded = book_is cs.content b bs k

  -- those pairs of the book that 24 bits hold, among them all that its lists have
  pool : List ℕ
  pool = keep (λ x. ltb x (2 ^ 24)) (pairs_of counts bs)

  -- the pairs of a sheet's list are in it
  list_pool : (a f x : ℕ) → a < length counts → In x (get_or (get_or sheets a []) f []) → In x pool
  unfolding pool pairs_of
  list_pool a f x h i =
      let l = list_stands counts b bs decoded a f x h (in_member i) in
      let m : member x (list_at b (lists_first (sheet_at b 0 counts a)) f) ≡ true = ap (member x) (list_is counts b bs decoded a f h l) ∙ in_member i in
      in_keep (λ y. ltb y (2 ^ 24))
      (member_in _ (member_distinct x _ ∙ ap (member x) (sym (book_pairs_lem counts b bs decoded)) ∙ list_in_book counts b bs decoded a f h l x m))
      (lt→ltb x (2 ^ 24) (list_small counts b bs decoded a f h l x m))

  stands_pool : (set : ℕ) (x : ℕ) → AnswerStands (views_in set (view_patterns cs) sheets) x → In x pool
  unfolding edge_counts
  stands_pool set x s =
      let v = views_say set (view_patterns cs) sheets s.given in
      let sheet : s.view.sheet ≡ get_or sheets v.at [] = ap (λ (w : View). w.sheet) v.holds.1 in
      let h : v.at < length counts = omega (arith, v.below, views_number cs, length-map (views_of cs.content) edges_of) in
      let o = place_of [] s.of_view in
      list_pool v.at o.at x h
      (subst (λ l. In x l) (o.holds ∙ ap (λ (ls : List (List ℕ)). get_or ls o.at []) sheet) s.here)

  pub answer_sheet : (Q : Pattern) (set : ℕ) → SheetFields (answer_sets Q (views_in set (view_patterns cs) sheets))
  unfolding pool
  answer_sheet Q set =
      let vs = views_in set (view_patterns cs) sheets in
      let ls = answer_sets Q vs in
      let e = answer_all_or_none Q vs in
      let few : length pool ≤ 8192 = omega (arith, keep_length (λ x. ltb x (2 ^ 24)) (pairs_of counts bs), k.few) in
      let small : (x : ℕ) → In x pool → x < 2 ^ 24 = λ x i. ltb→lt x (2 ^ 24) (keep_in (λ y. ltb y (2 ^ 24)) (pairs_of counts bs) i).1 in
      sheet_by (length ls) ls refl
      (sheet_encodes (length ls) ls refl (fit_by ls (answer_listable Q vs pool few small (stands_pool set))) (ap all_or_none e ∙ all_twice _ ∙ sym e))

  -- it is read back beside its query
  pub answer_back : (q qs : List ℕ) → Question q qs → (set : ℕ) → length (answer_bytes qs set (view_patterns cs) sheets) ≤ 65536
      → read_sheet qs (answer_bytes qs set (view_patterns cs) sheets) ≡ accepted (sheet_fields (answer_sets (pattern_of qs) (views_in set (view_patterns cs) sheets)))
  unfolding answer_bytes
  answer_back q qs p set h =
      let Q = pattern_of qs in
      let vs = views_in set (view_patterns cs) sheets in
      let ls = answer_sets Q vs in
      let n : length ls ≡ edges_of qs = ap length (answer_each Q vs) ∙ length_each _ Q.edges ∙ (question_bounds q qs p).many in
      (sheet_read_lem qs (sheet_bytes ls) (sheet_fields ls)).1 (h, (sheet_accepted (edges_of qs) (sheet_bytes ls) (sheet_fields ls)).0 (rw n at (answer_sheet Q set).back))

-- what is given, of a file, is the file, and it isn't too long
pub given_file : (room : ℕ) (o out : List ℕ) → fit_file room o ≡ give [] (out ∷ []) → (out ≡ o) × (length o ≤ 65536)
given_file room o out e = step (over_file room (length o)) refl (sym (fit_file_fits.is room o) ∙ e)
  where
    step : (t : Bool) → over_file room (length o) ≡ t → pick t (refuse 12 (length o)) (give [] (o ∷ [])) ≡ give [] (out ∷ []) → (out ≡ o) × (length o ≤ 65536)
    step true h g = absurd (let z : ◌≡◌ {A = ℕ} 0 1 = cc in omega arith)
    step false h g = (cc, (over_file_no room (length o) h).1)
