-- The part of a question that the extracts answer: what the call gives, what it is, and that nothing larger is answered.
use Prim.Native.Nat.{ℕ, ◌+◌, ◌*◌, ◌<◌, ◌≤◌}
use mathlib.Core.Path.{◌≡◌, refl, sym, ap, ap₂, subst, subst₂, ◌∙◌}
use mathlib.Core.Bool.{Bool, true, false}
use mathlib.Core.Logic.{◌⊎◌, inl, inr, ◌↔◌, ⊎_elim}
use mathlib.Core.List.{List, [], ◌∷◌}
use lib.ListN.{length, get_or}
use lib.Dec.{T}
use native.Mathlib.Omega.{arith}
use borrow.Author.Tests.{lt-ltb, le-ltb}
use Rattle.packed.specs.Format.{pick, encode}
use Rattle.packed.specs.Formats.{pattern}
use Rattle.packed.specs.Contents.{edges_of, edge_counts}
use Rattle.packed.specs.Plain.{Below, PlainPattern}
use Rattle.packed.specs.Calls.{Outcome, give, refuse, with_workspace, accepted, read_book, within_pairs_by, fit_file, bytes_in}
use Rattle.packed.proofs.OrderCases.{lt_or_ge}
use Rattle.packed.proofs.CallLaws.{within_pairs_is}
use Rattle.packed.proofs.CallRoundTrips.{fit_file_given}
use Rattle.packed.proofs.RoundTrip.{decode_encode}
use Rattle.packed.proofs.Accepted.{pattern_read_lem}
use Rattle.engine.specs.Lists.{In, some, keep}
use Rattle.engine.specs.Simulation.{Edge, no_edge, Pattern, bit, pattern_of, graph_of, ascending, match_sets}
use Rattle.matching.specs.Join.{covered}
use Rattle.matching.specs.Offered.{Brought, Offered, view_patterns}
use Rattle.matching.specs.Search.{sheet_bytes}
use Rattle.matching.specs.Part.{rank, number, moved, part_of, pattern_fields, pattern_bytes, touches}
use Rattle.engine.proofs.ByEdge.{row_of}
use Rattle.engine.proofs.ListLaws.{in_at, some_in, in_some, in_keep}
use Rattle.engine.proofs.UpToLaws.{get_d_up_to}
use Rattle.engine.proofs.MatchLaws.{SoundPattern, sound_say}
use Rattle.matching.proofs.MatchSetLaws.{set_at}
use Rattle.matching.proofs.PlaceLaws.{rank_most, rank_rises, rank_apart}
use Rattle.matching.proofs.PartLaws.{touches_at, part_number, part_edge, part_labels, part_lists_more, covered_inside, had_covered, had_whole}
use Rattle.matching.proofs.PatternBytes.{WellFormed, formed_of, content_back, formed_read, formed_means, part_formed}
use Rattle.containment.specs.Choice.{covers_in, every_view}
use Rattle.containment.specs.Quote.{mask_at, mapping, quoted_in, views_in_set, used_by}
use Rattle.containment.specs.Answer.{answer_bytes, answer_in, answer_for, answer_from}
use Rattle.containment.specs.Part.{part_from, part_bytes, part_quoted, with_first, fit_part, part_for}
use Rattle.answering.specs.Demands.{Question, Catalogue, Record, Book, ManyPairs, link_of, Covers, chosen_in, answer_of, sheet_of, lists_in, When, usable_when, part_when, Timely, Full, Fitted, Matched, choice_of, choice_file, matched_link, part_of_question, part_file, part_answer, LinkFrom, item_number, item_kind, SameLink, SomeMatched, NoneMatched, OverPart, Parts}
use Rattle.containment.proofs.SetBits.{test_cases, never}
use Rattle.containment.proofs.ChoiceLaws.{used_covered, chosen_covers}
use Rattle.answering.proofs.QuoteLaws.{test_is, place_of, set_covers_exactly}
use Rattle.answering.proofs.PartTable.{usable_sound, had_row}
use Rattle.answering.proofs.CoveredBytes.{question_is, question_bounds, few_views, covered_in}
use Rattle.answering.proofs.DemandRules.{number_same, detail_same, not_refused, goes_on, bytes_by, enough_words, enough_for, full_same, full_words, full_judged, full_within_pairs, fitted_by, file_tight, many_pairs_exactly, matched_whole, used_chosen, used_covers, given_by}
use Rattle.answering.proofs.WhenLaws.{goes_on_when, part_by, full_when}
use Rattle.answering.proofs.DemandSheets.{views_sound}
use Rattle.answering.proofs.DemandThree.{no_function, demand_3}

-- ---- a choice of links
module _ (q qs : List ℕ) (p : Question q qs) where
  abbrev Q : Pattern
  Q = pattern_of qs

  plain : PlainPattern qs ((pattern_read_lem q qs).0 p).1.body
  plain = ((pattern_read_lem q qs).0 p).1.laid

  formed : WellFormed Q
  formed = formed_of plain

  many : length Q.edges ≡ edges_of qs
  many = (question_bounds q qs p).many

  module _ (takes : Edge → Bool) where
    abbrev P : Pattern
    P = part_of takes Q

    -- how many links it has
    number_of : edges_of (choice_of takes qs) ≡ length P.edges
    unfolding pattern_fields
    number_of = refl

    taken-formed : (v : ℕ) → v < edges_of qs → T (takes (link_of qs v)) → WellFormed P
    taken-formed v l t = part_formed Q formed takes (in_at Q.edges v no_edge (omega (arith, many))) t

    choice-means : (v : ℕ) → v < edges_of qs → T (takes (link_of qs v)) → pattern_of (choice_of takes qs) ≡ P
    unfolding part_of
    choice-means v l t = formed_means P (taken-formed v l t) qs refl

    choice-read : (v : ℕ) → v < edges_of qs → T (takes (link_of qs v)) → Question (choice_file takes qs) (choice_of takes qs)
    choice-read v l t = formed_read P (taken-formed v l t)

    choice-from : (i : ℕ) → i < edges_of (choice_of takes qs) → (v : ℕ) × LinkFrom takes qs i v
    choice-from i l =
        let o = part_edge Q formed.sound takes i (omega (arith, number_of)) in
        (o.0, record { below = omega (arith, o.1, many); taken = o.2; place = o.3 })

    choice-to : (v : ℕ) → v < edges_of qs → T (takes (link_of qs v)) → (i : ℕ) × (i < edges_of (choice_of takes qs)) × LinkFrom takes qs i v
    choice-to v l t = (
      rank (λ u. takes (link_of qs u)) v,
      omega (arith, rank_rises (λ u. takes (link_of qs u)) v (length Q.edges) t (omega (arith, many)), part_number Q formed.sound takes, number_of),
      record { below = l; taken = t; place = refl },
    )

    -- each of its links is the one that it came from
    choice-edge : (i v : ℕ) → LinkFrom takes qs i v → link_of (choice_of takes qs) i ≡ moved (number (keep takes Q.edges)) (link_of qs v)
    choice-edge i v f =
        let at : ℕ → Bool = λ u. takes (link_of qs u) in
        let l : v < length Q.edges = omega (arith, f.below, many) in
        let o = part_edge Q formed.sound takes i (omega (arith, rank_rises at v (length Q.edges) f.taken l, f.place, part_number Q formed.sound takes)) in
        let e : o.0 ≡ v = rank_apart at o.0 v o.2 f.taken (o.3 ∙ sym f.place) in
        ap (λ (R : Pattern). get_or R.edges i no_edge) (choice-means v f.below f.taken)
        ∙ o.4
        ∙ ap (λ (u : ℕ). moved (number (keep takes Q.edges)) (get_or Q.edges u no_edge)) e

    choice-link : (i v : ℕ) → LinkFrom takes qs i v → SameLink takes qs (link_of (choice_of takes qs) i) (link_of qs v)
    choice-link i v f =
        let e = choice-edge i v f in
        let m = choice-means v f.below f.taken in
        let k = part_labels Q formed.sound takes (in_at Q.edges v no_edge (omega (arith, f.below, many))) f.taken in
        let kind-at : (n m : ℕ) → n ≡ item_number takes qs m → get_or P.labels (item_number takes qs m) 0 ≡ get_or Q.labels m 0 → item_kind (choice_of takes qs) n ≡ item_kind qs m =
        λ n u z y. ap₂ (λ (R : Pattern) (j : ℕ). get_or R.labels j 0) m z ∙ y in
        record {
          kind = ap (λ (g : Edge). g.kind) e;
          from = ap (λ (g : Edge). g.from) e;
          to = ap (λ (g : Edge). g.to) e;
          from_kind = kind-at _ _ (ap (λ (g : Edge). g.from) e) k.0;
          to_kind = kind-at _ _ (ap (λ (g : Edge). g.to) e) k.1;
        }

    -- on any graph it lists at least what the question lists
    choice-lists : (rs : List ℕ) (i v : ℕ) → LinkFrom takes qs i v → (x : ℕ) → In x (get_or (match_sets Q (graph_of rs)) v []) → In x (get_or (match_sets (pattern_of (choice_of takes qs)) (graph_of rs)) i [])
    choice-lists rs i v f x j =
        let G = graph_of rs in
        let R = pattern_of (choice_of takes qs) in
        let m = choice-means v f.below f.taken in
        let l : v < length Q.edges = omega (arith, f.below, many) in
        let n : i < length R.edges = omega (arith, rank_rises (λ u. takes (link_of qs u)) v (length Q.edges) f.taken l, f.place, part_number Q formed.sound takes, ap (λ (S : Pattern). length S.edges) m) in
        subst (λ ls. In x ls) (sym (set_at R G i n))
        (subst₂ (λ (S : Pattern) e. In x (ascending (row_of S G e))) (sym m) (sym (choice-edge i v f))
        (part_lists_more Q formed.sound takes G (in_at Q.edges v no_edge l) f.taken (subst (λ ls. In x ls) (set_at Q G v l) j)))

numbered_upward : (takes : Edge → Bool) (qs : List ℕ) (e : Edge) → In e (pattern_of qs).edges → T (takes e) → (u w : ℕ) → (e.from ≡ u) ⊎ (e.to ≡ u) → u < w
    → item_number takes qs u < item_number takes qs w
numbered_upward takes qs e i t u w c h =
    let es = keep takes (pattern_of qs).edges in
    rank_rises (touches es) u w (touches_at es (e, in_keep takes i t, c)) h

-- ---- tables
covers_none : (t : List ℕ) (set k : ℕ) → covers_in t set k 0 ≡ true
unfolding covers_in
covers_none t set k = refl

mapping_at : (P : Pattern) (Ps : List Pattern) (k : ℕ) → k < 512 → get_or (mapping P Ps) k 0 ≡ mask_at P Ps k
unfolding mapping
mapping_at P Ps k h = get_d_up_to (mask_at P Ps) 512 k 0 h

-- ---- the part and its answer, fitted
module _ (room : ℕ) (o : List ℕ) where
  part_tight : (a : Outcome) → room < length o → fit_part room o a ≡ refuse 12 (length o)
  unfolding fit_part
  part_tight a h = rw (lt-ltb room (length o) h)

  part_loose : (a : Outcome) → length o ≤ room → fit_part room o a ≡ with_first o a
  unfolding fit_part
  part_loose a h = rw (le-ltb room (length o) h)

  module _ (room' : ℕ) (o' : List ℕ) (h : length o ≤ room) where
    second_tight : (room' < length o') ⊎ (65536 < length o') → fit_part room o (fit_file room' o') ≡ refuse 12 (length o')
    unfolding with_first
    second_tight t = part_loose _ h ∙ ap (with_first o) (file_tight room' o' t)

    both_given : length o' ≤ room' → length o' ≤ 65536 → fit_part room o (fit_file room' o') ≡ give [] (o ∷ o' ∷ [])
    unfolding with_first
    both_given k l = part_loose _ h ∙ ap (with_first o) (fit_file_given room' o' k l)

  fitted_part : (a : Outcome) (words room' : ℕ) (o' : List ℕ) → a ≡ fit_part room o (fit_file room' o')
      → Fitted words (OverPart room room' o o') (o ∷ o' ∷ []) (with_workspace words a)
  fitted_part a words room' o' e =
      ⊎_elim
      (λ (h : room < length o). fitted_by words a (length o) (inl (e ∙ part_tight _ h, inl (h, refl)))
      (λ d. ⊎_elim (λ x. x.1) (λ x. absurd (let l = x.0 in omega arith))))
      (λ (h : length o ≤ room). fitted_by words a (length o')
      (⊎_elim
      (λ (k : room' < length o'). inl (e ∙ second_tight room' o' h (inl k), inr (h, (inl k, refl))))
      (λ (k : length o' ≤ room'). ⊎_elim
      (λ (l : 65536 < length o'). inl (e ∙ second_tight room' o' h (inr l), inr (h, (inr l, refl))))
      (λ (l : length o' ≤ 65536). inr (e ∙ both_given room' o' h k l, ⊎_elim (λ x. let z = x.0 in omega arith) (λ x. ⊎_elim (λ (z : room' < length o'). omega arith) (λ (z : 65536 < length o'). omega arith) x.1.0)))
      (lt_or_ge 65536 (length o')))
      (lt_or_ge room' (length o')))
      (λ d. ⊎_elim (λ x. absurd (let l = x.0 in omega arith)) (λ x. x.1.1)))
      (lt_or_ge room (length o))

  -- what is refused is 12
  part_refuses : (room' : ℕ) (o' : List ℕ) {n d : ℕ} → fit_part room o (fit_file room' o') ≡ refuse n d → n ≡ 12
  part_refuses room' o' e =
      ⊎_elim
      (λ (h : room < length o). number_same (sym e ∙ part_tight _ h))
      (λ (h : length o ≤ room). ⊎_elim
      (λ (k : room' < length o'). number_same (sym e ∙ second_tight room' o' h (inl k)))
      (λ (k : length o' ≤ room'). ⊎_elim
      (λ (l : 65536 < length o'). number_same (sym e ∙ second_tight room' o' h (inr l)))
      (λ (l : length o' ≤ 65536). absurd (not_refused (sym (both_given room' o' h k l) ∙ e)))
      (lt_or_ge 65536 (length o')))
      (lt_or_ge room' (length o')))
      (lt_or_ge room (length o))

-- ---- accepted files are handed on
-- what is answered by a set of views, from an accepted book, once question and catalogue are accepted
answer_for_lem : (set : ℕ) (qs : List ℕ) (cs : Offered) (b bs : List ℕ) → Book cs.content b bs → (room : ℕ) → Covers (used_by (quoted_in set qs cs)) qs cs
    → answer_for used_by b room (quoted_in set qs cs) ≡ fit_file room (sheet_bytes (answer_of (used_by (quoted_in set qs cs)) qs cs bs))
unfolding answer_for answer_in answer_bytes
answer_for_lem set qs cs b bs k room h = goes_on _ k.read ∙ within_pairs_is (edge_counts cs.content) bs _ k.few ∙ rw h

part_goes_on : (w : When) (q : List ℕ) (c : Brought) (qs : List ℕ) (cs : Offered) → Question q qs → Catalogue c cs → Timely cs w → (b : List ℕ) (room room' : ℕ)
    → part_when w q c b room room' ≡ part_for b room room' (quoted_in (usable_when w cs) qs cs)
part_goes_on w q c qs cs p d y b room room' = part_by q c w b room room' ∙ goes_on_when w q c qs cs p d y (part_for b room room')

-- ---- the part
module _ (q : List ℕ) (c : Brought) (qs : List ℕ) (cs : Offered) (p : Question q qs) (d : Catalogue c cs) (set : ℕ) where
  abbrev Ps : List Pattern
  Ps = view_patterns cs

  -- the views that may be used
  abbrev Us : List Pattern
  Us = views_in_set set Ps

  abbrev takes : Edge → Bool
  takes = matched_link set qs cs

  abbrev partly : List ℕ
  partly = part_of_question set qs cs

  few_nodes : length (pattern_of qs).labels ≤ 4096
  few_nodes = (question_bounds q qs p).few_nodes

  every_sound : (P : Pattern) → In P Ps → SoundPattern P
  every_sound P i = sound_say P (views_sound c cs d P i)

  each_sound : (P : Pattern) → In P Us → SoundPattern P
  each_sound = usable_sound (pattern_of qs) (formed q qs p).sound few_nodes (question_bounds q qs p).few_edges Ps every_sound set

  -- what the quote says of an accepted pattern
  covered_is : (s ws : List ℕ) → Question s ws → Covers set ws cs ↔ T (covered (pattern_of ws) Us)
  covered_is s ws e =
      let b = question_bounds s ws e in
      subst (λ (m : ℕ). (covers_in (mapping (pattern_of ws) Ps) set (length Ps) m ≡ true) ↔ T (covered (pattern_of ws) Us)) b.many
      (set_covers_exactly (pattern_of ws) Ps set (few_views c cs d) b.few_edges)

  pub part_covered : Covers set (part_of_question set qs cs) cs
  part_covered =
      ⊎_elim
      (λ (h : edges_of partly < 1). nothing (omega arith))
      (λ (h : 1 ≤ edges_of partly).
      let o = (choice-from q qs p takes 0 h).1 in
      let m = choice-means q qs p takes _ o.below o.taken in
      (covered_is _ _ (choice-read q qs p takes _ o.below o.taken)).1 (subst (λ P. T (covered P Us)) (sym m) (had_covered (pattern_of qs) (formed q qs p).sound few_nodes Us each_sound)))
      (lt_or_ge (edges_of partly) 1)
    where
      nothing : edges_of partly ≡ 0 → Covers set partly cs
      nothing z = subst (λ (m : ℕ). covers_in (mapping (pattern_of partly) Ps) set (length Ps) m ≡ true) (sym z) (covers_none (mapping (pattern_of partly) Ps) set (length Ps))

  part_largest : (takes : Edge → Bool) → Covers set (choice_of takes qs) cs → (v : ℕ) → v < edges_of qs → T (takes (link_of qs v)) → Matched (pattern_of qs) Us (link_of qs v)
  part_largest t h v l y =
      let c = (covered_is _ _ (choice-read q qs p t v l y)).0 h in
      (matched_whole (pattern_of qs) Us (link_of qs v)).0
      (covered_inside (pattern_of qs) (formed q qs p).sound t few_nodes Us each_sound (subst (λ P. T (covered P Us)) (choice-means q qs p t v l y) c) (link_of qs v) (in_at (pattern_of qs).edges v no_edge (omega (arith, many q qs p))) y)

  part_no_other : (takes : Edge → Bool) (F : List (List (List ℕ)) → List ℕ) → ((r rs : List ℕ) → Record r rs → F (lists_in set cs (graph_of rs)) ≡ sheet_of (pattern_of (choice_of takes qs)) rs)
      → (v : ℕ) → v < edges_of qs → T (takes (link_of qs v)) → Matched (pattern_of qs) Us (link_of qs v)
  part_no_other t F h v l y =
      ⊎_elim (λ k. part_largest t k v l y) (λ n. absurd (no_function (choice_file t qs) c (choice_of t qs) cs (choice-read q qs p t v l y) d set n F h))
      (test_cases (covered_in set (choice_of t qs) cs))

  part_masks : (i v a : ℕ) → LinkFrom takes qs i v → a < 16 → T (bit set a) → get_or (mapping (pattern_of partly) Ps) (16 * i + a) 0 ≡ get_or (mapping (pattern_of qs) Ps) (16 * v + a) 0
  part_masks i v a f h y =
      let m = choice-means q qs p takes v f.below f.taken in
      let l : v < length (pattern_of qs).edges = omega (arith, f.below, many q qs p) in
      let few = (question_bounds q qs p).few_edges in
      let n : i < length (part_of takes (pattern_of qs)).edges = omega (arith, rank_rises (λ u. takes (link_of qs u)) v (length (pattern_of qs).edges) f.taken l, f.place, part_number (pattern_of qs) (formed q qs p).sound takes) in
      let k : i ≤ v = omega (arith, rank_most (λ u. takes (link_of qs u)) v, f.place) in
      ap (λ R. get_or (mapping R Ps) (16 * i + a) 0) m
      ∙ mapping_at _ Ps (16 * i + a) (omega arith)
      ∙ had_row (pattern_of qs) (formed q qs p).sound few_nodes few Ps every_sound set i a v n l f.taken (sym (ap (λ (R : Pattern). get_or R.edges i no_edge) m) ∙ choice-edge q qs p takes i v f) h ((test_is _).1 y)
      ∙ sym (mapping_at (pattern_of qs) Ps (16 * v + a) (omega arith))

  -- some link is matched, or none is
  some_by : SomeMatched set qs cs → some takes (pattern_of qs).edges ≡ true
  some_by s = (test_is _).1 (in_some _ (in_at (pattern_of qs).edges s.0 no_edge (omega (arith, s.1, many q qs p))) ((matched_whole (pattern_of qs) Us (link_of qs s.0)).1 s.2))

  some_say : some takes (pattern_of qs).edges ≡ true → SomeMatched set qs cs
  some_say h =
      let r = some_in _ (pattern_of qs).edges ((test_is _).0 h) in
      let o = place_of no_edge r.1 in
      (o.at, omega (arith, o.below, many q qs p), (matched_whole (pattern_of qs) Us _).0 (subst (λ e. T (takes e)) o.holds r.2))

  none_say : some takes (pattern_of qs).edges ≡ false → NoneMatched set qs cs
  none_say h v l m = never (sym (some_by (v, l, m)) ∙ h)

  either_matched : SomeMatched set qs cs ⊎ NoneMatched set qs cs
  either_matched = ⊎_elim (λ h. inl (some_say h)) (λ h. inr (none_say h)) (test_cases (some takes (pattern_of qs).edges))

  -- what follows the files and 10
  abbrev after : List ℕ → ℕ → ℕ → Outcome
  after b room room' =
      pick (some takes (pattern_of qs).edges) (fit_part room (part_bytes (quoted_in set qs cs)) (answer_for used_by b room' (part_quoted (quoted_in set qs cs)))) (refuse 11 0)

  part_after : (b bs : List ℕ) → read_book cs.content b ≡ accepted bs → (room room' : ℕ) → part_for b room room' (quoted_in set qs cs) ≡ within_pairs_by (edge_counts cs.content) bs (after b room room')
  unfolding part_for
  part_after b bs k room room' = goes_on _ k

  after_none : NoneMatched set qs cs → (b : List ℕ) (room room' : ℕ) → after b room room' ≡ refuse 11 0
  after_none n b room room' =
      let e : some takes (pattern_of qs).edges ≡ false = ⊎_elim (λ h. let s = some_say h in absurd (n s.0 s.1 s.2)) (λ h. h) (test_cases (some takes (pattern_of qs).edges)) in
      rw e

  -- its own quote chooses
  used_partly : used_by (quoted_in set partly cs) ≡ chosen_in set partly cs
  used_partly = used_covered (mapping (pattern_of partly) Ps) set (edges_of partly) (length Ps) part_covered

  chosen_partly : Covers (chosen_in set partly cs) partly cs
  chosen_partly = chosen_covers (mapping (pattern_of partly) Ps) set (edges_of partly) (length Ps) part_covered

  module _ (s : SomeMatched set qs cs) where
    a-taken : T (takes (link_of qs s.0))
    a-taken = (matched_whole (pattern_of qs) Us (link_of qs s.0)).1 s.2

    pub part_read : Question (part_file set qs cs) (part_of_question set qs cs)
    part_read = choice-read q qs p takes s.0 s.1 a-taken

    after-some : (b : List ℕ) (room room' : ℕ) → after b room room' ≡ fit_part room (part_file set qs cs) (answer_for used_by b room' (quoted_in set partly cs))
    unfolding part_from
    after-some b room room' = rw (some_by s)

    part-answered : (b bs : List ℕ) → Book cs.content b bs → (room : ℕ) → answer_for used_by b room (quoted_in set partly cs) ≡ fit_file room (part_answer set qs cs bs)
    part-answered b bs k room =
        answer_for_lem set partly cs b bs k room (subst (λ (n : ℕ). Covers n partly cs) (sym used_partly) chosen_partly)
        ∙ ap (λ (n : ℕ). fit_file room (sheet_bytes (answer_of n partly cs bs))) used_partly

    part_given : (b bs : List ℕ) → Book cs.content b bs → (room room' : ℕ) → part_for b room room' (quoted_in set qs cs) ≡ fit_part room (part_file set qs cs) (fit_file room' (part_answer set qs cs bs))
    part_given b bs k room room' =
        part_after b bs k.read room room'
        ∙ within_pairs_is (edge_counts cs.content) bs _ k.few
        ∙ after-some b room room'
        ∙ ap (fit_part room (part_file set qs cs)) (part-answered b bs k room')

  part_none : NoneMatched set qs cs → (b bs : List ℕ) → Book cs.content b bs → (room room' : ℕ) → part_for b room room' (quoted_in set qs cs) ≡ refuse 11 0
  part_none n b bs k room room' = part_after b bs k.read room room' ∙ within_pairs_is (edge_counts cs.content) bs _ k.few ∙ after_none n b room room'

  -- 11 falls exactly where none is matched
  none_exactly : (b bs : List ℕ) → Book cs.content b bs → (room room' : ℕ) (a : Outcome) → a ≡ part_for b room room' (quoted_in set qs cs) → (words e : ℕ)
      → (with_workspace words a ≡ refuse 11 e) ↔ ((16384 ≤ words) × NoneMatched set qs cs × (e ≡ 0))
  none_exactly b bs k room room' a is words e = (
    λ x.
        let w = enough_for words a (λ z. let y = number_same z in omega arith) x in
        ⊎_elim
        (λ s. absurd (let y = part_refuses room (part_file set qs cs) room' (part_answer set qs cs bs) (sym (is ∙ part_given s b bs k room room') ∙ w.1) in omega arith))
        (λ n. (w.0, n, sym (detail_same (sym (is ∙ part_none n b bs k room room') ∙ w.1))))
        either_matched,
    λ x. enough_words words _ x.0 ∙ is ∙ part_none x.1 b bs k room room' ∙ ap (refuse 11) (sym x.2),
  )

  -- and 10 exactly to a crowded book
  many_exactly : (b bs : List ℕ) → read_book cs.content b ≡ accepted bs → (room room' : ℕ) (a : Outcome) → a ≡ part_for b room room' (quoted_in set qs cs) → (words e : ℕ)
      → (with_workspace words a ≡ refuse 10 e) ↔ ((16384 ≤ words) × ManyPairs cs.content bs × (e ≡ 4))
  many_exactly b bs k room room' a is words e =
      many_pairs_exactly words a (edge_counts cs.content) bs (after b room room') (is ∙ part_after b bs k room room')
      (λ h j x.
      ⊎_elim
      (λ s. let z : Book cs.content b bs = record { read = k; few = h } in let y = part_refuses room (part_file set qs cs) room' (part_answer set qs cs bs) (sym (after-some s b room room' ∙ ap (fit_part room (part_file set qs cs)) (part-answered s b bs z room')) ∙ x) in omega arith)
      (λ n. let y = number_same (sym (after_none n b room room') ∙ x) in omega arith)
      either_matched) e

  -- ---- of a question that the set covers
  module _ (h : Covers set qs cs) where
    whole-pattern : part_of takes (pattern_of qs) ≡ pattern_of qs
    whole-pattern = had_whole (pattern_of qs) (formed q qs p).sound few_nodes Us each_sound ((covered_is q qs p).0 h)

    whole-content : partly ≡ qs
    whole-content = ap pattern_fields whole-pattern ∙ content_back (plain q qs p)

    whole-file : Below 256 q → part_file set qs cs ≡ q
    unfolding pattern_bytes
    whole-file y = ap (λ ws. bytes_in (encode pattern ws)) whole-content ∙ ap bytes_in (decode_encode pattern q qs (bytes_by q y) (question_is q qs p))

    whole-answered : (b bs : List ℕ) → Book cs.content b bs → (room : ℕ) → answer_from q c (chosen_in set qs cs) b room ≡ fit_file room (part_answer set qs cs bs)
    whole-answered b bs k room =
        given_by q c qs cs p d b bs k (λ _. chosen_in set qs cs) room (chosen_covers (mapping (pattern_of qs) Ps) set (edges_of qs) (length Ps) h)
        ∙ ap (λ ws. fit_file room (sheet_bytes (answer_of (chosen_in set ws cs) ws cs bs))) (sym whole-content)

  -- what is given comes of an accepted book
  full_for : (b : List ℕ) (room room' : ℕ) → Full (part_for b room room' (quoted_in set qs cs)) → (bs : List ℕ) × Book cs.content b bs × SomeMatched set qs cs
  unfolding part_for
  full_for b room room' f =
      let z = full_judged _ _ f in
      let k : Book cs.content b z.0 = record { read = z.1; few = full_within_pairs _ _ _ z.2 } in
      (z.0, k, ⊎_elim (λ s. s) (λ n. absurd (not_refused (sym f.is ∙ part_none n b z.0 k room room'))) either_matched)

pub many_pairs_part : (w : When) (q : List ℕ) (c : Brought) (qs : List ℕ) (cs : Offered) → Question q qs → Catalogue c cs → Timely cs w → (b bs : List ℕ) → read_book cs.content b ≡ accepted bs → (room room' words e : ℕ)
    → (with_workspace words (part_when w q c b room room') ≡ refuse 10 e) ↔ ((16384 ≤ words) × ManyPairs cs.content bs × (e ≡ 4))
many_pairs_part w q c qs cs p d y b bs k room room' words e =
    many_exactly q c qs cs p d (usable_when w cs) b bs k room room' (part_when w q c b room room') (part_goes_on w q c qs cs p d y b room room') words e

-- a full result comes of accepted files
full_part : (w : When) (q : List ℕ) (c : Brought) (b : List ℕ) (room room' : ℕ) → Full (part_when w q c b room room')
    → (qs : List ℕ) × (cs : Offered) × (bs : List ℕ) × Question q qs × Catalogue c cs × Timely cs w × Book cs.content b bs × SomeMatched (usable_when w cs) qs cs
full_part w q c b room room' f =
    let t = full_when w q c (part_for b room room') (full_same (part_by q c w b room room') f) in
    let z = full_for q c t.0 t.1 t.2 t.3 (usable_when w t.1) b room room' t.5 in
    (t.0, t.1, z.0, t.2, t.3, t.4, z.1, z.2)

pub parts : Parts
parts = record {
  is_pattern = λ q qs p takes v l t. choice-read q qs p takes v l t;
  comes_from = λ q qs p takes i l. choice-from q qs p takes i l;
  goes_to = λ q qs p takes v l t. choice-to q qs p takes v l t;
  is_link = λ q qs p takes i v f. choice-link q qs p takes i v f;
  upward = numbered_upward;
  takes_matched = λ set qs cs e. matched_whole (pattern_of qs) (views_in_set set (view_patterns cs)) e;
  covered = λ set q c qs cs p d. part_covered q c qs cs p d set;
  largest = λ set q c qs cs p d takes h v l t. part_largest q c qs cs p d set takes h v l t;
  no_other_way = λ set q c qs cs p d takes F h v l t. part_no_other q c qs cs p d set takes F h v l t;
  masks = λ set q c qs cs p d i v a f h y. part_masks q c qs cs p d set i v a f h y;
  gives = λ w q c b qs cs bs p d y k s room room' words.
      fitted_part room (part_file (usable_when w cs) qs cs) (part_when w q c b room room') words room' (part_answer (usable_when w cs) qs cs bs)
      (part_goes_on w q c qs cs p d y b room room' ∙ part_given q c qs cs p d (usable_when w cs) s b bs k room room');
  answers = λ set q c b qs cs bs p d k s room.
      given_by (part_file set qs cs) c (part_of_question set qs cs) cs (part_read q c qs cs p d set s) d b bs k (λ _. chosen_in set (part_of_question set qs cs) cs) room (chosen_partly q c qs cs p d set);
  answers_by_all = λ q c b qs cs bs p d k s room.
      given_by (part_file every_view qs cs) c (part_of_question every_view qs cs) cs (part_read q c qs cs p d every_view s) d b bs k used_by room (used_covers (part_of_question every_view qs cs) cs (part_covered q c qs cs p d every_view))
      ∙ ap (λ (set : ℕ). fit_file room (sheet_bytes (answer_of set (part_of_question every_view qs cs) cs bs))) (used_chosen (part_of_question every_view qs cs) cs (part_covered q c qs cs p d every_view));
  refused = λ w q c b qs cs bs p d y k room room' words e. none_exactly q c qs cs p d (usable_when w cs) b bs k room room' (part_when w q c b room room') (part_goes_on w q c qs cs p d y b room room') words e;
  only = λ w q c b room room' words f. full_part w q c b room room' (full_words words _ f);
  whole = λ set q c qs cs y p d h. whole-file q c qs cs p d set h y;
  whole_answer = λ set q c b qs cs bs p d k h room. whole-answered q c qs cs p d set h b bs k room;
  lists_more = λ set q c qs cs p d rs i v f x j. choice-lists q qs p (matched_link set qs cs) rs i v f x j;
  equals = λ way set q c r qs cs rs p d f s l room words.
      demand_3.covered_by way (part_file set qs cs) c r (part_of_question set qs cs) cs rs (part_read q c qs cs p d set s) d f (chosen_in set (part_of_question set qs cs) cs) (chosen_partly q c qs cs p d set) l room words;
}
