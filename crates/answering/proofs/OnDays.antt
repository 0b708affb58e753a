-- The calls for a day: which extracts are in force and what is said of these; the first day; and that a day on which all are in force changes nothing.
use Prim.Native.Nat.{ℕ, zero, suc, ◌+◌, ◌-◌, ◌*◌, ◌%◌, ◌<◌, ◌≤◌, min}
use mathlib.Core.Path.{◌≡◌, refl, sym, ap, subst, ◌∙◌}
use mathlib.Core.Bool.{Bool, true}
use mathlib.Core.Logic.{◌⊎◌, inl, inr, ◌↔◌, ⊎_elim}
use mathlib.Core.List.{List, [], ◌∷◌}
use lib.ListN.{length, get_or, set, replicate, length-set, length-replicate}
use lib.Seq.{get_or-set_same, get_or-set_other}
use lib.Dec.{T}
use native.Mathlib.Omega.{arith}
use borrow.Author.Tests.{lt-ltb, le-ltb}
use Rattle.packed.specs.Format.{pick}
use Rattle.packed.specs.Contents.{edges_of, views_of, edge_counts}
use Rattle.packed.specs.Calls.{Outcome, give, refuse, judged, read_pattern, read_book, within_pairs_by}
use Rattle.packed.proofs.OrderCases.{lt_or_ge}
use Rattle.engine.specs.Lists.{some}
use Rattle.engine.specs.Simulation.{Pattern, bit, pattern_of}
use Rattle.matching.specs.Join.{matched}
use Rattle.matching.specs.Offered.{Brought, Offered, view_patterns}
use Rattle.matching.proofs.OfferedLaws.{not_both}
use Rattle.matching.specs.Part.{part_of, pattern_fields, pattern_bytes}
use Rattle.containment.specs.Choice.{covers_in, columns_in, every_view, chosen, lowest_unmatched}
use Rattle.containment.specs.Quote.{Quoted, quoted, quoted_in, views_in_set, used_by, mapping, values_from, quote_values, quote_for, quote_outcome}
use Rattle.containment.specs.Answer.{answer_in, answer_for}
use Rattle.containment.specs.Cheapest.{cheapest_from, cheapest_for, cheapest_outcome}
use Rattle.containment.specs.Part.{fit_part, part_from, part_for, part_outcome}
use Rattle.containment.specs.Show.{show_for, show_outcome}
use Rattle.containment.specs.Terms.{no_term, noted, spread_of, quoted_on, quote_on, cheapest_on, part_on, show_on, earliest, day_values, first_day_for, first_day, InForce}
use Rattle.containment.specs.declared.terms.Term.{Term}
use Rattle.containment.specs.declared.terms.Terms.{Terms}
use Rattle.answering.specs.Demands.{Question, Catalogue, link_of, Covers, Leaves, chosen_in, masks_in, RightTerms, force_of, on, right, AllInForce, Copied, MatchedOn, FirstCovered, NeverCovered, OnDays}
use Rattle.containment.proofs.SetBits.{test_cases, bit_lt, bit_every}
use Rattle.containment.proofs.ChoiceLaws.{covers_alike, lowest_alike, chosen_covers, used_covered, used_uncovered}
use Rattle.containment.proofs.ColumnLaws.{column_in, column_out, columns_whole, columns_every, chosen_alike}
use Rattle.containment.proofs.MappingLaws.{mask_beyond, mapping_length, mapping_at}
use Rattle.answering.proofs.QuoteLaws.{test_is, chosen_whole}
use Rattle.containment.proofs.TermsLaws.{force_small, force_exactly, Begins, covered_begins, earliest_fair, earliest_given, earliest_from}
use Rattle.answering.proofs.CoveredBytes.{set_goes_on, offered_goes_on, few_views, covered_in, answer_alike}
use Rattle.answering.proofs.DemandRules.{full_words, judged_same, goes_on, choice_among, covers_plain}
use Rattle.answering.proofs.WhenLaws.{terms_judges, goes_on_when, full_when, quote_18, cheapest_18, part_18, show_18, first_day_18}
use Rattle.answering.proofs.DemandThree.{demand_3}

-- ---- what a list of terms is handed on as
-- one law for both fields: a table into which f of each of the first k entries was put
module _ (f : Term → ℕ) (l : List Term) where
  abbrev table : ℕ → List ℕ
  table zero = replicate 16 0
  table (suc k) = set (table k) k (f (get_or l k no_term))

  table_long : (k : ℕ) → length (table k) ≡ 16
  table_long zero = length-replicate {A = ℕ} 16 0
  table_long (suc k) = length-set (table k) k (f (get_or l k no_term)) ∙ table_long k

  table_has : (k i : ℕ) → k ≤ 16 → i < k → get_or (table k) i 0 ≡ f (get_or l i no_term)
  table_has zero i h p = absurd (omega arith)
  table_has (suc k) i h p =
      ⊎_elim
      (λ (q : i < k). get_or-set_other (table k) k i (f (get_or l k no_term)) 0 (λ e. omega arith) ∙ table_has k i (omega arith) q)
      (λ (q : k ≤ i). let e : k ≡ i = omega arith in subst (λ (j : ℕ). get_or (set (table k) k (f (get_or l k no_term))) j 0 ≡ f (get_or l j no_term)) e (get_or-set_same (table k) k (f (get_or l k no_term)) 0 (omega (arith, table_long k))))
      (lt_or_ge i k)

noted_from : (l : List Term) (k : ℕ) → (noted l k).from ≡ table (λ e. e.from) l k
noted_from l zero = refl
noted_from l (suc k) = ap (λ (t : List ℕ). set t k (get_or l k no_term).from) (noted_from l k)

noted_to : (l : List Term) (k : ℕ) → (noted l k).to ≡ table (λ e. e.to) l k
noted_to l zero = refl
noted_to l (suc k) = ap (λ (t : List ℕ). set t k (get_or l k no_term).to) (noted_to l k)

noted_number : (l : List Term) (k : ℕ) → (noted l k).number ≡ length l
noted_number l zero = refl
noted_number l (suc k) = noted_number l k

copies : (l : List Term) → Copied l (spread_of l)
copies l =
    let m = min (length l) 16 in
    record {
      number = noted_number l m;
      from = λ i p q. ap (λ (t : List ℕ). get_or t i 0) (noted_from l m) ∙ table_has (λ e. e.from) l m i (omega arith) (omega arith);
      to = λ i p q. ap (λ (t : List ℕ). get_or t i 0) (noted_to l m) ∙ table_has (λ e. e.to) l m i (omega arith) (omega arith);
    }

-- ---- the extracts in force
module _ (t : Terms) (day : ℕ) (cs : Offered) where
  abbrev force : ℕ
  force = force_of t day cs

  abbrev number : ℕ
  number = length (view_patterns cs)

  in_force_say : (a : ℕ) → bit force a ≡ true → (a < number) × InForce t day a
  in_force_say a h = let l = bit_lt force a number h (force_small t day number) in (l, (force_exactly t day number a l).0 h)

  in_force_by : (a : ℕ) → a < number → InForce t day a → bit force a ≡ true
  in_force_by a l f = (force_exactly t day number a l).1 f

  in_force_exactly : (a : ℕ) → T (bit force a) ↔ ((a < number) × InForce t day a)
  in_force_exactly a = (λ h. in_force_say a ((test_is _).1 h), λ x. (test_is _).0 (in_force_by a x.0 x.1))

  masked_in : (qs : List ℕ) (i a : ℕ) → a < number → a < 16 → InForce t day a → get_or (masks_in force qs cs) (16 * i + a) 0 ≡ get_or (masks_in every_view qs cs) (16 * i + a) 0
  masked_in qs i a l few f =
      let m = mapping (pattern_of qs) (view_patterns cs) in
      let z : (16 * i + a) % 16 ≡ a = omega arith in
      column_in force m (16 * i + a) (ap (bit force) z ∙ in_force_by a l f) ∙ ap (λ (x : List ℕ). get_or x (16 * i + a) 0) (sym (columns_every m))

  masked_out : (qs : List ℕ) (i a : ℕ) → a < 16 → (InForce t day a → ⊥) → get_or (masks_in force qs cs) (16 * i + a) 0 ≡ 0
  masked_out qs i a few f =
      let z : (16 * i + a) % 16 ≡ a = omega arith in
      ⊎_elim (λ y. absurd (f (in_force_say a y).1)) (λ n. column_out force (mapping (pattern_of qs) (view_patterns cs)) (16 * i + a) (ap (bit force) z ∙ n)) (test_cases (bit force a))

-- covered exactly if each link is matched by one of them
covered_exactly : (q : List ℕ) (c : Brought) (qs : List ℕ) (cs : Offered) → Question q qs → Catalogue c cs → (t : Terms) (day : ℕ)
    → Covers (force_of t day cs) qs cs ↔ ((i : ℕ) → i < edges_of qs → MatchedOn t day qs cs (link_of qs i))
covered_exactly q c qs cs p d t day =
    let x = covers_plain q c qs cs p d (force_of t day cs) in
    let f = in_force_exactly t day cs in (
      λ h i l. let m = x.0 h i l in record { extract = m.extract; given = m.given; in_force_lem = ((f m.extract).0 m.in_set).1; link = m.link; kind = m.kind; lists = m.lists },
      λ h. x.1 (λ i l. let m = h i l in record { extract = m.extract; given = m.given; in_set = (f m.extract).1 (m.given, m.in_force_lem); link = m.link; kind = m.kind; lists = m.lists }),
    )

-- ---- the first day
module _ (q : List ℕ) (c : Brought) (qs : List ℕ) (cs : Offered) (p : Question q qs) (d : Catalogue c cs) (t : Terms) (day : ℕ) (r : RightTerms t (length (views_of cs.content))) where
  abbrev k : ℕ
  k = length (view_patterns cs)

  abbrev all_masks : List ℕ
  all_masks = mapping (pattern_of qs) (view_patterns cs)

  covered : ℕ → Bool
  covered e = covered_in (force_of t e cs) qs cs

  found_day : ℕ
  found_day = earliest covered t day k

  day_given : first_day q c t day ≡ give (day_values found_day) []
  unfolding first_day first_day_for found_day covered
  day_given = goes_on_when (on t day) q c qs cs p d (right r) (first_day_for t day)

  none_before : (e : ℕ) → day ≤ e → e < found_day → Leaves (force_of t e cs) qs cs
  unfolding found_day covered
  none_before e h l =
      ⊎_elim
      (λ y.
      let z : e - day + day ≡ e = omega arith in
      absurd (⊎_elim
      (λ g. let u = earliest_given covered t day k g in omega arith)
      (λ (g : Begins t all_masks k (edges_of qs) day (e - day + day)). let u = earliest_from covered t day k g.at g.below (let v = g.after in omega arith) g.covered in let v = g.upto in omega arith)
      (covered_begins t all_masks k (edges_of qs) (e - day) day (subst (λ (x : ℕ). covered_in (force_of t x cs) qs cs ≡ true) (sym z) y))))
      (λ n. n)
      (test_cases (covered_in (force_of t e cs) qs cs))

  day_found : ((e : ℕ) × FirstCovered t day qs cs e × (first_day q c t day ≡ give (1 ∷ e ∷ []) [])) ⊎ (NeverCovered t day qs cs × (first_day q c t day ≡ give (0 ∷ 0 ∷ []) []))
  unfolding day_values covered found_day
  day_found =
      ⊎_elim
      (λ e. inr (λ x h l. none_before x h (omega arith), day_given ∙ rw (le-ltb found_day 65536 (omega arith))))
      (λ (x : (day ≤ found_day) × (found_day < 65536) × (covered found_day ≡ true)).
      inl (found_day, record { not_before = x.0; is_day = let l = x.1 in omega arith; covered = x.2; none_before = none_before }, day_given ∙ rw (lt-ltb found_day 65536 x.1)))
      (earliest_fair covered t day k)

-- ---- on a day on which all are in force
module _ (c : Brought) (cs : Offered) (d : Catalogue c cs) (t : Terms) (day : ℕ) (r : RightTerms t (length (views_of cs.content))) (all : AllInForce t day cs) where
  abbrev n : ℕ
  n = length (view_patterns cs)

  abbrev now_in : ℕ
  now_in = force_of t day cs

  few : n ≤ 16
  few = few_views c cs d

  alike : (a : ℕ) → a < n → bit now_in a ≡ bit every_view a
  alike a l = in_force_by t day cs a l (all a l) ∙ sym (bit_every a (let f = few in omega arith))

  views_alike : views_in_set now_in (view_patterns cs) ≡ views_in_set every_view (view_patterns cs)
  views_alike =
      chosen_whole now_in (view_patterns cs) (λ a l. in_force_by t day cs a l (all a l))
      ∙ sym (chosen_whole every_view (view_patterns cs) (λ a l. bit_every a (let f = few in omega arith)))

  module _ (qs : List ℕ) where
    abbrev masks : List ℕ
    masks = mapping (pattern_of qs) (view_patterns cs)

    columns-alike : columns_in now_in masks ≡ columns_in every_view masks
    columns-alike =
        columns_whole now_in masks
        (λ i l. ⊎_elim (λ (h : i % 16 < n). inl (in_force_by t day cs (i % 16) h (all (i % 16) h)))
        (λ (h : n ≤ i % 16). inr (mapping_at (pattern_of qs) (view_patterns cs) i (omega (arith, mapping_length (pattern_of qs) (view_patterns cs))) ∙ mask_beyond (pattern_of qs) (view_patterns cs) i h))
        (lt_or_ge (i % 16) n))
        ∙ sym (columns_every masks)

    covers-same-all : covers_in masks now_in n (edges_of qs) ≡ covers_in masks every_view n (edges_of qs)
    covers-same-all = covers_alike masks now_in every_view n alike (edges_of qs)

    lowest-same-all : lowest_unmatched masks now_in n (edges_of qs) ≡ lowest_unmatched masks every_view n (edges_of qs)
    lowest-same-all = lowest_alike masks now_in every_view n alike (edges_of qs)

    chosen-same-all : chosen masks now_in (edges_of qs) n ≡ chosen masks every_view (edges_of qs) n
    chosen-same-all = chosen_alike masks now_in every_view n (edges_of qs) alike

    quote-same : quote_for (quoted_in now_in qs cs) ≡ quote_for (quoted_in every_view qs cs)
    unfolding quote_for quote_values values_from
    quote-same = rw (covers-same-all, lowest-same-all, chosen-same-all, columns-alike)

    cheapest-same : (charges : List ℕ) → cheapest_for charges (quoted_in now_in qs cs) ≡ cheapest_for charges (quoted_in every_view qs cs)
    unfolding cheapest_for cheapest_from
    cheapest-same charges = rw (covers-same-all, lowest-same-all, chosen-same-all, columns-alike)

    show-same : (room room' : ℕ) → show_for room room' (quoted_in now_in qs cs) ≡ show_for room room' (quoted_in every_view qs cs)
    unfolding show_for
    show-same room room' = rw (covers-same-all, lowest-same-all)

    used-same : (a : ℕ) → a < n → bit (used_by (quoted_in now_in qs cs)) a ≡ bit (used_by (quoted_in every_view qs cs)) a
    used-same a l =
        ⊎_elim
        (λ y. ap (λ (x : ℕ). bit x a) (used_covered masks now_in (edges_of qs) n (covers-same-all ∙ y) ∙ chosen-same-all ∙ sym (used_covered masks every_view (edges_of qs) n y)))
        (λ m. ap (λ (x : ℕ). bit x a) (used_uncovered masks now_in (edges_of qs) n (covers-same-all ∙ m)) ∙ alike a l ∙ ap (λ (x : ℕ). bit x a) (sym (used_uncovered masks every_view (edges_of qs) n m)))
        (test_cases (covers_in masks every_view n (edges_of qs)))

    answer_same : (b : List ℕ) (room : ℕ) → answer_for used_by b room (quoted_in now_in qs cs) ≡ answer_for used_by b room (quoted_in every_view qs cs)
    unfolding answer_for answer_in
    answer_same b room = judged_same (read_book cs.content b) (λ bs _. answer_alike (used_by (quoted_in now_in qs cs)) (used_by (quoted_in every_view qs cs)) qs cs bs room used-same)

  part_same : (qs b : List ℕ) (room room' : ℕ) → part_for b room room' (quoted_in now_in qs cs) ≡ part_for b room room' (quoted_in every_view qs cs)
  unfolding part_for part_from
  part_same qs b room room' =
      ap (λ (Us : List Pattern). made Us now_in) views_alike
      ∙ judged_same (read_book cs.content b) (λ bs _. ap (within bs) (answer_same (pattern_fields (part_of (matched (pattern_of qs) (views_in_set every_view (view_patterns cs))) (pattern_of qs))) b room'))
    where
      within : List ℕ → Outcome → Outcome
      within bs a =
          within_pairs_by (edge_counts cs.content) bs
          (pick (some (matched (pattern_of qs) (views_in_set every_view (view_patterns cs))) (pattern_of qs).edges)
          (fit_part room (pattern_bytes (part_of (matched (pattern_of qs) (views_in_set every_view (view_patterns cs))) (pattern_of qs))) a) (refuse 11 0))

      made : List Pattern → ℕ → Outcome
      made Us s =
          judged (read_book cs.content b) (λ bs. within_pairs_by (edge_counts cs.content) bs
          (pick (some (matched (pattern_of qs) Us) (pattern_of qs).edges)
          (fit_part room (pattern_bytes (part_of (matched (pattern_of qs) Us) (pattern_of qs))) (answer_for used_by b room' (quoted_in s (pattern_fields (part_of (matched (pattern_of qs) Us) (pattern_of qs))) cs))) (refuse 11 0)))

  -- whatever the question is
  same_call : (q : List ℕ) (k : Quoted → Outcome) → ((qs : List ℕ) → k (quoted_in now_in qs cs) ≡ k (quoted_in every_view qs cs)) → quoted_on q c t day k ≡ quoted q c k
  same_call q k h = judged_same (read_pattern q) (λ qs _.
      goes_on _ d.paper
      ∙ goes_on _ ((terms_judges t (length (views_of cs.content))).right r)
      ∙ set_goes_on c cs d (λ o. k (quoted_in (force_of t day o) qs o))
      ∙ h qs
      ∙ sym (offered_goes_on c cs d (λ o. k (quoted_in every_view qs o))))

pub on_days : OnDays
unfolding first_day quote_on cheapest_on part_on show_on quote_outcome cheapest_outcome part_outcome show_outcome
on_days = record {
  spreads = copies;
  quote_terms = quote_18;
  cheapest_terms = λ q c qs cs charges p d t day. cheapest_18 q c qs cs p d t day charges;
  part_terms = λ q c b qs cs p d t day room room'. part_18 q c qs cs p d t day b room room';
  show_terms = λ q c qs cs p d t day room room'. show_18 q c qs cs p d t day room room';
  first_day_terms = first_day_18;
  right_or_wrong = λ t k. (terms_judges t k).either;
  not_both = λ t k. not_both (terms_judges t k);
  in_force_lem = in_force_exactly;
  covers = covered_exactly;
  masks_in_lem = λ qs cs t day i a l few f. masked_in t day cs qs i a l few f;
  masks_out = λ qs cs t day i a few f. masked_out t day cs qs i a few f;
  choice_in_force = λ qs cs t day a h. ((in_force_exactly t day cs a).0 (choice_among (force_of t day cs) qs cs a ((test_is _).1 h)).1).1;
  answers = λ way q c r qs cs rs p d f t day h l room words.
      demand_3.covered_by way q c r qs cs rs p d f (chosen_in (force_of t day cs) qs cs)
      (chosen_covers (mapping (pattern_of qs) (view_patterns cs)) (force_of t day cs) (edges_of qs) (length (view_patterns cs)) h) l room words;
  cheapest_in_force = λ qs cs charges t day set x a h. ((in_force_exactly t day cs a).0 (x.among a h).1).1;
  any_in_force = λ cs t day set f a h. let x = f a h in (x.0, (in_force_exactly t day cs a).1 x);
  equal_lists = λ q c qs cs p d t day n a l f. (demand_3.uncovered q c qs cs p d (force_of t day cs) n).equal a l ((in_force_exactly t day cs a).1 (l, f));
  first_day_lem = λ q c qs cs p d t day r. day_found q c qs cs p d t day r;
  first_day_only = λ q c t day words f. let x = full_when (on t day) q c (first_day_for t day) (full_words words _ f) in (x.0, x.1, x.2, x.3, x.4);
  quote_as_always = λ q c cs d t day r all. same_call c cs d t day r all q quote_for (quote-same c cs d t day r all);
  cheapest_as_always = λ q c cs charges d t day r all. same_call c cs d t day r all q (cheapest_for charges) (λ qs. cheapest-same c cs d t day r all qs charges);
  part_as_always = λ q c b cs d t day room room' r all. same_call c cs d t day r all q (part_for b room room') (λ qs. part_same c cs d t day r all qs b room room');
  show_as_always = λ q c cs d t day room room' r all. same_call c cs d t day r all q (show_for room room') (λ qs. show-same c cs d t day r all qs room room');
}
