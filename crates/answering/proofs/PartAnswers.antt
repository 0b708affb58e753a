-- The part of a query by value: it is accepted, the rows that were picked are its table, and its answer is that of its bytes.
use Prim.Native.Nat.{ℕ, ◌+◌, ◌-◌, ◌*◌, ◌%◌, ◌<◌, ◌≤◌}
use mathlib.Core.Path.{◌≡◌, refl, sym, ap, ap₂, subst, subst₂, ◌∙◌}
use mathlib.Core.Bool.{Bool, true, false}
use mathlib.Core.Logic.{⊎_elim}
use mathlib.Core.List.{List, [], ◌∷◌}
use lib.ListN.{length, take, drop, get_or}
use lib.Seq.{sets}
use lib.Dec.{T}
use lib.Count.{count_trailing_zeros}
use native.Mathlib.Omega.{arith}
use native.Mathlib.Nat.{sub-zero}
use borrow.Author.Tests.{lt-ltb, le-ltb}
use Rattle.packed.specs.Format.{ok, pick, encode}
use Rattle.packed.specs.Formats.{pattern}
use Rattle.packed.specs.Contents.{nodes_of, edges_of, pattern_size, edge_counts, sheets_in}
use Rattle.packed.specs.ByValue.{HoldsPattern}
use Rattle.packed.specs.Refusals.{told, number_of, reply_told, both_told}
use Rattle.packed.specs.Calls.{Outcome, give, refuse, told_of, fronts, outputs_of, Fulfils, FulfilsOne, judged, read_book, within_pairs, fit_file}
use Rattle.packed.specs.declared.reply.Refusal.{Refusal}
use Rattle.packed.specs.declared.by_value.Pattern.{Pattern as Given}
use Rattle.packed.proofs.OrderCases.{lt_or_ge}
use Rattle.packed.proofs.Sets.{sets_front}
use Rattle.packed.proofs.AcceptedBounds.{pattern_bounds}
use Rattle.packed.proofs.CallLaws.{judged_accepted, over_file, fit_file_fits}
use Rattle.packed.proofs.RefusalNumbers.{refusal_numbered}
use Rattle.engine.specs.Lists.{In, some}
use Rattle.engine.specs.Simulation.{Edge, no_edge, Pattern, bit, pattern_of}
use Rattle.engine.specs.Masks.{Has, Mask}
use Rattle.engine.specs.Loaded.{pattern_in}
use Rattle.matching.specs.Join.{matched, covered, answer_sets}
use Rattle.matching.specs.Joining.{Agrees}
use Rattle.matching.specs.Search.{sheet_bytes}
use Rattle.matching.specs.Offered.{view_patterns}
use Rattle.matching.specs.Part.{part_of, pattern_fields, pattern_bytes}
use Rattle.engine.proofs.ListLaws.{same_test, in_at, some_in, in_some}
use Rattle.engine.proofs.MaskBits.{none_has, lowest_has, few_lt}
use Rattle.engine.proofs.MatchLaws.{SoundPattern, sound_say}
use Rattle.matching.proofs.PatternLaws.{pattern_same}
use Rattle.matching.proofs.PartLaws.{had_covered}
use Rattle.matching.proofs.PatternBytes.{WellFormed, PatternFile, formed_of, formed_file, formed_means, part_formed}
use Rattle.containment.specs.Choice.{Passing, matches, matched_in, covers_in, columns_in, chosen, lowest_unmatched, used}
use Rattle.containment.specs.Quote.{Quoted, mapping, usable_views, table_of, used_by}
use Rattle.containment.specs.Answer.{views_in, answer_in, answer_for}
use Rattle.containment.specs.Part.{part_from, part_bytes, part_quoted, with_first, fit_part, part_for}
use Rattle.answering.specs.Parting.{Takes, Picked, in_rows, Partable}
use Rattle.containment.specs.Steps.{Query, ViewCounts, quoted_as, Handed, HoldsFields, Loaded, offer_of}
use Rattle.containment.specs.declared.query.Fields.{Fields}
use Rattle.containment.specs.declared.judging.Judged.{Judged}
use Rattle.containment.proofs.ChoiceLaws.{matched_say, matched_by_lem, chosen_within, used_covered, lowest_whole}
use Rattle.containment.proofs.ColumnLaws.{column_in, columns_agree, covers_same, chosen_same}
use Rattle.answering.proofs.QuoteLaws.{test_is, place_of, matched_places, set_covers_exactly}
use Rattle.containment.proofs.QueryLaws.{plain, query_number, query_edge}
use Rattle.containment.proofs.AnswerLaws.{query_few, views_few, views_many, views_sound}
use Rattle.answering.proofs.AnsweringLaws.{used_is, used_lowest, book_agrees, covered_is}
use Rattle.answering.proofs.PartTable.{usable_sound, part_table}
use Rattle.std.specs.Prelude.{Ok, Err}

-- ---- which edges are taken
module _ {q : Given} (t : Query q) {counts : List ℕ} {k : ℕ} (v : ViewCounts counts k) (usable : ℕ) {table : List ℕ} (is : table ≡ table_of (quoted_as t v usable)) {taken : ℕ}
    (mask : Mask (Passing (λ e. matched_in table usable e k) q.edges) taken) where
  abbrev x : Quoted
  x = quoted_as t v usable

  abbrev Q : Pattern
  Q = pattern_of t.content

  abbrev Ps : List Pattern
  Ps = view_patterns (offer_of v)

  few_links : length Q.edges ≤ 32
  few_links = omega (arith, query_number t, query_few t)

  few_views : length Ps ≤ 16
  few_views = omega (arith, views_many v.views v.one_way, views_few v.views)

  -- those that a usable view matches
  taken_places : (e : ℕ) → e < q.edges → matched Q (usable_views x) (get_or Q.edges e no_edge) ≡ bit taken e
  taken_places e l =
      let m = matched_places Q Ps few_links few_views usable e (omega (arith, query_number t)) in
      let z : matched_in table usable e k ≡ matched_in (mapping Q Ps) usable e (length Ps) = ap₂ (λ (r : List ℕ) (n : ℕ). matched_in r usable e n) is (sym (views_many v.views v.one_way)) in
      same_test _ _
      (λ h. mask.hit e (l, z ∙ matched_by_lem (mapping Q Ps) usable e (length Ps) (m.0 h)))
      (λ h. m.1 (matched_say (mapping Q Ps) usable e (length Ps) (sym z ∙ (mask.why e h).1)))

  pub taken_tests : Takes q taken (matched (pattern_of t.content) (usable_views (quoted_as t v usable)))
  taken_tests e l = ap (matched Q (usable_views x)) (sym (query_edge t e l)) ∙ taken_places e l

  -- none, or one
  pub taken_none : taken ≡ 0 → some (matched (pattern_of t.content) (usable_views (quoted_as t v usable))) (pattern_of t.content).edges ≡ false
  taken_none z =
      same_test _ false
      (λ h.
      let r = some_in _ Q.edges h in
      let o = place_of no_edge r.1 in
      let l : o.at < q.edges = omega (arith, o.below, query_number t) in
      none_has o.at (subst (λ (n : ℕ). Has n o.at) z (subst T (taken_places o.at l) (subst (λ f. T (matched Q (usable_views x) f)) o.holds r.2))))
      (λ h. absurd h)

  module _ (some-taken : taken ≡ 0 → ⊥) where
    a-link : (e : Edge) × In e Q.edges × T (matched Q (usable_views x) e)
    a-link =
        let small = few_lt 32 taken (λ i h. let l = (mask.why i h).0 in omega (arith, query_few t)) in
        let h = (lowest_has 32 taken (omega (arith, one_more taken some-taken)) small).1 in
        let i = count_trailing_zeros 32 taken in
        let l : i < q.edges = (mask.why i h).0 in
        (get_or Q.edges i no_edge, in_at Q.edges i no_edge (omega (arith, query_number t)), subst T (sym (taken_places i l)) h)
      where
        one_more : (n : ℕ) → (n ≡ 0 → ⊥) → 0 < n
        one_more n f = ⊎_elim (λ (h : n < 1). absurd (f (omega arith))) (λ (h : 1 ≤ n). h) (lt_or_ge n 1)

    pub taken_some : some (matched (pattern_of t.content) (usable_views (quoted_as t v usable))) (pattern_of t.content).edges ≡ true
    taken_some = (test_is _).1 (let r = a-link in in_some _ r.1 r.2)

    pub part_formed_by : WellFormed (part_from (quoted_as t v usable))
    unfolding part_from
    part_formed_by = let r = a-link in part_formed Q (formed_of (plain t)) (matched Q (usable_views x)) r.1 r.2

-- ---- the part, made and answered
module _ {q : Given} {counts : List ℕ} {k : ℕ} {table : List ℕ} {usable taken : ℕ} {s : List ℕ} {d : ℕ} {w : List ℕ} (x : Partable q counts k table usable taken s d w) where
  abbrev whole : Pattern
  whole = pattern_of x.query.content

  abbrev views : List Pattern
  views = view_patterns (offer_of x.views)

  abbrev part : Pattern
  part = part_from (quoted_as x.query x.views usable)

  formed : WellFormed part
  formed = part_formed_by x.query x.views usable x.table_is x.matched x.some

  pub part_file : PatternFile (part_from (quoted_as x.query x.views usable))
  part_file = formed_file part formed

  means : pattern_of (pattern_fields part) ≡ part
  unfolding part_from part_of
  means = formed_means part formed x.query.content refl

  each_sound : (P : Pattern) → In P views → SoundPattern P
  each_sound P i = sound_say P (views_sound x.views.views x.views.one_way P i)

  few_nodes : length whole.labels ≤ 4096
  few_nodes = omega (arith, (formed_of (plain x.query)).few_nodes)

  -- its content by value
  module _ {f : Fields} (h : (takes : Edge → Bool) → Takes q taken takes → HoldsFields (pattern_fields (part_of takes (pattern_in q))) f) where
    holds : HoldsFields (pattern_fields (part_of (matched whole (usable_views (quoted_as x.query x.views usable))) (pattern_in q))) f
    holds = h _ (taken_tests x.query x.views usable x.table_is x.matched)

    pub part_room : (f.number ≤ 114) × (length f.words ≡ 114)
    part_room = (holds.most, holds.front.long)

    pub part_words : take (f.number - 0) (drop 0 f.words) ≡ pattern_fields (part_from (quoted_as x.query x.views usable))
    unfolding part_from
    part_words =
        ap (λ (n : ℕ). take n f.words) (sub-zero f.number)
        ∙ holds.front.is
        ∙ ap (λ P. pattern_fields (part_of (matched whole (usable_views (quoted_as x.query x.views usable))) P)) (pattern_same (plain x.query) x.query.holds)

    pub part_encodes : encode pattern (take (f.number - 0) (drop 0 f.words)) ≡ ok (part_bytes (quoted_as x.query x.views usable))
    part_encodes = ap (encode pattern) part_words ∙ part_file.written

    pub part_bounds : (nodes_of (take (f.number - 0) (drop 0 f.words)) ≤ 16) × (edges_of (take (f.number - 0) (drop 0 f.words)) ≤ 32)
        × (2 + (nodes_of (take (f.number - 0) (drop 0 f.words)) + 3 * edges_of (take (f.number - 0) (drop 0 f.words))) ≤ length (take (f.number - 0) (drop 0 f.words)))
    unfolding pattern_size
    part_bounds = let b = pattern_bounds (pattern_bytes part) (pattern_fields part) part_file.read in rw part_words (b.1, b.3, omega (arith, b.4))

    module _ {p : Given} (g : HoldsPattern (take (f.number - 0) (drop 0 f.words)) p) where
      -- it is accepted as what it is
      abbrev pub part_query : Query p
      part_query = record { bytes = pattern_bytes part; content = pattern_fields part; is = part_file.read; holds = rw part_words at g }

      module _ {rows : List ℕ} (picked : Picked (in_rows taken) (columns_in usable table) (16 * q.edges) rows) where
        abbrev part-of : Quoted
        part-of = quoted_as part_query x.views usable

        -- the rows that were picked are its table, for the views that may be used
        part-rows-are : rows ≡ columns_in usable (table_of (quoted_as part_query x.views usable))
        unfolding part_from
        part-rows-are =
            part_table whole (formed_of (plain x.query)).sound few_nodes (few_links x.query x.views usable x.table_is x.matched) views each_sound usable taken
            (λ e l. taken_places x.query x.views usable x.table_is x.matched e (omega (arith, query_number x.query)))
            rows (subst₂ (λ (t : List ℕ) (m : ℕ). Picked (in_rows taken) (columns_in usable t) (16 * m) rows) x.table_is (sym (query_number x.query)) picked)
            ∙ ap (λ P. columns_in usable (mapping P views)) (sym means)

        few-k : k ≤ 16
        few-k = views_few x.views.views

        agree : (e a : ℕ) → e < p.edges → a < k → bit usable a ≡ true → matches rows e a ≡ matches (table_of part-of) e a
        agree e a h l y = ap (λ (t : List ℕ). matches t e a) part-rows-are ∙ columns_agree usable (table_of part-of) k few-k p.edges e a h l y

        -- they cover it
        table-covers : covers_in (table_of part-of) usable k p.edges ≡ true
        unfolding part_from
        table-covers =
            let P = pattern_of (pattern_fields part) in
            let us = usable_views (quoted_as x.query x.views usable) in
            let few : length P.edges ≤ 32 = omega (arith, query_number part_query, query_few part_query) in
            let c : T (covered P us) = subst (λ R. T (covered R us)) (sym means)
            (had_covered whole (formed_of (plain x.query)).sound few_nodes us (usable_sound whole (formed_of (plain x.query)).sound few_nodes (few_links x.query x.views usable x.table_is x.matched) views each_sound usable)) in
            ap₂ (λ (n m : ℕ). covers_in (mapping P views) usable n m) (sym (views_many x.views.views x.views.one_way)) (sym (query_number part_query))
            ∙ (set_covers_exactly P views usable (few_views x.query x.views usable x.table_is x.matched) few).1 c

        pub part_covers : covers_in rows usable k p.edges ≡ true
        part_covers = covers_same rows (table_of part-of) usable k p.edges agree usable (λ a h. h) ∙ table-covers

        -- its answer, by the views that its own quote chooses
        module _ {set : ℕ} (by : set ≡ chosen rows usable p.edges k) (answer : List ℕ) where
          chosen_is : set ≡ chosen (table_of part-of) usable p.edges k
          chosen_is = by ∙ chosen_same rows (table_of part-of) usable k p.edges agree

          used_all : set ≡ used (table_of part-of) usable p.edges k
          used_all = chosen_is ∙ sym (used_covered (table_of part-of) usable p.edges k table-covers)

          none_left : p.edges ≡ lowest_unmatched (table_of part-of) set k p.edges
          none_left = used_lowest part_query x.views usable refl used_all (lowest_whole (table_of part-of) usable k p.edges table-covers)

          -- they are among the usable ones, whose columns the rows have
          rows-have : (i a : ℕ) → i < p.edges → a < k → Has set a → get_or rows (16 * i + a) 0 ≡ get_or (table_of part-of) (16 * i + a) 0
          rows-have i a h l c =
              let y : bit usable a ≡ true = chosen_within (table_of part-of) usable p.edges k a (sym (ap (λ (n : ℕ). bit n a) chosen_is) ∙ (test_is (bit set a)).1 c) in
              let z : (16 * i + a) % 16 ≡ a = omega (arith, few-k) in
              ap (λ (t : List ℕ). get_or t (16 * i + a) 0) part-rows-are ∙ column_in usable (table_of part-of) (16 * i + a) (ap (bit usable) z ∙ y)

          pub part_agrees : Agrees p rows set s counts k (views_in set (view_patterns (offer_of x.views)) (sheets_in (edge_counts x.views.views.content) x.book.fields))
          part_agrees = book_agrees part_query x.views s usable refl set answer x.book none_left rows rows-have

          pub part_answer_is : answer_for used_by s (length answer) (part_quoted (quoted_as x.query x.views usable))
              ≡ fit_file (length answer) (sheet_bytes (answer_sets (pattern_in p) (views_in set (view_patterns (offer_of x.views)) (sheets_in (edge_counts x.views.views.content) x.book.fields))))
          unfolding answer_for
          part_answer_is =
              ap (λ (n : ℕ). judged (read_book x.views.views.content s) (λ bs. answer_in n (quoted_as part_query x.views usable) bs (length answer))) (sym (used_is part_query x.views usable refl used_all))
              ∙ covered_is part_query x.views s usable refl set answer x.book none_left (omega arith)

-- ---- what the call answers, once what the client brings is handed on
pub part_unloaded : (s : List ℕ) (room room' : ℕ) (y : Quoted) {n d : ℕ} → ((a : List ℕ → Outcome) → judged (read_book y.offer.content s) (λ bs. within_pairs y.offer.content bs (a bs)) ≡ refuse n d)
    → part_for s room room' y ≡ refuse n d
unfolding part_for
part_unloaded s room room' y e = e _

module _ {f : (Quoted → Outcome) → Outcome} {r : Judged} (h : Handed f r) {taken : ℕ} (mask : Mask (Passing (λ e. matched_in r.table r.usable e r.views) r.query.edges) taken) (s : List ℕ)
    {d : ℕ} {w : List ℕ} (b : Loaded h.views.views.content s r.edges r.views d w) (room room' : ℕ) where
  pub part_none : taken ≡ 0 → part_for s room room' (quoted_as h.query h.views r.usable) ≡ refuse 11 0
  unfolding part_for
  part_none z = judged_accepted _ b.is ∙ b.few _ ∙ rw (taken_none h.query h.views r.usable h.table mask z)

  pub part_some : (taken ≡ 0 → ⊥)
      → part_for s room room' (quoted_as h.query h.views r.usable)
      ≡ fit_part room (part_bytes (quoted_as h.query h.views r.usable)) (answer_for used_by s room' (part_quoted (quoted_as h.query h.views r.usable)))
  unfolding part_for
  part_some z = judged_accepted _ b.is ∙ b.few _ ∙ rw (taken_some h.query h.views r.usable h.table mask z)

-- ---- two outputs: the part of n bytes, and its answer

-- an output before that of an answer
abbrev fitted : List ℕ → Bool → Outcome
fitted o b = pick b (refuse 12 (length o)) (give [] (o ∷ []))

module _ (part answer p o : List ℕ) {part' answer' : List ℕ} where
  refused_first : (x : Refusal) → part' ≡ part → (b : Bool) → FulfilsOne (fitted o b) (reply_told (Err x)) answer answer'
      → Fulfils [] (with_first p (fitted o b)) (both_told (Err x)) (part ∷ answer ∷ []) (part' ∷ answer' ∷ [])
  unfolding with_first told_of outputs_of
  refused_first x q true g = record { result = g.result; outputs = ap₂ (λ (a b : List ℕ). a ∷ b ∷ []) q (ap (λ l. get_or l 0 []) g.outputs) }
  refused_first x q false g = absurd (let e = g.result in let z : number_of x ≡ 0 = cc in omega (arith, (refusal_numbered x).least))

  given_first : {n : ℕ} (m : ℕ) → n ≡ length p → n ≤ length part → part' ≡ sets part 0 p → (b : Bool) → FulfilsOne (fitted o b) (reply_told (Ok m)) answer answer'
      → Fulfils [] (with_first p (fitted o b)) (both_told (Ok (n, m))) (part ∷ answer ∷ []) (part' ∷ answer' ∷ [])
  unfolding with_first told_of outputs_of fronts
  given_first m z l q true g = absurd (let e = g.result in let z : ◌≡◌ {A = ℕ} 0 12 = cc in omega arith)
  given_first m z l q false g = record {
    result = let e = g.result in let y : m ≡ length o = cc in ap₂ (λ (a b : ℕ). told 0 (a ∷ b ∷ [])) z y;
    outputs = ap₂ (λ (a b : List ℕ). a ∷ b ∷ []) (q ∙ sets_front part p (omega arith)) (ap (λ l. get_or l 0 []) g.outputs);
  }

module _ (part answer p : List ℕ) {n : ℕ} (size : n ≡ length p) where
  pub part_tight : (a : Outcome) {part' answer' : List ℕ} → length part < n → part' ≡ part → answer' ≡ answer
      → Fulfils [] (fit_part (length part) p a) (told 12 (n ∷ [])) (part ∷ answer ∷ []) (part' ∷ answer' ∷ [])
  unfolding fit_part told_of outputs_of
  part_tight a h q r = let e = lt-ltb (length part) (length p) (omega (arith, size)) in record { result = rw (e, size); outputs = rw (e, q, r) }

  module _ (fits : n ≤ length part) (o : List ℕ) where
    fits-is : fit_part (length part) p (fit_file (length answer) o) ≡ with_first p (pick (over_file (length answer) (length o)) (refuse 12 (length o)) (give [] (o ∷ [])))
    unfolding fit_part
    fits-is = let e = le-ltb (length part) (length p) (omega (arith, size)) in rw (e, fit_file_fits.is (length answer) o)

    -- the answer is refused
    pub part_refused : (x : Refusal) {part' answer' : List ℕ} → part' ≡ part → FulfilsOne (fit_file (length answer) o) (reply_told (Err x)) answer answer'
        → Fulfils [] (fit_part (length part) p (fit_file (length answer) o)) (both_told (Err x)) (part ∷ answer ∷ []) (part' ∷ answer' ∷ [])
    part_refused x q g = rw fits-is (refused_first part answer p o x q (over_file (length answer) (length o)) (rw (fit_file_fits.is (length answer) o) at g))

    -- both are given
    pub part_given : (m : ℕ) {part' answer' : List ℕ} → part' ≡ sets part 0 p → FulfilsOne (fit_file (length answer) o) (reply_told (Ok m)) answer answer'
        → Fulfils [] (fit_part (length part) p (fit_file (length answer) o)) (both_told (Ok (n, m))) (part ∷ answer ∷ []) (part' ∷ answer' ∷ [])
    part_given m q g = rw fits-is (given_first part answer p o m size fits q (over_file (length answer) (length o)) (rw (fit_file_fits.is (length answer) o) at g))
