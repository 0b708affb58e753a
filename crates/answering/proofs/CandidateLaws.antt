-- The candidates that the sheets of the views in a set give are those that a book's lists, by the query's table, have.
use Prim.Native.Nat.{ℕ, zero, suc, ◌+◌, ◌*◌, ◌/◌, ◌<◌}
use mathlib.Core.Path.{◌≡◌, sym, ap, subst, ◌∙◌}
use mathlib.Core.Bool.{cond}
use mathlib.Core.Logic.{⊎_elim, ◌↔◌}
use mathlib.Core.List.{List, [], ◌∷◌}
use lib.ListN.{length, take, drop, get_or}
use lib.Dec.{T}
use native.Mathlib.Omega.{arith}
use Rattle.packed.specs.Format.{ok, decode}
use Rattle.packed.specs.Formats.{code, book}
use Rattle.packed.specs.Contents.{edge_counts, sheets_in}
use Rattle.packed.specs.Walks.{field_or}
use Rattle.packed.specs.BookSheets.{sheet_at}
use Rattle.packed.proofs.Walks.{standing_most}
use Rattle.packed.specs.declared.by_value.Pattern.{Pattern as Given}
use Rattle.engine.specs.Lists.{In, gather}
use Rattle.engine.specs.Simulation.{Pair, Edge, no_edge, Pattern, bit, edges_in, pattern_of, as_graph, view_sheet}
use Rattle.engine.specs.Masks.{Has, OneOf}
use Rattle.engine.specs.Loaded.{given_edge}
use Rattle.matching.specs.Join.{is_match, View, pair_of, under, candidates}
use Rattle.matching.specs.Candidates.{SheetListingAt, BookListing}
use Rattle.matching.specs.Joining.{Agrees}
use Rattle.engine.proofs.ListLaws.{cond_case, not_in_none, in_cast, append_in, in_append_left, in_append_right, gather_in, in_gather, each_in, in_each}
use Rattle.matching.proofs.JoinLaws.{match_say, match_by}
use Rattle.matching.proofs.MatchSetLaws.{view_length}
use Rattle.matching.proofs.PatternLaws.{edges_many, pattern_same}
use Rattle.matching.proofs.OfferedLaws.{view_is, view_plain}
use Rattle.matching.specs.Offered.{offers, view_patterns}
use Rattle.containment.specs.Quote.{no_pattern, mapping}
use Rattle.containment.specs.Answer.{views_in}
use Rattle.containment.specs.Steps.{Query, Views}
use Rattle.matching.proofs.MarkedLaws.{rest_at, pick_say, pick_first, pick_rest}
use Rattle.containment.proofs.SetBits.{bit_half}
use Rattle.containment.proofs.QueryLaws.{plain, few_edges, query_number, query_edge}
use Rattle.containment.proofs.NotingLaws.{views_many as contents-many}
use Rattle.containment.proofs.AnswerLaws.{views_few, views_many}
use Rattle.answering.proofs.QuoteLaws.{mapping_exactly}
use Rattle.answering.proofs.BookLaws.{count_is, sheet_long, list_same, list_there}

-- ---- the views in a set, by their numbers
abbrev pub view_at : List Pattern → List (List (List ℕ)) → ℕ → View
view_at Ps sheets a = record { pattern = get_or Ps a no_pattern; sheet = get_or sheets a [] }

view_after : (P : Pattern) (Ps : List Pattern) (sheets : List (List (List ℕ))) (a : ℕ) → view_at Ps (drop 1 sheets) a ≡ view_at (P ∷ Ps) sheets (suc a)
view_after P Ps sheets a = ap (λ (l : List (List ℕ)). record { pattern = get_or Ps a no_pattern; sheet = l }) (rest_at sheets a [])

pub views_say : (set : ℕ) (Ps : List Pattern) (sheets : List (List (List ℕ))) {v : View} → In v (views_in set Ps sheets)
    → OneOf (length Ps) (λ a. Has set a × (v ≡ view_at Ps sheets a))
unfolding views_in
views_say set [] sheets i = absurd (not_in_none i)
views_say set (P ∷ Ps) sheets {v} i =
    ⊎_elim
    (λ x. record { at = 0; below = omega arith; holds = x })
    (λ j. let r = views_say (set / 2) Ps (drop 1 sheets) {v = v} j in record {
      at = suc r.at;
      below = omega (arith, r.below);
      holds = (subst T (sym (bit_half set r.at)) r.holds.0, r.holds.1 ∙ view_after P Ps sheets r.at);
    })
    (pick_say (bit set 0) (view_at (P ∷ Ps) sheets 0) (views_in (set / 2) Ps (drop 1 sheets)) i)

pub views_by : (set : ℕ) (Ps : List Pattern) (sheets : List (List (List ℕ))) (a : ℕ) → a < length Ps → Has set a → In (view_at Ps sheets a) (views_in set Ps sheets)
unfolding views_in
views_by set [] sheets a h b = absurd (omega arith)
views_by set (P ∷ Ps) sheets zero h b = pick_first (bit set 0) _ _ b
views_by set (P ∷ Ps) sheets (suc a) h b =
    pick_rest (bit set 0) _ _ (in_cast (view_after P Ps sheets a) (views_by (set / 2) Ps (drop 1 sheets) a (omega arith) (subst T (bit_half set a) b)))

-- ---- what a sheet lists under the edges that match an edge, by their numbers
module _ (e : Edge) where
  abbrev Matching : List Edge → List (List ℕ) → ℕ → Type 0
  Matching gs ms f = ((get_or gs f no_edge).kind ≡ e.kind) × In (code e.from e.to) (get_or ms f [])

  abbrev Under : List Edge → List (List ℕ) → List (List ℕ) → ℕ → Type 0
  Under gs ms ls c = OneOf (length ls) (λ f. Matching gs ms f × In c (get_or ls f []))

  pub under_say : (gs : List Edge) (ms ls : List (List ℕ)) {c : ℕ} → In c (under e gs ms ls) → Under gs ms ls c
  unfolding under
  under_say [] ms ls i = absurd (not_in_none i)
  under_say (g ∷ gs) [] ls i = absurd (not_in_none i)
  under_say (g ∷ gs) (m ∷ ms) [] i = absurd (not_in_none i)
  under_say (g ∷ gs) (m ∷ ms) (l ∷ ls) {c} i =
      ⊎_elim
      (cond_case (λ k. In c k → Under (g ∷ gs) (m ∷ ms) (l ∷ ls) c) (is_match e g m) l []
      (λ t j. record { at = 0; below = omega arith; holds = (match_say e g m t, j) })
      (λ t j. absurd (not_in_none j)))
      (λ j. let r = under_say gs ms ls {c = c} j in record { at = suc r.at; below = omega (arith, r.below); holds = r.holds })
      (append_in (cond (is_match e g m) l []) i)

  pub under_by : (gs : List Edge) (ms ls : List (List ℕ)) (f : ℕ) {c : ℕ} → f < length gs → f < length ms → f < length ls → Matching gs ms f → In c (get_or ls f [])
      → In c (under e gs ms ls)
  unfolding under
  under_by [] ms ls f n h k i j = absurd (omega arith)
  under_by (g ∷ gs) [] ls f n h k i j = absurd (omega arith)
  under_by (g ∷ gs) (m ∷ ms) [] f n h k i j = absurd (omega arith)
  under_by (g ∷ gs) (m ∷ ms) (l ∷ ls) zero {c} n h k i j =
      in_append_left (under e gs ms ls) (cond_case (λ x. In c x) (is_match e g m) l [] (λ t. j) (λ z. absurd (z (match_by e g i.0 i.1))))
  under_by (g ∷ gs) (m ∷ ms) (l ∷ ls) (suc f) n h k i j = in_append_right (cond (is_match e g m) l []) (under_by gs ms ls f (omega arith) (omega arith) (omega arith) i j)

-- ---- candidates by the numbers of a view in the set and of its edge
module _ (Q : Pattern) (set : ℕ) (Ps : List Pattern) (sheets : List (List (List ℕ))) (e : Edge) where
  -- the code c is listed under an edge f of a view a in the set, and f matches e
  pub record Offered (c : ℕ) : Type 0 where
    pub view : ℕ
    pub given : view < length Ps
    pub chosen : Has set view
    pub edge : ℕ
    pub below : edge < length (get_or sheets view [])
    pub kind : (get_or (get_or Ps view no_pattern).edges edge no_edge).kind ≡ e.kind
    pub matches : In (code e.from e.to) (get_or (view_sheet (get_or Ps view no_pattern) (as_graph Q)) edge [])
    pub lists : In c (get_or (get_or sheets view []) edge [])

  abbrev vs : List View
  vs = views_in set Ps sheets

  abbrev of_view : View → List ℕ
  of_view v = under e v.pattern.edges (view_sheet v.pattern (as_graph Q)) v.sheet

  pub offered_say : {f : Pair} → In f (candidates Q vs e) → (c : ℕ) × (f ≡ pair_of c) × Offered c
  unfolding candidates
  offered_say {f} i =
      let r = each_in pair_of (gather of_view vs) i in
      let c : ℕ = r.0 in
      let g = gather_in of_view vs r.1 in
      let o = views_say set Ps sheets g.1 in
      let P : Pattern = get_or Ps o.at no_pattern in
      let u = under_say e P.edges (view_sheet P (as_graph Q)) (get_or sheets o.at []) {c = c} (subst (λ v. In c (of_view v)) o.holds.1 g.2) in
      (c, r.2, record { view = o.at; given = o.below; chosen = o.holds.0; edge = u.at; below = u.below; kind = u.holds.0.0; matches = u.holds.0.1; lists = u.holds.1 })

  pub offered_by : {c : ℕ} (o : Offered c) → o.edge < length (get_or Ps o.view no_pattern).edges → In (pair_of c) (candidates Q vs e)
  unfolding candidates
  offered_by {c} o h =
      let P : Pattern = get_or Ps o.view no_pattern in
      in_each pair_of (in_gather of_view (views_by set Ps sheets o.view o.given o.chosen)
      (under_by e P.edges (view_sheet P (as_graph Q)) (get_or sheets o.view []) o.edge h (omega (arith, view_length P (as_graph Q))) o.below (o.kind, o.matches) o.lists))

-- ---- an accepted query, and a book that was accepted for the views of a catalogue
module _ {q : Given} (t : Query q) {c : List ℕ} {k : ℕ} (v : Views c k) (counts s bs : List ℕ) (same : take k counts ≡ edge_counts v.content)
    (e : decode (book (edge_counts v.content)) s ≡ ok bs) (one : ℕ) (table : List ℕ) (set : ℕ)
    (is : (i a : ℕ) → i < q.edges → a < k → Has set a → get_or table (16 * i + a) 0 ≡ get_or (mapping (pattern_of t.content) (view_patterns (offers v.content one))) (16 * i + a) 0) where
  abbrev Q : Pattern
  Q = pattern_of t.content

  abbrev Ps : List Pattern
  Ps = view_patterns (offers v.content one)

  abbrev sheets : List (List (List ℕ))
  sheets = sheets_in (edge_counts v.content) bs

  view_edges : (a : ℕ) → a < k → length (get_or Ps a no_pattern).edges ≡ get_or counts a 0
  unfolding pattern_of edges_in
  view_edges a h =
      ap (λ (P : Pattern). length P.edges) (view_is (offers v.content one) a no_pattern (omega (arith, contents-many v)))
      ∙ edges_many (view_plain c v.content v.is a (omega (arith, contents-many v))).1
      ∙ sym (count_is v counts s bs same e a h)

  -- the table says which edges of a view in the set match
  matches_exactly : (i a f : ℕ) → i < q.edges → a < k → Has set a → f < get_or counts a 0
      → Has (get_or table (16 * i + a) 0) f ↔ Matching (given_edge q i) (get_or Ps a no_pattern).edges (view_sheet (get_or Ps a no_pattern) (as_graph Q)) f
  matches_exactly i a f h l y j =
      let m = mapping_exactly Q Ps (omega (arith, query_number t, t.holds.edges, few_edges t)) i a (omega (arith, query_number t)) (omega (arith, views_many v one)) (omega (arith, views_few v)) f (omega (arith, view_edges a l)) in
      rw (← is i a h l y, query_edge t i h) at m

  abbrev Listing : ℕ → ℕ → Type 0
  Listing x i = BookListing s counts k table set q.edges x i

  offered : (i x : ℕ) → i < q.edges → Listing x i → In (pair_of x) (candidates Q (views_in set Ps sheets) (given_edge q i))
  offered i x h o =
      let a : ℕ = o.at in
      let l = o.below in
      let u = o.holds.1.under in
      let f : ℕ = u.at in
      let j = u.below in
      let n = standing_most (field_or s (sheet_at s 0 (take k counts) a) 1) (get_or counts a 0) in
      let m = (matches_exactly i a f h l o.holds.0 (omega arith)).0 u.holds.1 in
      offered_by Q set Ps sheets (given_edge q i)
      (record {
        view = a;
        given = omega (arith, views_many v one);
        chosen = o.holds.0;
        edge = f;
        below = omega (arith, sheet_long v counts s bs same e a l);
        kind = m.0;
        matches = m.1;
        lists = rw (← list_same v counts s bs same e a f l j) u.holds.0;
      })
      (omega (arith, view_edges a l))

  listing : (i x : ℕ) → i < q.edges → Offered Q set Ps sheets (given_edge q i) x → Listing x i
  listing i x h o =
      let a : ℕ = o.view in
      let f : ℕ = o.edge in
      let l : a < k = omega (arith, o.given, views_many v one) in
      let j : f < get_or counts a 0 = omega (arith, o.below, sheet_long v counts s bs same e a l) in
      let b = list_there v counts s bs same e a f x l o.lists in
      let u : SheetListingAt s (sheet_at s 0 (take k counts) a) (get_or counts a 0) table a q.edges x i =
      record { edge = h; under = record { at = f; below = b; holds = (rw (list_same v counts s bs same e a f l b) o.lists, (matches_exactly i a f h l o.chosen j).1 (o.kind, o.matches)) } } in
      record { at = a; below = l; holds = (o.chosen, u) }

  pub agrees_by : Agrees q table set s counts k (views_in set (view_patterns (offers v.content one)) (sheets_in (edge_counts v.content) bs))
  agrees_by =
      let p = pattern_same (plain t) t.holds in
      record {
        to = λ i x h o. rw p (offered i x h o);
        from = λ i f h j. let r = offered_say Q set Ps sheets (given_edge q i) (rw p at j) in (r.0, r.1, listing i r.0 h r.2);
      }
