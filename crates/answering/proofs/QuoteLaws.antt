-- What the table of a quote says: which edges of a view match an edge of the query, whether the query is covered, and the lowest unmatched edge.
use Prim.Native.Nat.{ℕ, zero, suc, ◌+◌, ◌*◌, ◌/◌, ◌%◌, ◌^◌, ◌<◌, ◌≤◌}
use mathlib.Core.Path.{◌≡◌, refl, sym, ap, subst, ◌∙◌}
use mathlib.Core.Bool.{Bool, true, false, not}
use mathlib.Core.Logic.Iff
use mathlib.Core.Logic.{◌↔◌, ⊎_elim}
use mathlib.Core.List.{List, [], ◌∷◌}
use lib.ListN.{length, get_or}
use lib.Dec.{T, eqb}
use lib.Pow.{shr-shr}
use borrow.Author.Tests.{ne_eqb, lt-ltb}
use native.Mathlib.Nat.{div-one}
use native.Mathlib.Omega.{arith}
use Rattle.packed.specs.Format.{pick}
use Rattle.packed.specs.Formats.{code}
use Rattle.engine.specs.Lists.{◌or◌, In, here, there}
use Rattle.engine.specs.Simulation.{Edge, no_edge, Pattern, bit, as_graph, view_sheet}
use Rattle.engine.specs.Masks.{OneOf}
use Rattle.matching.specs.Join.{is_match, some_match, matched_by, matched, covered}
use Rattle.engine.proofs.ListLaws.{not_in_none, in_cases, in_at, every_in, in_every, some_in, in_some}
use Rattle.engine.proofs.UpToLaws.{get_d_up_to}
use Rattle.engine.proofs.MatchLaws.{Sim, Total}
use Rattle.matching.proofs.JoinLaws.{match_say, match_by, some_match_say, some_match_by}
use Rattle.matching.proofs.MatchSetLaws.{view_sheet_lem, view_length}
use Rattle.matching.proofs.Listed.{listed_matches}
use Rattle.containment.specs.Choice.{matches, covers_in, every_view, lowest_unmatched}
use Rattle.containment.specs.Quote.{one, mask_in, match_mask, no_pattern, mask_at, mapping, views_in_set}
use Rattle.containment.proofs.SetBits.{never, bit_half, bit_every}
use Rattle.containment.proofs.ChoiceLaws.{MatchedBy, matched_say as matched-in-table, matched_by_lem as matched-by-table, covers_exactly, lowest_is, lowest_below}

-- a test as an equation
pub test_is : (b : Bool) → (b ≡ true) ↔ T b
test_is true = (λ _. tt, λ _. refl)
test_is false = (λ h. never (sym h), λ h. absurd h)

-- a member stands at a place
pub place_of : {A : Type 0} (d : A) {x : A} {l : List A} → In x l → OneOf (length l) (λ i. x ≡ get_or l i d)
place_of d (here e) = record { at = 0; below = omega arith; holds = e }
place_of d (there i) = let r = place_of d i in record { at = suc r.at; below = omega (arith, r.below); holds = r.holds }

-- ---- the views in a set

-- they are among all views, by their numbers
abbrev ChosenAt : ℕ → List Pattern → Pattern → Type 0
ChosenAt set Ps P = OneOf (length Ps) (λ a. (bit set a ≡ true) × (P ≡ get_or Ps a no_pattern))

pub chosen_say : (set : ℕ) (Ps : List Pattern) (P : Pattern) → In P (views_in_set set Ps) → ChosenAt set Ps P
unfolding views_in_set
chosen_say set [] P i = absurd (not_in_none i)
chosen_say set (R ∷ Ps) P i = step (bit set 0) refl i (λ j. let o = chosen_say (set / 2) Ps P j in record {
  at = suc o.at;
  below = omega (arith, o.below);
  holds = (bit_half set o.at ∙ o.holds.0, o.holds.1);
})
  where
    step : (b : Bool) → bit set 0 ≡ b → In P (pick b (R ∷ views_in_set (set / 2) Ps) (views_in_set (set / 2) Ps))
        → (In P (views_in_set (set / 2) Ps) → ChosenAt set (R ∷ Ps) P) → ChosenAt set (R ∷ Ps) P
    step true h j rest = ⊎_elim (λ e. record { at = 0; below = omega arith; holds = (h, e) }) rest (in_cases j)
    step false h j rest = rest j

pub chosen_in : (set : ℕ) (Ps : List Pattern) (a : ℕ) → a < length Ps → bit set a ≡ true → In (get_or Ps a no_pattern) (views_in_set set Ps)
unfolding views_in_set
chosen_in set [] a l h = absurd (omega arith)
chosen_in set (P ∷ Ps) zero l h = rw h (here refl)
chosen_in set (P ∷ Ps) (suc a) l h = later (bit set 0) (chosen_in (set / 2) Ps a (omega arith) (sym (bit_half set a) ∙ h))
  where
    later : (b : Bool) {x : Pattern} {l : List Pattern} → In x l → In x (pick b (P ∷ l) l)
    later true i = there i
    later false i = i

pub chosen_whole : (set : ℕ) (Ps : List Pattern) → ((a : ℕ) → a < length Ps → bit set a ≡ true) → views_in_set set Ps ≡ Ps
unfolding views_in_set
chosen_whole set [] h = refl
chosen_whole set (P ∷ Ps) h =
    let first = h 0 (omega arith) in
    let rest = chosen_whole (set / 2) Ps (λ a l. sym (bit_half set a) ∙ h (suc a) (omega arith)) in
    rw (first, rest)

-- by all views each of them
pub chosen_every : (Ps : List Pattern) → length Ps ≤ 16 → views_in_set every_view Ps ≡ Ps
chosen_every Ps few = chosen_whole every_view Ps (λ a l. bit_every a (omega arith))

-- ---- the edges that match, as a mask

-- a mask whose lowest bit is b
low : (b : Bool) (x : ℕ) → (one b + 2 * x) / 2 ^ 0 % 2 ≡ one b
low true x = let d = div-one (1 + 2 * x) in omega arith
low false x = let d = div-one (0 + 2 * x) in omega arith

one_is : (b : Bool) → eqb (one b) 1 ≡ b
one_is true = refl
one_is false = refl

first_bit : (b : Bool) (x : ℕ) → bit (one b + 2 * x) 0 ≡ b
unfolding bit
first_bit b x = ap (λ (y : ℕ). eqb y 1) (low b x) ∙ one_is b

half : (b : Bool) (x : ℕ) → (one b + 2 * x) / 2 ≡ x
half true x = omega arith
half false x = omega arith

later_bit : (b : Bool) (x f : ℕ) → bit (one b + 2 * x) (suc f) ≡ bit x f
unfolding bit
later_bit b x f =
    let z : suc f ≡ 1 + f = omega arith in
    ap (λ (y : ℕ). eqb (y % 2) 1)
    (ap (λ (k : ℕ). (one b + 2 * x) / 2 ^ k) z ∙ sym (shr-shr (one b + 2 * x) 1 f) ∙ ap (λ (y : ℕ). y / 2 ^ f) (half b x))

module _ (e : Edge) where
  mask_at_lem : (gs : List Edge) (ls : List (List ℕ)) (f : ℕ) → f < length gs → f < length ls → bit (mask_in e gs ls) f ≡ is_match e (get_or gs f no_edge) (get_or ls f [])
  unfolding mask_in
  mask_at_lem [] ls f h k = absurd (omega arith)
  mask_at_lem (g ∷ gs) [] f h k = absurd (omega arith)
  mask_at_lem (g ∷ gs) (l ∷ ls) zero h k = first_bit (is_match e g l) (mask_in e gs ls)
  mask_at_lem (g ∷ gs) (l ∷ ls) (suc f) h k = later_bit (is_match e g l) (mask_in e gs ls) f ∙ mask_at_lem gs ls f (omega arith) (omega arith)

  -- the mask names exactly the edges of its kind whose lists have it
  pub mask_exactly : (gs : List Edge) (ls : List (List ℕ)) (f : ℕ) → f < length gs → f < length ls
      → T (bit (mask_in e gs ls) f) ↔ (((get_or gs f no_edge).kind ≡ e.kind) × In (code e.from e.to) (get_or ls f []))
  mask_exactly gs ls f h k =
      let q = mask_at_lem gs ls f h k in (
        λ t. match_say e (get_or gs f no_edge) (get_or ls f []) (subst T q t),
        λ r. subst T (sym q) (match_by e (get_or gs f no_edge) r.0 r.1),
      )

  -- it is not 0 exactly if some edge matches
  mask_step : (b : Bool) (x : ℕ) (rest : Bool) → not (eqb x 0) ≡ rest → not (eqb (one b + 2 * x) 0) ≡ (b or rest)
  unfolding ◌or◌
  mask_step true x rest h = ap not (ne_eqb (1 + 2 * x) 0 (λ (z : 1 + 2 * x ≡ 0). omega arith))
  mask_step false zero rest h = h
  mask_step false (suc x) rest h = ap not (ne_eqb (0 + 2 * suc x) 0 (λ (z : 0 + 2 * suc x ≡ 0). omega arith) ∙ sym (ne_eqb (suc x) 0 (λ (z : suc x ≡ 0). omega arith))) ∙ h

  mask_some : (gs : List Edge) (ls : List (List ℕ)) → not (eqb (mask_in e gs ls) 0) ≡ some_match e gs ls
  unfolding mask_in some_match
  mask_some [] ls = refl
  mask_some (g ∷ gs) [] = refl
  mask_some (g ∷ gs) (l ∷ ls) = mask_step (is_match e g l) (mask_in e gs ls) (some_match e gs ls) (mask_some gs ls)

-- ---- the table
module _ (Q : Pattern) (Ps : List Pattern) (few_edges : length Q.edges ≤ 32) where
  abbrev edge : ℕ → Edge
  edge i = get_or Q.edges i no_edge

  abbrev view : ℕ → Pattern
  view a = get_or Ps a no_pattern

  mask_is : (k i a : ℕ) → k / 16 ≡ i → k % 16 ≡ a → i < length Q.edges → a < length Ps → mask_at Q Ps k ≡ match_mask Q (edge i) (view a)
  unfolding mask_at
  mask_is k i a p q h l = let x = lt-ltb i (length Q.edges) h in let y = lt-ltb a (length Ps) l in rw (p, q, x, y)

  -- what stands in the table for the edge i and the view a
  mapping_at : (i a : ℕ) → i < length Q.edges → a < length Ps → a < 16
      → get_or (mapping Q Ps) (16 * i + a) 0 ≡ mask_in (edge i) (view a).edges (view_sheet (view a) (as_graph Q))
  unfolding mapping match_mask
  mapping_at i a h l few = get_d_up_to (mask_at Q Ps) 512 (16 * i + a) 0 (omega arith) ∙ mask_is (16 * i + a) i a (omega arith) (omega arith) h l

  -- the edges of a view that match the edge i, exactly: those of its kind whose match sets, on the query read as a graph, have it
  pub mapping_exactly : (i a : ℕ) → i < length Q.edges → a < length Ps → a < 16 → (f : ℕ) → f < length (get_or Ps a no_pattern).edges
      → T (bit (get_or (mapping Q Ps) (16 * i + a) 0) f)
      ↔ (((get_or (get_or Ps a no_pattern).edges f no_edge).kind ≡ (get_or Q.edges i no_edge).kind)
      × In (code (get_or Q.edges i no_edge).from (get_or Q.edges i no_edge).to) (get_or (view_sheet (get_or Ps a no_pattern) (as_graph Q)) f []))
  mapping_exactly i a h l few f k =
      rw (mapping_at i a h l few) (mask_exactly (edge i) (view a).edges (view_sheet (view a) (as_graph Q)) f k (omega (arith, view_length (view a) (as_graph Q))))

  matches_is : (i a : ℕ) → i < length Q.edges → a < length Ps → a < 16 → matches (mapping Q Ps) i a ≡ matched_by Q (edge i) (view a)
  unfolding matches matched_by
  matches_is i a h l few = ap (λ (x : ℕ). not (eqb x 0)) (mapping_at i a h l few) ∙ mask_some (edge i) (view a).edges (view_sheet (view a) (as_graph Q))

  -- the table says exactly which views match an edge
  pub matched_exactly : (i a : ℕ) → i < length Q.edges → a < length Ps → a < 16
      → (matches (mapping Q Ps) i a ≡ true) ↔ T (matched_by Q (get_or Q.edges i no_edge) (get_or Ps a no_pattern))
  matched_exactly i a h l few =
      let e = matches_is i a h l few in
      let t = test_is (matched_by Q (edge i) (view a)) in
      (λ p. t.0 (sym e ∙ p), λ p. e ∙ t.1 p)

  module _ (few : length Ps ≤ 16) (set : ℕ) where
    -- an edge is matched by the views in the set exactly if the table has one of them that matches it
    pub matched_places : (i : ℕ) → i < length Q.edges → T (matched Q (views_in_set set Ps) (get_or Q.edges i no_edge)) ↔ MatchedBy (mapping Q Ps) set i (length Ps)
    unfolding matched
    matched_places i h = (
      λ t.
          let r = some_in (matched_by Q (edge i)) (views_in_set set Ps) t in
          let o = chosen_say set Ps r.0 r.1 in
          let l = o.below in
          record { at = o.at; below = l; holds = (o.holds.0, (matched_exactly i o.at h l (omega arith)).1 (subst (λ P. T (matched_by Q (edge i) P)) o.holds.1 r.2)) },
      λ o.
          let l = o.below in
          in_some (matched_by Q (edge i)) (chosen_in set Ps o.at l o.holds.0) ((matched_exactly i o.at h l (omega arith)).0 o.holds.1),
    )

every_edge : (Q : Pattern) (Ps : List Pattern) → T (covered Q Ps) ↔ ((i : ℕ) → i < length Q.edges → T (matched Q Ps (get_or Q.edges i no_edge)))
unfolding covered
every_edge Q Ps = (
  λ t i h. every_in (matched Q Ps) t (in_at Q.edges i no_edge h),
  λ f. in_every (matched Q Ps) Q.edges (λ e j. let o = place_of no_edge j in subst (λ g. T (matched Q Ps g)) (sym o.holds) (f o.at o.below)),
)

-- ---- coverage
-- the table says that the views in a set cover the query exactly if they do
pub set_covers_exactly : (Q : Pattern) (Ps : List Pattern) (set : ℕ) → length Ps ≤ 16 → length Q.edges ≤ 32
    → (covers_in (mapping Q Ps) set (length Ps) (length Q.edges) ≡ true) ↔ T (covered Q (views_in_set set Ps))
set_covers_exactly Q Ps set few few_edges =
    let c = covers_exactly (mapping Q Ps) set (length Ps) (length Q.edges) in
    let e = every_edge Q (views_in_set set Ps) in
    let m = matched_places Q Ps few_edges few set in (
      λ h. e.1 (λ i l. (m i l).1 (c.0 h i l)),
      λ t. c.1 (λ i l. (m i l).0 (e.0 t i l)),
    )

-- the quote says covered exactly if every edge of the query is matched
pub quote_covered_exactly : (Q : Pattern) (Ps : List Pattern) → length Ps ≤ 16 → length Q.edges ≤ 32
    → (covers_in (mapping Q Ps) every_view (length Ps) (length Q.edges) ≡ true) ↔ T (covered Q Ps)
quote_covered_exactly Q Ps few few_edges = rw (chosen_every Ps few) at (set_covers_exactly Q Ps every_view few few_edges)

-- a view of the list has an edge of the kind of e whose match set, on the query read as a graph, has e
pub record ListedEdge (Q : Pattern) (Ps : List Pattern) (e : Edge) : Type 0 where
  pub view : Pattern
  pub given : In view Ps
  pub at : ℕ
  pub below : at < length view.edges
  pub kind : (get_or view.edges at no_edge).kind ≡ e.kind
  pub lists : In (code e.from e.to) (get_or (view_sheet view (as_graph Q)) at [])

module _ (Q : Pattern) (Ps : List Pattern) where
  pub matched_say : (e : Edge) → T (matched Q Ps e) → ListedEdge Q Ps e
  unfolding matched matched_by
  matched_say e t =
      let p = some_in (matched_by Q e) Ps t in
      let r = some_match_say e p.0.edges (view_sheet p.0 (as_graph Q)) p.2 in
      record { view = p.0; given = p.1; at = r.0; below = r.1; kind = r.2; lists = r.3 }

  pub matched_by_lem : (e : Edge) → ListedEdge Q Ps e → T (matched Q Ps e)
  unfolding matched matched_by
  matched_by_lem e o = in_some (matched_by Q e) o.given (some_match_by e o.view.edges (view_sheet o.view (as_graph Q)) o.at o.below o.kind o.lists)

  pub covered_says : T (covered Q Ps) ↔ ((e : Edge) → In e Q.edges → ListedEdge Q Ps e)
  unfolding covered
  covered_says = (
    λ t e i. matched_say e (every_in (matched Q Ps) t i),
    λ f. in_every (matched Q Ps) Q.edges (λ e i. matched_by_lem e (f e i)),
  )

  -- the view then fits the query as a whole: every node of it has a partner
  pub listed_whole : (e : Edge) (o : ListedEdge Q Ps e) → Total o.view (Sim o.view (as_graph Q))
  listed_whole e o =
      let r = listed_matches o.view (as_graph Q) o.at o.below (code e.from e.to) (subst (λ ls. In (code e.from e.to) (get_or ls o.at [])) (view_sheet_lem o.view (as_graph Q)) o.lists) in
      r.2.whole

-- covered exactly if each edge of the query is in the match set of some edge, of its kind, of some view
pub quote_says_covered : (Q : Pattern) (Ps : List Pattern) → length Ps ≤ 16 → length Q.edges ≤ 32
    → (covers_in (mapping Q Ps) every_view (length Ps) (length Q.edges) ≡ true) ↔ ((e : Edge) → In e Q.edges → ListedEdge Q Ps e)
quote_says_covered Q Ps few few_edges = Iff.trans (quote_covered_exactly Q Ps few few_edges) (covered_says Q Ps)

-- ---- the lowest unmatched edge
-- the edge i of the query is not matched, and each lower one is
pub record LowestEdge (Q : Pattern) (Ps : List Pattern) (i : ℕ) : Type 0 where
  pub below : i < length Q.edges
  pub unmatched : T (matched Q Ps (get_or Q.edges i no_edge)) → ⊥
  pub lower : (j : ℕ) → j < i → T (matched Q Ps (get_or Q.edges j no_edge))

pub lowest_edge : (Q : Pattern) (Ps : List Pattern) (set : ℕ) → length Ps ≤ 16 → length Q.edges ≤ 32
    → covers_in (mapping Q Ps) set (length Ps) (length Q.edges) ≡ false
    → LowestEdge Q (views_in_set set Ps) (lowest_unmatched (mapping Q Ps) set (length Ps) (length Q.edges))
lowest_edge Q Ps set few few_edges n =
    let t = mapping Q Ps in
    let k = length Ps in
    let m = matched_places Q Ps few_edges few set in
    let l = (lowest_below t set k (length Q.edges)).1 n in
    let f = lowest_is t set k (length Q.edges) in
    record {
      below = l;
      unmatched = λ y. never (sym (matched-by-table t set _ k ((m _ l).0 y)) ∙ f.here l);
      lower = λ j p. (m j (omega arith)).1 (matched-in-table t set j k (f.lower j p));
    }
