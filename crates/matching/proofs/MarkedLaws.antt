-- What the mask of an edge in the workspace says of the lists: the edge matches exactly those edges of the pattern that its mask names.
use Prim.Native.Nat.{ℕ, zero, suc, ◌+◌, ◌/◌, ◌%◌, ◌^◌, ◌<◌}
use mathlib.Core.Path.{◌≡◌, refl, sym, ap, ap₂, subst, ◌∙◌}
use mathlib.Core.Bool.{Bool, true, false, not, ◌&&◌}
use mathlib.Core.Logic.{◌⊎◌, inl, inr, ⊎_elim}
use mathlib.Core.List.{List, [], ◌∷◌}
use lib.ListN.{length, take, drop, get_or, length-map, get_or-map}
use lib.Seq.{get_or-take, get_or-drop, length-take-le}
use lib.Dec.{T, eqb}
use lib.Pow.{pow_pos}
use native.Mathlib.Omega.{arith}
use native.Mathlib.Nat.{lt_irrefl, mod-lt}
use borrow.Author.Tests.{eqb-true, eqb-false}
use Rattle.packed.specs.Format.{pick}
use Rattle.packed.specs.Formats.{code}
use Rattle.packed.specs.Contents.{word_kind, word_rank}
use Rattle.packed.specs.Matches.{marks, marked, marked_from, any_empty, emptied, all_or_none, pair_in, codes_of, masks_of, matches_from}
use Rattle.packed.specs.Matches.{Marked as MarkedPairs}
use Rattle.packed.specs.declared.by_value.Pattern.{Pattern as Given}
use Rattle.packed.proofs.OrderCases.{trichotomy}
use Rattle.packed.proofs.SetBits.{bit_low}
use Rattle.engine.specs.Lists.{In, here, there}
use Rattle.engine.specs.Simulation.{Edge, no_edge, bit}
use Rattle.engine.specs.Loaded.{given_edge, edge_of_word, pattern_in, Fair}
use Rattle.engine.specs.Masks.{Has, OneOf}
use Rattle.engine.specs.Matched.{Rises}
use Rattle.matching.specs.Join.{is_match, some_match}
use Rattle.matching.specs.Asking.{listed_by}
use Rattle.engine.proofs.ListLaws.{same_test, not_in_none, in_cases, in_cast}
use Rattle.engine.proofs.UpToLaws.{length_up_to, get_d_up_to}
use Rattle.engine.proofs.MaskBits.{has_say, has_by, none_has, above_say, above_by, lowest_has}
use Rattle.engine.proofs.MatchedLaws.{marks_bit}
use Rattle.engine.proofs.RankLaws.{pair_code}
use Rattle.matching.proofs.JoinLaws.{match_say, match_by, some_match_say, some_match_by}

-- ---- marked lists
pub rest_at : {A : Type 0} (l : List A) (a : ℕ) (d : A) → get_or (drop 1 l) a d ≡ get_or l (suc a) d
rest_at [] a d = refl
rest_at (x ∷ l) a d = refl

-- one more in front, if b
module _ {A : Type 0} (b : Bool) (x : A) (l : List A) where
  pub pick_say : {y : A} → In y (pick b (x ∷ l) l) → (T b × (y ≡ x)) ⊎ In y l
  pick_say {y} = by b
    where
      by : (c : Bool) → In y (pick c (x ∷ l) l) → (T c × (y ≡ x)) ⊎ In y l
      by true i = ⊎_elim (λ e. inl (tt, e)) inr (in_cases i)
      by false i = inr i

  pub pick_first : T b → In x (pick b (x ∷ l) l)
  pick_first = by b
    where
      by : (c : Bool) → T c → In x (pick c (x ∷ l) l)
      by true t = here refl
      by false t = absurd t

  pub pick_rest : {y : A} → In y l → In y (pick b (x ∷ l) l)
  pick_rest {y} i = by b
    where
      by : (c : Bool) → In y (pick c (x ∷ l) l)
      by true = there i
      by false = i

-- a code is listed under the edge f exactly if it stands with a mask that names f
module _ (f : ℕ) where
  marked_say : (ps qs : List ℕ) {c : ℕ} → In c (marked f ps qs) → OneOf (length ps) (λ i. T (marks f (get_or qs i 0)) × (c ≡ get_or ps i 0))
  unfolding marked
  marked_say [] qs i = absurd (not_in_none i)
  marked_say (p ∷ ps) qs {c} i =
      ⊎_elim
      (λ x. record { at = 0; below = omega arith; holds = x })
      (λ j. let r = marked_say ps (drop 1 qs) {c = c} j in record {
        at = suc r.at;
        below = omega (arith, r.below);
        holds = (subst (λ (x : ℕ). T (marks f x)) (rest_at qs r.at 0) r.holds.0, r.holds.1);
      })
      (pick_say (marks f (get_or qs 0 0)) p (marked f ps (drop 1 qs)) i)

  marked_by : (ps qs : List ℕ) (i : ℕ) → i < length ps → T (marks f (get_or qs i 0)) → In (get_or ps i 0) (marked f ps qs)
  unfolding marked
  marked_by [] qs i h t = absurd (omega arith)
  marked_by (p ∷ ps) qs zero h t = pick_first (marks f (get_or qs 0 0)) p (marked f ps (drop 1 qs)) t
  marked_by (p ∷ ps) qs (suc i) h t =
      pick_rest (marks f (get_or qs 0 0)) p (marked f ps (drop 1 qs))
      (marked_by ps (drop 1 qs) i (omega arith) (subst (λ (x : ℕ). T (marks f x)) (sym (rest_at qs i 0)) t))

-- the list of an edge among those of so many
from_at_lem : (e k f : ℕ) (ps qs : List ℕ) → f < k → get_or (marked_from e k ps qs) f [] ≡ marked (e + f) ps qs
unfolding marked_from
from_at_lem e zero f ps qs h = absurd (omega arith)
from_at_lem e (suc k) zero ps qs h = ap (λ (i : ℕ). marked i ps qs) (omega arith)
from_at_lem e (suc k) (suc f) ps qs h = from_at_lem (suc e) k f ps qs (omega arith) ∙ ap (λ (i : ℕ). marked i ps qs) (omega arith)

emptied_at : (ls : List (List ℕ)) (f : ℕ) → get_or (emptied ls) f [] ≡ []
unfolding emptied
emptied_at [] f = refl
emptied_at (l ∷ ls) zero = refl
emptied_at (l ∷ ls) (suc f) = emptied_at ls f

-- ---- the edges of a pattern that is given by value
pub given_long : (p : Given) → length (pattern_in p).edges ≡ p.edges
unfolding pattern_in
given_long p = length_up_to (given_edge p) p.edges

pub given_at : (p : Given) (f : ℕ) → f < p.edges → get_or (pattern_in p).edges f no_edge ≡ given_edge p f
unfolding pattern_in
given_at p f h = get_d_up_to (given_edge p) p.edges f no_edge h

positive : (x : ℕ) → (x ≡ 0 → ⊥) → 0 < x
positive zero n = absurd (n refl)
positive (suc x) n = omega arith

-- ---- some of a mask's bits
module _ (x o k : ℕ) where
  part_say : (f : ℕ) → f < k → Has (x / 2 ^ o % 2 ^ k) f → Has x (o + f)
  part_say f h t = above_say x o f (has_by (x / 2 ^ o) f (sym (bit_low (x / 2 ^ o) k f h) ∙ has_say (x / 2 ^ o % 2 ^ k) f t))

  part_by : (f : ℕ) → f < k → Has x (o + f) → Has (x / 2 ^ o % 2 ^ k) f
  part_by f h t = has_by (x / 2 ^ o % 2 ^ k) f (bit_low (x / 2 ^ o) k f h ∙ has_say (x / 2 ^ o) f (above_by x o f t))

-- ---- the masks, whose bits from o on name the edges es, each of the kind of the word
module _ (es : List Edge) (o : ℕ) {m : ℕ} {w : List ℕ} (mk : MarkedPairs m w) (rises : Rises m w)
    (only : (i f : ℕ) → i < m → f < length es → Has (get_or w (8192 + i) 0) (o + f) → (get_or es f no_edge).kind ≡ word_kind (get_or w i 0)) where
  abbrev codes : List ℕ
  codes = codes_of m w

  abbrev masks : List ℕ
  masks = masks_of m w

  codes_long : length codes ≡ m
  codes_long = length-map (take m w) pair_in ∙ length-take-le m w (omega (arith, mk.most, mk.long))

  code_at : (i : ℕ) → i < m → get_or codes i 0 ≡ pair_in (get_or w i 0)
  code_at i h = get_or-map pair_in (take m w) i 0 ∙ ap pair_in (get_or-take m w i 0 h)

  mask_at_lem : (i : ℕ) → i < m → get_or masks i 0 ≡ get_or w (8192 + i) 0
  mask_at_lem i h = get_or-take m (drop 8192 w) i 0 h ∙ get_or-drop 8192 w i 0

  -- each edge stands there once
  alone : (i j : ℕ) → i < m → j < m → get_or w j 0 ≡ get_or w i 0 → j ≡ i
  alone i j h l e =
      let r = ap word_rank e in
      trichotomy j i
      (λ p. absurd (lt_irrefl _ (subst (λ (x : ℕ). x < word_rank (get_or w i 0)) r (rises j i p h))))
      (λ q. q)
      (λ p. absurd (lt_irrefl _ (subst (λ (x : ℕ). word_rank (get_or w i 0) < x) r (rises i j p l))))

  named : (i f : ℕ) → i < m → T (marks f (get_or masks i 0)) → Has (get_or w (8192 + i) 0) f
  named i f h t = subst T (marks_bit f (get_or w (8192 + i) 0)) (subst (λ (x : ℕ). T (marks f x)) (mask_at_lem i h) t)

  module _ (i : ℕ) (below : i < m) where
    abbrev edge : Edge
    edge = edge_of_word (get_or w i 0)

    abbrev mask : ℕ
    mask = get_or w (8192 + i) 0

    -- it matches one of the edges exactly if its mask names that
    pub part_test : (f : ℕ) → f < length es → is_match (edge_of_word (get_or w i 0)) (get_or es f no_edge) (marked (o + f) (codes_of m w) (masks_of m w)) ≡ bit (get_or w (8192 + i) 0) (o + f)
    part_test f h =
        same_test _ _
        (λ t.
        let s = match_say edge (get_or es f no_edge) (marked (o + f) codes masks) t in
        let c = marked_say (o + f) codes masks s.1 in
        let j : c.at < m = omega (arith, c.below, codes_long) in
        let d = only c.at f j h (named c.at (o + f) j c.holds.0) in
        let a : pair_in (get_or w c.at 0) ≡ pair_in (get_or w i 0) = sym (c.holds.1 ∙ code_at c.at j) ∙ sym (pair_code (get_or w i 0)) in
        let b : get_or w c.at 0 / 2 ^ 24 ≡ get_or w i 0 / 2 ^ 24 = sym d ∙ s.0 in
        subst (λ (j : ℕ). Has (get_or w (8192 + j) 0) (o + f)) (alone i c.at below j (omega (arith, a, b))) (named c.at (o + f) j c.holds.0))
        (λ t.
        let y : T (marks (o + f) (get_or masks i 0)) = subst (λ (z : ℕ). T (marks (o + f) z)) (sym (mask_at_lem i below)) (subst T (sym (marks_bit (o + f) mask)) t) in
        match_by edge (get_or es f no_edge) (only i f below h t)
        (in_cast (code_at i below ∙ pair_code (get_or w i 0)) (marked_by (o + f) codes masks i (omega (arith, codes_long)) y)))

    abbrev lists : List (List ℕ)
    lists = marked_from o (length es) codes masks

    abbrev own : ℕ
    own = mask / 2 ^ o % 2 ^ length es

    -- it matches some edge exactly if its mask names one
    named-matches : (f : ℕ) → f < length es → Has own f → T (some_match edge es lists)
    named-matches f h t =
        let s = match_say edge (get_or es f no_edge) (marked (o + f) codes masks) (subst T (sym (part_test f h)) (part_say mask o (length es) f h t)) in
        some_match_by edge es lists f h s.0 (subst (λ (l : List ℕ). In (code edge.from edge.to) l) (sym (from_at_lem o (length es) f codes masks h)) s.1)

    matches-named : T (some_match edge es lists) → own ≡ 0 → ⊥
    matches-named t z =
        let s = some_match_say edge es lists t in
        let f : ℕ = s.0 in
        let q : T (is_match edge (get_or es f no_edge) (marked (o + f) codes masks)) =
        match_by edge (get_or es f no_edge) s.2 (subst (λ (l : List ℕ). In (code edge.from edge.to) l) (from_at_lem o (length es) f codes masks s.1) s.3) in
        none_has f (subst (λ (x : ℕ). Has x f) z (part_by mask o (length es) f s.1 (subst T (part_test f s.1) q)))

    emptied-matches : T (some_match edge es (emptied lists)) → ⊥
    emptied-matches t =
        let s = some_match_say edge es (emptied lists) t in
        not_in_none (subst (λ (l : List ℕ). In (code edge.from edge.to) l) (emptied_at lists s.0) s.3)

    -- the lists have it exactly if its mask names one of their edges and no list is empty
    pub listed_test : listed_by o (length es) m w (get_or w (8192 + i) 0) ≡ some_match (edge_of_word (get_or w i 0)) es (matches_from o m (length es) w)
    unfolding listed_by matches_from all_or_none
    listed_test = go (any_empty lists) (eqb own 0) refl
      where
        go : (b c : Bool) → eqb own 0 ≡ c → (not c && not b) ≡ some_match edge es (pick b (emptied lists) lists)
        go true true e = same_test false _ (λ t. absurd t) (λ t. emptied-matches t)
        go true false e = same_test false _ (λ t. absurd t) (λ t. emptied-matches t)
        go false true e = same_test false _ (λ t. absurd t) (λ t. matches-named t (eqb-true own 0 e))
        go false false e =
            let b = lowest_has (length es) own (positive own (eqb-false own 0 e)) (mod-lt (mask / 2 ^ o) (pow_pos (length es))) in
            same_test true _ (λ t. named-matches _ b.0 b.1) (λ t. tt)

-- ---- the masks of one pattern, given by value
module _ {p : Given} {m : ℕ} {w : List ℕ} (fair : Fair p) (mk : MarkedPairs m w) (rises : Rises m w)
    (within : (i f : ℕ) → i < m → f < 32 → Has (get_or w (8192 + i) 0) f → (f < p.edges) × (get_or p.kind f 0 ≡ word_kind (get_or w i 0))) where
  -- an edge matches one of the pattern exactly if its mask names that
  pub match_test : (i : ℕ) → i < m → (f : ℕ) → f < p.edges
      → is_match (edge_of_word (get_or w i 0)) (given_edge p f) (marked f (codes_of m w) (masks_of m w)) ≡ bit (get_or w (8192 + i) 0) f
  match_test i below f h =
      let z : 0 + f ≡ f = omega arith in
      ap₂ (λ (g : Edge) (j : ℕ). is_match (edge_of_word (get_or w i 0)) g (marked j (codes_of m w) (masks_of m w))) (sym (given_at p f h)) (sym z)
      ∙ part_test (pattern_in p).edges 0 mk rises
      (λ i f l u t.
      let q : f < p.edges = omega (arith, given_long p) in
      ap (λ (g : Edge). g.kind) (given_at p f q) ∙ (within i f l (omega (arith, fair.edges)) (subst (λ (j : ℕ). Has (get_or w (8192 + i) 0) j) {x = 0 + f} {y = f} (omega arith) t)).1)
      i below f (omega (arith, given_long p))
      ∙ ap (bit (get_or w (8192 + i) 0)) z
