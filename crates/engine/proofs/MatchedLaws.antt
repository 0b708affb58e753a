-- From the masks of the edges, which the steps of matching leave, to the match sets.
use Prim.Native.Nat.{ℕ, zero, suc, ◌+◌, ◌/◌, ◌%◌, ◌<◌}
use mathlib.Core.Path.{◌≡◌, refl, sym, ap, ap₂, subst, ◌∙◌}
use mathlib.Core.Bool.{Bool, true, false}
use mathlib.Core.List.{List, [], ◌∷◌}
use lib.ListN.{length, take, drop, get_or, length-drop, length-map, get_or-map}
use lib.Seq.{get_or-take, get_or-drop, length-take-le}
use lib.Dec.{T, eqb, eqb→eq, eqb_refl}
use native.Mathlib.Nat.{zero-add}
use native.Mathlib.Omega.{arith}
use Rattle.packed.specs.Format.{pick}
use Rattle.packed.specs.Formats.{code}
use Rattle.packed.specs.Distinct.{BelowHead, Increasing}
use Rattle.packed.specs.Contents.{distinct}
use Rattle.packed.specs.Matches.{marks, marked, marked_from, all_or_none, pair_in, codes_of, masks_of, matches_from, matches_of}
use Rattle.packed.specs.Matches.{Marked as MarkedPairs}
use Rattle.packed.specs.declared.by_value.Pattern.{Pattern as Given}
use Rattle.packed.proofs.DistinctLaws.{distinct_own}
use Rattle.packed.proofs.SheetLaws.{Rising, rising_none, rising_next, Fit, fit_next}
use Rattle.packed.proofs.MatchLaws.{fit_lists}
use Rattle.engine.specs.Lists.{◌and◌, In, each, keep, put, up_to}
use Rattle.engine.specs.Simulation.{Pair, Edge, as_pair, Rule, Pattern, ruled, sound, Graph, bit, has, sim, row, ascending, match_sets}
use Rattle.engine.specs.Loaded.{given_edge, edge_of_word, pattern_in, graph_in, Fair, Ready, Edges}
use Rattle.engine.specs.Sweeping.{kind_of}
use Rattle.engine.specs.declared.batch.Batch.{Batch}
use Rattle.engine.specs.Batches.{PartOf, PartMatched, BatchMatched}
use Rattle.engine.specs.Matched.{Proper, Rises, EdgesMatched}
use Rattle.engine.proofs.ListLaws.{and_left, and_right, both, same_test}
use Rattle.engine.proofs.SimLaws.{has_in, in_has}
use Rattle.engine.proofs.AllOrNone.{sets_all_or_none}
use Rattle.engine.proofs.RankLaws.{pair_code, rank_less}

-- ---- lists that masks mark
below_rising : {c : ℕ} {cs : List ℕ} → Rising (suc c) cs → BelowHead c cs
unfolding BelowHead
below_rising rising_none = tt
below_rising (rising_next h s r) = h

pub rising_increasing : {least : ℕ} {l : List ℕ} → Rising least l → Increasing l
unfolding Increasing
rising_increasing rising_none = tt
rising_increasing (rising_next h s r) = (below_rising r, rising_increasing r)

fit_first : {l : List ℕ} {ls : List (List ℕ)} → Fit (l ∷ ls) → Rising 0 l × Fit ls
fit_first (fit_next r h f) = (r, f)

-- pairs by their codes, in order
abbrev pub coded : List Pair → List ℕ
coded l = each (λ f. code f.0 f.1) l

module _ {A : Type 0} (pair : A → Pair) (t : A → Bool) where
  coded_put : (b : Bool) (x : A) (l : List A) → coded (each pair (put b x l)) ≡ pick b (code (pair x).0 (pair x).1 ∷ coded (each pair l)) (coded (each pair l))
  unfolding each
  coded_put true x l = refl
  coded_put false x l = refl

  -- the codes that are marked with e are those of the pairs that pass a test which says the same
  marked_kept : (e : ℕ) (ps qs : List ℕ) (h : ℕ → A) → length ps ≡ length qs
      → ((i : ℕ) → i < length ps → marks e (get_or qs i 0) ≡ t (h i)) → ((i : ℕ) → i < length ps → get_or ps i 0 ≡ code (pair (h i)).0 (pair (h i)).1)
      → marked e ps qs ≡ coded (each pair (keep t (up_to h (length ps))))
  unfolding marked up_to keep
  marked_kept e [] qs h l m c = unfold each in refl
  marked_kept e (p ∷ ps) [] h l m c = absurd (omega arith)
  marked_kept e (p ∷ ps) (q ∷ qs) h l m c =
      ap (λ (b : Bool). pick b (p ∷ marked e ps qs) (marked e ps qs)) (m 0 (omega arith))
      ∙ ap₂ (λ (x : ℕ) (l : List ℕ). pick (t (h 0)) (x ∷ l) l) (c 0 (omega arith))
      (marked_kept e ps qs (λ i. h (suc i)) (omega arith) (λ i j. m (suc i) (omega arith)) (λ i j. c (suc i) (omega arith)))
      ∙ sym (coded_put (t (h 0)) (h 0) (keep t (up_to (λ i. h (suc i)) (length ps))))

-- the lists of so many edges of a pattern, each by itself
from_each : {A : Type 0} (e k : ℕ) (ps qs : List ℕ) (g : ℕ → A) (f : A → List ℕ) → Fit (marked_from e k ps qs)
    → ((j : ℕ) → j < k → (i : ℕ) → i ≡ e + j → distinct (marked i ps qs) ≡ f (g j)) → marked_from e k ps qs ≡ each f (up_to g k)
unfolding marked_from up_to each
from_each e zero ps qs g f t h = refl
from_each e (suc k) ps qs g f t h =
    let c = fit_first t in
    ap₂ (λ (l : List ℕ) (ls : List (List ℕ)). l ∷ ls)
    (sym (distinct_own (marked e ps qs) (rising_increasing c.0)) ∙ h 0 (omega arith) e (omega arith))
    (from_each (suc e) k ps qs (λ j. g (suc j)) f c.1 (λ j l i q. h (suc j) (omega arith) i (omega arith)))

pub marks_bit : (e q : ℕ) → marks e q ≡ bit q e
unfolding marks bit
marks_bit e q = refl

-- the lists of n pairs by their masks, each by what passes a test, and all or none of them
module _ {n : ℕ} {w : List ℕ} (k : MarkedPairs n w) where
  abbrev codes : List ℕ
  codes = codes_of n w

  abbrev masks : List ℕ
  masks = masks_of n w

  pub row_marked : {A : Type 0} (e : ℕ) (h : ℕ → A) (pair : A → Pair) (t : A → Bool) → ((i : ℕ) → i < n → bit (get_or w (8192 + i) 0) e ≡ t (h i))
      → ((i : ℕ) → i < n → pair_in (get_or w i 0) ≡ code (pair (h i)).0 (pair (h i)).1) → distinct (marked e codes masks) ≡ ascending (each pair (keep t (up_to h n)))
  unfolding ascending
  row_marked e h pair t m c =
      let b = k.most in
      let o = k.long in
      let x : length codes ≡ n = length-map (take n w) pair_in ∙ length-take-le n w (omega arith) in
      let y : length masks ≡ n = length-take-le n (drop 8192 w) (omega (arith, length-drop 8192 w)) in
      ap distinct (marked_kept pair t e codes masks h (x ∙ sym y)
      (λ i l.
      let j : i < n = omega arith in
      marks_bit e (get_or masks i 0) ∙ ap (λ (z : ℕ). bit z e) (get_or-take n (drop 8192 w) i 0 j ∙ get_or-drop 8192 w i 0) ∙ m i j)
      (λ i l.
      let j : i < n = omega arith in
      get_or-map pair_in (take n w) i 0 ∙ ap pair_in (get_or-take n w i 0 j) ∙ c i j)
      ∙ ap (λ (z : ℕ). coded (each pair (keep t (up_to h z)))) x)

  pub sets_marked_from : {A : Type 0} (o m : ℕ) (g : ℕ → A) (f : A → List Pair) → ((e : ℕ) → e < m → distinct (marked (o + e) codes masks) ≡ ascending (f (g e)))
      → matches_from o n m w ≡ all_or_none (each (λ e. ascending (f e)) (up_to g m))
  unfolding matches_from
  sets_marked_from o m g f r =
      ap all_or_none (from_each o m codes masks g (λ e. ascending (f e)) (fit_lists o n m w k) (λ j l i q. rw q (r j l)))

  pub sets_marked : {A : Type 0} (m : ℕ) (g : ℕ → A) (f : A → List Pair) → ((e : ℕ) → e < m → distinct (marked e codes masks) ≡ ascending (f (g e)))
      → matches_of n m w ≡ all_or_none (each (λ e. ascending (f e)) (up_to g m))
  sets_marked m g f r = sets_marked_from 0 m g f (λ e l. rw (zero-add e) (r e l))

-- ---- what stays in the workspace
pub edges_twice : {w w₁ w₂ : List ℕ} → Edges w w₁ → Edges w₁ w₂ → Edges w w₂
edges_twice a b = record { long = b.long ∙ a.long; same = λ k l. b.same k l ∙ a.same k l }

-- each edge is held for the edges of the pattern, whose bits begin at o, of its kind whose ends have its own as partners, by the rule r
pub record ListsCodes (r : Rule) (p : Given) (o : ℕ) (s : List ℕ) (n m : ℕ) (w w' : List ℕ) : Type 0 where
  pub say : (i e : ℕ) → i < m → e < p.edges → T (bit (get_or w' (8192 + i) 0) (o + e))
      → In (get_or p.from e 0, get_or w i 0 / 4096 % 4096) (sim (ruled r (pattern_in p)) (graph_in s n m w))
      × In (get_or p.to e 0, get_or w i 0 % 4096) (sim (ruled r (pattern_in p)) (graph_in s n m w))
  pub by : (i e : ℕ) → i < m → e < p.edges → get_or p.kind e 0 ≡ kind_of w i
      → In (get_or p.from e 0, get_or w i 0 / 4096 % 4096) (sim (ruled r (pattern_in p)) (graph_in s n m w))
      → In (get_or p.to e 0, get_or w i 0 % 4096) (sim (ruled r (pattern_in p)) (graph_in s n m w)) → T (bit (get_or w' (8192 + i) 0) (o + e))
  pub only : (i e : ℕ) → i < m → e < p.edges → T (bit (get_or w' (8192 + i) 0) (o + e)) → get_or p.kind e 0 ≡ kind_of w i

-- edges that are marked with an edge of the batch are of its kind, so under each the codes ascend
pub pairs_marked : {s : List ℕ} {n m : ℕ} {w w₂ : List ℕ} → Ready s n m w → Rises m w → Edges w w₂ → (kinds : List ℕ)
    → ((i e : ℕ) → i < m → T (bit (get_or w₂ (8192 + i) 0) e) → get_or kinds e 0 ≡ kind_of w i) → MarkedPairs m w₂
pairs_marked {s} {n} {m} {w} {w₂} ready rises edges kinds only =
    let b = ready.edges in
    let o : length w₂ ≡ 16384 = edges.long ∙ ready.long in
    let named : (e i : ℕ) → i < m → marks e (get_or w₂ (8192 + i) 0) ≡ true → get_or kinds e 0 ≡ kind_of w i =
    λ e i h z. only i e h (subst T (sym (sym (marks_bit e (get_or w₂ (8192 + i) 0)) ∙ z)) tt) in
    record {
      long = omega arith;
      most = ready.edges;
      rises = λ i j e l h y z.
          rw (edges.same i (omega arith), edges.same j (omega arith))
          (rank_less (get_or w i 0) (get_or w j 0) (sym (named e i (omega arith) y) ∙ named e j h z) (rises i j l h));
    }

-- ---- the match sets
sound_ruled : (r : Rule) (P : Pattern) → T (sound P) → T (sound (ruled r P))
unfolding sound
sound_ruled r P t = t

module _ {way : Rule} {p : Given} {o : ℕ} {s : List ℕ} {n m : ℕ} {w w₂ : List ℕ} (ready : Ready s n m w) (edges : Edges w w₂) (pairs : MarkedPairs m w₂) (k : ListsCodes way p o s n m w w₂) where
  abbrev P : Pattern
  P = ruled way (pattern_in p)

  abbrev G : Graph
  G = graph_in s n m w

  abbrev edge : ℕ → Edge
  edge i = edge_of_word (get_or w i 0)

  abbrev passes : ℕ → Edge → Bool
  passes e f = eqb f.kind (given_edge p e).kind and (has ((given_edge p e).from, f.from) (sim P G) and has ((given_edge p e).to, f.to) (sim P G))

  -- the mask of an edge names an edge of the pattern exactly if both have one kind and their ends are partners
  test : (e i : ℕ) → e < p.edges → i < m → bit (get_or w₂ (8192 + i) 0) (o + e) ≡ passes e (edge i)
  test e i l h =
      same_test _ _
      (λ z.
      let r = k.say i e h l z in
      both _ _ (subst (λ (x : ℕ). T (eqb (kind_of w i) x)) (sym (k.only i e h l z)) (eqb_refl (kind_of w i))) (both _ _ (in_has r.0) (in_has r.1)))
      (λ z.
      let r = and_right _ _ z in
      k.by i e h l (sym (eqb→eq (kind_of w i) (get_or p.kind e 0) (and_left _ _ z))) (has_in _ (and_left _ _ r)) (has_in _ (and_right _ _ r)))

  edge_row : (e : ℕ) → e < p.edges → distinct (marked (o + e) (codes_of m w₂) (masks_of m w₂)) ≡ ascending (row G (sim P G) (given_edge p e))
  unfolding row graph_in
  edge_row e l =
      row_marked pairs (o + e) edge as_pair (passes e) (λ i h. test e i l h)
      (λ i h. let b = ready.edges in ap pair_in (edges.same i (omega arith)) ∙ pair_code (get_or w i 0))

  edge_sets : Proper p → matches_from o m p.edges w₂ ≡ match_sets P G
  unfolding pattern_in
  edge_sets proper =
      sets_marked_from pairs o p.edges (given_edge p) (row G (sim P G)) edge_row ∙ sym (sets_all_or_none P G (sound_ruled way (pattern_in p) proper.sound))

  pub matches : Proper p → PartMatched way p o s n m w w₂
  matches proper = record { sets = edge_sets proper; only = k.only }

-- a batch of one pattern
pub alone : {b : Batch} {way : Rule} {p : Given} {a o : ℕ} {s : List ℕ} {n m : ℕ} {w w₂ : List ℕ} → BatchMatched b s n m w w₂ → PartOf b way p a o → Fair p → Proper p → o ≡ 0
    → b.edges ≡ o + p.edges → EdgesMatched way p s n m w w₂
alone {b} {way} {p} {a} {o} {s} {n} {m} {w} {w₂} B part fair proper z q =
    let r = B.parts way p a o part fair proper in
    record {
      edges = B.edges;
      marked = B.marked;
      sets = subst (λ (x : ℕ). matches_from x m p.edges w₂ ≡ match_sets (ruled way (pattern_in p)) (graph_in s n m w)) z r.sets;
      only = λ i e l h t.
          (let x = B.within i e l t in
          let y : e < p.edges = omega arith in
          let k : e ≡ o + e = omega arith in
          (y, r.only i e l y (subst (λ (j : ℕ). T (bit (get_or w₂ (8192 + i) 0) j)) k t)));
    }
