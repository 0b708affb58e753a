-- The words of a record's edges in the workspace, with one edge more: where it enters is told by its rank, and with its word there the workspace holds the record that it enters.
use Prim.Native.Nat.{ℕ, zero, suc, ◌+◌, ◌*◌, ◌/◌, ◌%◌, ◌^◌, ◌-◌, ◌≤◌, ◌<◌}
use mathlib.Core.Path.{◌≡◌, refl, sym, ap, ap₂, ◌∙◌}
use mathlib.Core.List.{List, [], ◌∷◌, ◌++◌}
use mathlib.Core.Bool.{Bool, true, false, ◌&&◌, ◌||◌}
use mathlib.Core.Logic.{⊎_elim}
use lib.ListN.{length, take, drop, get_or, length-append, length-drop, get_or-append}
use lib.Seq.{ext_get_or, get_or-append-add, get_or-take, get_or-drop, length-take-le}
use lib.Dec.{eqb}
use native.Mathlib.Omega.{arith}
use borrow.Author.Tests.{eqb-true, eq-eqb, ne_eqb}
use Rattle.packed.specs.Formats.{rank, linked}
use Rattle.packed.specs.Contents.{nodes_of, edges_of, member, each_edge, edge_word, edge_words, word_rank, ranks, from_ranks}
use Rattle.packed.specs.Plain.{EdgesAmong}
use Rattle.packed.specs.Calls.{record_bytes}
use Rattle.packed.specs.LoadedGraph.{Holds}
use Rattle.packed.specs.Entered.{edges_in, entered, MayEnter, lower}
use Rattle.packed.specs.Entering.{word_ranks, PutAt}
use Rattle.packed.proofs.OrderCases.{eq_or_ne, trichotomy, and_both}
use Rattle.packed.proofs.EdgePlaces.{among_tail}
use Rattle.packed.proofs.GraphLaws.{record_bounds, record_among}
use Rattle.packed.proofs.SortedEdges.{ranks_back}
use Rattle.packed.proofs.EnteredLaws.{Entered, record_enters}

-- ---- an edge is there where its rank is
same_fields : (r a b k : ℕ) → b < 4096 → k < 8 → (eqb (r / 8 / 4096) a && (eqb (r / 8 % 4096) b && eqb (r % 8) k)) ≡ eqb r (rank a b k)
same_fields r a b k h g =
    ⊎_elim
    (λ (e : r ≡ rank a b k).
    rw (eq-eqb (r / 8 / 4096) a (omega arith), eq-eqb (r / 8 % 4096) b (omega arith), eq-eqb (r % 8) k (omega arith)) (sym (eq-eqb r (rank a b k) e)))
    (λ (e : r ≡ rank a b k → ⊥). settle (eqb (r / 8 / 4096) a && (eqb (r / 8 % 4096) b && eqb (r % 8) k)) refl e ∙ sym (ne_eqb r (rank a b k) e))
    (eq_or_ne r (rank a b k))
  where
    settle : (t : Bool) → (eqb (r / 8 / 4096) a && (eqb (r / 8 % 4096) b && eqb (r % 8) k)) ≡ t → (r ≡ rank a b k → ⊥)
        → (eqb (r / 8 / 4096) a && (eqb (r / 8 % 4096) b && eqb (r % 8) k)) ≡ false
    settle false q e = q
    settle true q e =
        let u = and_both (eqb (r / 8 / 4096) a) (eqb (r / 8 % 4096) b && eqb (r % 8) k) q in
        let v = and_both (eqb (r / 8 % 4096) b) (eqb (r % 8) k) u.1 in
        let x = eqb-true (r / 8 / 4096) a u.0 in
        let y = eqb-true (r / 8 % 4096) b v.0 in
        let z = eqb-true (r % 8) k v.1 in
        absurd (e (omega arith))

linked_ranks : (a b k : ℕ) (l : List ℕ) → b < 4096 → k < 8 → linked a b k (from_ranks l) ≡ member (rank a b k) l
unfolding linked from_ranks member
linked_ranks a b k [] h g = refl
linked_ranks a b k (r ∷ l) h g = ap₂ (λ (u v : Bool). u || v) (same_fields r a b k h g) (linked_ranks a b k l h g)

pub linked_member : {nodes : ℕ} (m : ℕ) (es : List ℕ) (a b k : ℕ) → nodes ≤ 4096 → EdgesAmong nodes 8 m es → b < 4096 → k < 8 → linked a b k es ≡ member (rank a b k) (ranks es)
linked_member m es a b k few g h l = ap (linked a b k) (sym (ranks_back m es few g)) ∙ linked_ranks a b k (ranks es) h l

-- ---- the ranks in the words
word_rank_lem : (a b k : ℕ) → a < 4096 → b < 4096 → k < 8 → word_rank (edge_word a b k) ≡ rank a b k
word_rank_lem a b k x y z =
    let p : edge_word a b k / 4096 % 4096 ≡ a = omega arith in
    let q : edge_word a b k % 4096 ≡ b = omega arith in
    let t : edge_word a b k / 2 ^ 24 ≡ k = omega arith in
    ap (λ (v : ℕ). rank v (edge_word a b k % 4096) (edge_word a b k / 2 ^ 24)) p ∙ ap (λ (v : ℕ). rank a v (edge_word a b k / 2 ^ 24)) q ∙ ap (λ (v : ℕ). rank a b v) t

words_ranks : {nodes : ℕ} (m : ℕ) (es : List ℕ) → nodes ≤ 4096 → EdgesAmong nodes 8 m es → word_ranks (edge_words es) ≡ ranks es
unfolding word_ranks each_edge
words_ranks m [] few g = refl
words_ranks m (a ∷ []) few g = refl
words_ranks m (a ∷ b ∷ []) few g = refl
words_ranks zero (a ∷ b ∷ k ∷ es) few g = absurd (let e = g.three_each in omega arith)
words_ranks (suc m) (a ∷ b ∷ k ∷ es) few g =
    let x = g.from_node 0 (omega arith) in
    let y = g.to_node 0 (omega arith) in
    let z = g.is_kind 0 (omega arith) in
    ap₂ (λ (c : ℕ) (t : List ℕ). c ∷ t) (word_rank_lem a b k (omega arith) (omega arith) z) (words_ranks m es few (among_tail g))

module _ {s : List ℕ} {n m : ℕ} {w : List ℕ} (h : Holds s n m w) where
  abbrev es : List ℕ
  es = edges_in h.fields

  among : EdgesAmong (nodes_of h.fields) 8 (edges_of h.fields) es
  among = record_among s h.fields h.is

  few : nodes_of h.fields ≤ 4096
  few = (record_bounds s h.fields h.is).0

  -- find_place looks among the ranks of the record's edges
  pub holds_ranks : word_ranks (take m w) ≡ ranks es
  holds_ranks = ap word_ranks h.front ∙ words_ranks (edges_of h.fields) es few among

  -- and says whether the edge is there
  pub holds_linked : (a b k : ℕ) → b < 4096 → k < 8 → linked a b k es ≡ member (rank a b k) (word_ranks (take m w))
  holds_linked a b k x y = linked_member (edges_of h.fields) es a b k few among x y ∙ ap (member (rank a b k)) (sym holds_ranks)

-- ---- the words with one more
each_put : (f : ℕ → ℕ → ℕ → ℕ) (a b k j m : ℕ) (es : List ℕ) → length es ≡ 3 * m → j ≤ m
    → each_edge f (take (3 * j) es ++ (a ∷ b ∷ k ∷ drop (3 * j) es)) ≡ take j (each_edge f es) ++ (f a b k ∷ drop j (each_edge f es))
unfolding each_edge
each_put f a b k zero m es e h = refl
each_put f a b k (suc j) m [] e h = absurd (omega arith)
each_put f a b k (suc j) m (x ∷ []) e h = absurd (omega arith)
each_put f a b k (suc j) m (x ∷ y ∷ []) e h = absurd (omega arith)
each_put f a b k (suc j) zero (x ∷ y ∷ z ∷ es) e h = absurd (omega arith)
each_put f a b k (suc j) (suc m) (x ∷ y ∷ z ∷ es) e h =
    let q : 3 * suc j ≡ suc (suc (suc (3 * j))) = omega arith in
    ap (λ (i : ℕ). each_edge f (take i (x ∷ y ∷ z ∷ es) ++ (a ∷ b ∷ k ∷ drop i (x ∷ y ∷ z ∷ es)))) q
    ∙ ap (λ (t : List ℕ). f x y z ∷ t) (each_put f a b k j m es (omega arith) (omega arith))

put_front : (at m x : ℕ) (w w' : List ℕ) → PutAt at m x w w' → at ≤ m → m < length w → take (m + 1) w' ≡ take at (take m w) ++ (x ∷ drop at (take m w))
put_front at m x w w' p h fits =
    let l : List ℕ = take m w in
    let n : length l ≡ m = length-take-le m w (omega arith) in
    let c : length (take at l) ≡ at = length-take-le at l (omega arith) in
    let d : length (drop at l) ≡ length l - at = length-drop at l in
    let u : length (take (m + 1) w') ≡ m + 1 = length-take-le (m + 1) w' (let z = p.long in omega arith) in
    let v : length (take at l ++ (x ∷ drop at l)) ≡ m + 1 = length-append (take at l) (x ∷ drop at l) ∙ omega arith in
    ext_get_or 0 (take (m + 1) w') (take at l ++ (x ∷ drop at l)) (u ∙ sym v)
    (λ i q.
    let i-in : i < m + 1 = omega arith in
    get_or-take (m + 1) w' i 0 i-in
    ∙ trichotomy i at
    (λ (g : i < at).
    let i-low : i < m = omega arith in
    p.below i g ∙ sym (get_or-append (take at l) (x ∷ drop at l) 0 i (omega arith) ∙ get_or-take at l i 0 g ∙ get_or-take m w i 0 i-low))
    (λ (g : i ≡ at).
    let z : i ≡ length (take at l) + 0 = omega arith in
    ap (λ (j : ℕ). get_or w' j 0) g ∙ p.here ∙ sym (ap (λ (j : ℕ). get_or (take at l ++ (x ∷ drop at l)) j 0) z ∙ get_or-append-add (take at l) (x ∷ drop at l) 0 0))
    (λ (g : at < i).
    let j : ℕ = i - at - 1 in
    let z : i ≡ length (take at l) + suc j = omega arith in
    let y : i ≡ at + j + 1 = omega arith in
    ap (λ (t : ℕ). get_or w' t 0) y
    ∙ p.moved (at + j) (omega arith) (omega arith)
    ∙ sym (ap (λ (t : ℕ). get_or (take at l ++ (x ∷ drop at l)) t 0) z
    ∙ get_or-append-add (take at l) (x ∷ drop at l) (suc j) 0
    ∙ get_or-drop at l j 0
    ∙ get_or-take m w (at + j) 0 (omega arith))))

-- with the word at its place, the workspace holds the record that the edge enters
module _ {s : List ℕ} {n m : ℕ} {w : List ℕ} (h : Holds s n m w) (a b k : ℕ) (g : MayEnter h.fields a b k) where
  abbrev new : Entered h.fields a b k
  new = record_enters s h.fields h.is a b k g

  pub holds_entered : {j : ℕ} {w' : List ℕ} → j ≡ lower (rank a b k) (ranks (edges_in h.fields)) → PutAt j m (edge_word a b k) w w' → Holds (record_bytes (entered h.fields a b k)) n (m + 1) w'
  holds_entered {j} {w'} e p =
      let es : List ℕ = edges_in h.fields in
      let i : ℕ = lower (rank a b k) (ranks es) in
      let N = h.edges in
      let room = g.room in
      let long = h.long in
      let most : j ≤ m = omega (arith, new.place.0) in
      record {
        fields = entered h.fields a b k;
        is = new.made.back;
        nodes = h.nodes ∙ sym new.nodes;
        edges = omega (arith, new.number);
        long = p.long ∙ h.long;
        front =
            put_front j m (edge_word a b k) w w' p most (omega arith)
            ∙ ap (λ (l : List ℕ). take j l ++ (edge_word a b k ∷ drop j l)) h.front
            ∙ ap (λ (t : ℕ). take t (edge_words es) ++ (edge_word a b k ∷ drop t (edge_words es))) e
            ∙ sym (each_put edge_word a b k i (edges_of h.fields) es (record_among s h.fields h.is).three_each new.place.0)
            ∙ ap edge_words (sym new.place.1);
      }
