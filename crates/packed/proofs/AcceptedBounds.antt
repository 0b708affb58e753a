-- The bounds that the contents of an accepted pattern and of an accepted catalogue keep.
use Prim.Native.Nat.{ℕ, zero, suc, ◌≤◌, ◌<◌}
use mathlib.Core.Path.{◌≡◌, refl, ap, ap₂, sym, ◌∙◌, subst}
use mathlib.Core.List.{List, [], ◌∷◌, ◌++◌, map, flatten}
use mathlib.Core.Bool.{Bool}
use mathlib.Core.Logic.{⊎_elim}
use lib.ListN.{length, drop, get_or, length-append, length-map, get_or-map, get_or-eq_default}
use lib.Seq.{take_at, drop_at}
use native.Mathlib.Omega.{arith}
use Rattle.packed.specs.Format.{ok, decode}
use Rattle.packed.specs.Formats.{pattern}
use Rattle.packed.specs.Contents.{nodes_of, edges_of, pattern_size, patterns_in, views_of, edge_counts}
use Rattle.packed.specs.Plain.{PlainPattern}
use Rattle.packed.specs.Calls.{accepted, read_catalogue}
use Rattle.packed.proofs.OrderCases.{lt_or_ge}
use Rattle.packed.proofs.Accepted.{pattern_accepted, catalogue_plain}

-- ---- a pattern

pub record Bounded (ws : List ℕ) : Type 0 where
  pub some_nodes : 1 ≤ nodes_of ws
  pub most_nodes : nodes_of ws ≤ 16
  pub some_edges : 1 ≤ edges_of ws
  pub most_edges : edges_of ws ≤ 32
  pub size : length ws ≡ pattern_size ws

pub plain_bounded : (ws : List ℕ) (bs : List Bool) → PlainPattern ws bs → Bounded ws
unfolding pattern_size
plain_bounded ws bs q =
    rw q.content (record {
      some_nodes = q.some_nodes;
      most_nodes = q.most_nodes;
      some_edges = q.some_edges;
      most_edges = q.most_edges;
      size = let l = length-append q.labels q.es in let m = q.label_each in let n = q.edges.among.three_each in omega arith;
    })

pub pattern_bounds : (s ws : List ℕ) → decode pattern s ≡ ok ws
    → (1 ≤ nodes_of ws) × (nodes_of ws ≤ 16) × (1 ≤ edges_of ws) × (edges_of ws ≤ 32) × (length ws ≡ pattern_size ws)
pattern_bounds s ws e =
    let q = (pattern_accepted s ws).0 e in
    let b = plain_bounded ws q.body q.laid in
    (b.some_nodes, b.most_nodes, b.some_edges, b.most_edges, b.size)

-- ---- a catalogue

pub length-patterns_in : (k : ℕ) (ws : List ℕ) → length (patterns_in k ws) ≡ k
unfolding patterns_in
length-patterns_in zero ws = refl
length-patterns_in (suc k) ws = ap suc (length-patterns_in k (drop (pattern_size ws) ws))

-- a pattern's content says where it ends
size_front : (c l : List ℕ) → length c ≡ pattern_size c → pattern_size (c ++ l) ≡ length c
unfolding pattern_size
size_front [] l e = absurd (omega arith)
size_front (x ∷ []) l e = absurd (omega arith)
size_front (x ∷ y ∷ c) l e = sym e

-- so the patterns that stand one after the other are told apart
pub patterns_in-flatten : (cs : List (List ℕ)) → ((i : ℕ) → i < length cs → Bounded (get_or cs i [])) → patterns_in (length cs) (flatten cs) ≡ cs
unfolding patterns_in flatten
patterns_in-flatten [] h = refl
patterns_in-flatten (c ∷ cs) h =
    let e = size_front c (flatten cs) (h 0 (omega arith)).size in
    rw e (ap₂ (λ (x : List ℕ) (l : List (List ℕ)). x ∷ l) (take_at c (flatten cs) (length c) refl)
    (ap (patterns_in (length cs)) (drop_at c (flatten cs) (length c) refl) ∙ patterns_in-flatten cs (λ i l. h (suc i) (omega arith))))

-- the views of an accepted catalogue
pub record ViewsWithin (ws : List ℕ) : Type 0 where
  pub most : get_or ws 0 0 ≤ 16
  pub many : length (views_of ws) ≡ get_or ws 0 0
  pub bounded : (j : ℕ) → j < get_or ws 0 0 → Bounded (get_or (views_of ws) j [])

pub catalogue_views : (s ws : List ℕ) → read_catalogue s ≡ accepted ws → ViewsWithin ws
unfolding views_of
catalogue_views s ws e =
    let q = (catalogue_plain s ws e).1 in
    let t = q.patterns in
    let each : (i : ℕ) → i < length t.contents → Bounded (get_or t.contents i []) =
    λ i h. let p = t.each i (let m = t.many in omega arith) in plain_bounded (get_or t.contents i []) p.body p.laid in
    let same : patterns_in q.number q.inner ≡ t.contents =
    ap₂ patterns_in (sym t.many) t.content ∙ patterns_in-flatten t.contents each in
    rw q.content (record {
      most = q.most;
      many = length-patterns_in q.number q.inner;
      bounded = λ j h. subst (λ (l : List (List ℕ)). Bounded (get_or l j [])) (sym same) (each j (let m = t.many in omega arith));
    })

pub catalogue_bounds : (s ws : List ℕ) → read_catalogue s ≡ accepted ws
    → (get_or ws 0 0 ≤ 16) × (length (edge_counts ws) ≡ get_or ws 0 0) × ((j : ℕ) → get_or (edge_counts ws) j 0 ≤ 32)
unfolding edge_counts
catalogue_bounds s ws e =
    let q = catalogue_views s ws e in (
      q.most,
      length-map (views_of ws) edges_of ∙ q.many,
      λ j. ⊎_elim
          (λ (h : j < get_or ws 0 0). subst (λ (n : ℕ). n ≤ 32) (sym (get_or-map edges_of (views_of ws) j [])) (q.bounded j h).most_edges)
          (λ (h : get_or ws 0 0 ≤ j).
          let z = get_or-eq_default (map edges_of (views_of ws)) 0 {n = j} (let m = length-map (views_of ws) edges_of in let n = q.many in omega arith) in
          omega arith)
          (lt_or_ge j (get_or ws 0 0)),
    )
