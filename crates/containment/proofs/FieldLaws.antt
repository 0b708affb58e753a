-- The content of a query read as a record, made word by word.
use Prim.Native.Nat.{ℕ, zero, suc, ◌+◌, ◌-◌, ◌*◌, ◌/◌, ◌^◌, ◌<◌, ◌≤◌}
use mathlib.Core.Path.{◌≡◌, refl, sym, ap, ap₂, subst, ◌∙◌}
use mathlib.Core.Bool.{Bool}
use mathlib.Core.Logic.{⊎_elim}
use mathlib.Core.List.{List, [], ◌∷◌, ◌++◌, map, append-nil, append_assoc}
use lib.ListN.{length, take, drop, get_or, set, replicate, length-append, length-drop, length-set}
use lib.Seq.{sets, sets-eq, length-sets, take_at, take-suc, take-suc-set, take_all, get_or-take, get_or-drop, length-take-le}
use native.Mathlib.Omega.{arith}
use native.Mathlib.Numerals.{add-one}
use borrow.Author.Tests.{eq-eqb, ne_eqb, lt-ltb, le-ltb}
use Rattle.packed.specs.Contents.{distinct, each_edge, ranks, from_ranks, sorted_edges}
use Rattle.packed.specs.Formats.{rank}
use Rattle.packed.specs.Order.{Sorted}
use Rattle.packed.specs.Plain.{PlainEdges, PlainPattern, from_at, to_at, kind_at}
use Rattle.packed.specs.ByValue.{HoldsPattern}
use Rattle.packed.specs.declared.by_value.Pattern.{Pattern as Given}
use Rattle.packed.proofs.OrderCases.{lt_or_ge, eq_or_ne}
use Rattle.packed.proofs.DistinctAbsorb.{sorted_front}
use Rattle.packed.proofs.EdgePlaces.{each_length, each_at, each_more}
use Rattle.packed.proofs.SortedEdges.{ranks_differ, ranks_length}
use Rattle.engine.specs.Simulation.{Edge, between, no_edge}
use Rattle.engine.specs.Loaded.{given_edge as given_at}
use Rattle.engine.proofs.UpToLaws.{get_d_up_to}
use Rattle.matching.proofs.PatternLaws.{nodes_in, edges_in_lem, edges_are, labels_same, edges_same}
use Rattle.matching.proofs.EdgeLaws.{edge_at, edge_at_lem}
use Rattle.containment.specs.Steps.{powers, edges_but, RanksFront, label_fields, fields_but, Front, Extends, HoldsFields, shown_fields}
use Rattle.containment.specs.declared.query.Fields.{Fields}
use Rattle.containment.proofs.QueryGraph.{graph_fields_lem, fewer_plain, fewer_fields_lem}

-- ---- words at the front of a table
pub front_one : {words fs : List ℕ} {n : ℕ} (v : ℕ) → n < 114 → Front words n fs → Front (set words n v) (n + 1) (fs ++ (v ∷ []))
front_one {words} {fs} {n} v h f =
    record {
      long = length-set words n v ∙ f.long;
      number = omega (arith, f.number, length-append fs (v ∷ []));
      is = rw add-one (take-suc-set words n v (omega (arith, f.long)) ∙ ap (λ (l : List ℕ). l ++ (v ∷ [])) f.is);
    }

front_cast : {words fs gs : List ℕ} {n k : ℕ} → n ≡ k → fs ≡ gs → Front words n fs → Front words k gs
front_cast {words} {gs = gs} {n} p q f = subst (λ j. Front words j gs) p (subst (Front words n) q f)

pub front_two : {words : List ℕ} {n : ℕ} (a b : ℕ) → n ≤ 112 → Extends n 2 (a ∷ b ∷ []) words (set (set words n a) (n + 1) b)
front_two {n = n} a b h fs f =
    front_cast (omega arith) (append_assoc fs (a ∷ []) (b ∷ [])) (front_one b (omega arith) (front_one a (omega arith) f))

pub front_none : {words : List ℕ} → words ≡ replicate 114 0 → Front words 0 []
front_none e = record { long = ap length e; number = refl; is = refl }

-- ---- the labels
powers_more : (ls : List ℕ) (u : ℕ) → u < length ls → powers (take (u + 1) ls) ≡ powers (take u ls) ++ (2 ^ get_or ls u 0 ∷ [])
unfolding powers
powers_more ls u h = rw (add-one, take-suc ls u 0 h) (map_snoc (take u ls) (get_or ls u 0))
  where
    map_snoc : (l : List ℕ) (x : ℕ) → map (λ k. 2 ^ k) (l ++ (x ∷ [])) ≡ map (λ k. 2 ^ k) l ++ (2 ^ x ∷ [])
    map_snoc [] x = refl
    map_snoc (y ∷ l) x = ap (λ (m : List ℕ). 2 ^ y ∷ m) (map_snoc l x)

pub labels_start : {words : List ℕ} (ls : List ℕ) → Extends 2 0 (powers (take 0 ls)) words words
unfolding powers
labels_start ls fs f = front_cast (omega arith) (sym (append-nil fs)) f

pub labels_more : {words₀ words : List ℕ} (ls : List ℕ) {u v : ℕ} → u < length ls → u < 112 → v ≡ 2 ^ get_or ls u 0
    → Extends 2 u (powers (take u ls)) words₀ words → Extends 2 (u + 1) (powers (take (u + 1) ls)) words₀ (set words (2 + u) v)
labels_more ls {u} {v} h k e x fs f =
    front_cast (omega arith)
    (append_assoc fs (powers (take u ls)) (v ∷ []) ∙ ap (λ (l : List ℕ). fs ++ l) (ap (λ (y : ℕ). powers (take u ls) ++ (y ∷ [])) e ∙ sym (powers_more ls u h)))
    (front_one v (omega arith) (x fs f))

-- ---- the fields of the edges

-- so many words more, all at once
pub front_sets : {words : List ℕ} {n : ℕ} (fs es : List ℕ) → n + length es ≤ 114 → Front words n fs → Front (sets words n es) (n + length es) (fs ++ es)
front_sets {words} {n} fs es h f =
    let t : length (take n words) ≡ n = length-take-le n words (omega (arith, f.long)) in
    record {
      long = length-sets words n es ∙ f.long;
      number = omega (arith, f.number, length-append fs es);
      is =
          ap (take (n + length es)) (sets-eq es words n (omega (arith, f.long)))
          ∙ take_at (take n words ++ es) (drop (n + length es) words) (n + length es) (length-append (take n words) es ∙ omega (arith, t))
          ∙ ap (λ (l : List ℕ). l ++ es) f.is;
    }

take_three : (l : List ℕ) (i : ℕ) → 3 * i + 2 < length l → take (3 * suc i) l ≡ take (3 * i) l ++ (from_at l i ∷ to_at l i ∷ kind_at l i ∷ [])
take_three l i h =
    let z : 3 * suc i ≡ suc (3 * i + 2) = omega arith in
    let y : 3 * i + 2 ≡ suc (3 * i + 1) = omega arith in
    let x : 3 * i + 1 ≡ suc (3 * i) = omega arith in
    let a : take (3 * i + 1) l ≡ take (3 * i) l ++ (from_at l i ∷ []) = ap (λ (n : ℕ). take n l) x ∙ take-suc l (3 * i) 0 (omega arith) in
    let b : take (3 * i + 2) l ≡ take (3 * i + 1) l ++ (to_at l i ∷ []) = ap (λ (n : ℕ). take n l) y ∙ take-suc l (3 * i + 1) 0 (omega arith) in
    ap (λ (n : ℕ). take n l) z
    ∙ take-suc l (3 * i + 2) 0 h
    ∙ ap (λ (m : List ℕ). m ++ (kind_at l i ∷ [])) (b ∙ ap (λ (m : List ℕ). m ++ (to_at l i ∷ [])) a)
    ∙ append_assoc (take (3 * i) l ++ (from_at l i ∷ [])) (to_at l i ∷ []) (kind_at l i ∷ [])
    ∙ append_assoc (take (3 * i) l) (from_at l i ∷ []) (to_at l i ∷ kind_at l i ∷ [])

module _ (from to kind : List ℕ) (skip : ℕ) where
  abbrev but : ℕ → List ℕ
  but e = edges_but from to kind skip e

  abbrev rank_of : ℕ → ℕ
  rank_of e = rank (get_or from e 0) (get_or to e 0) (get_or kind e 0)

  but_none : (e : ℕ) → e ≡ skip → but (e + 1) ≡ but e
  unfolding edges_but
  but_none e q = rw (add-one, eq-eqb e skip q) (append-nil (but e))

  but_one : (e : ℕ) → (e ≡ skip → ⊥) → but (e + 1) ≡ but e ++ (get_or from e 0 ∷ get_or to e 0 ∷ get_or kind e 0 ∷ [])
  unfolding edges_but
  but_one e q = rw (add-one, ne_eqb e skip q)

  but_threes : (e : ℕ) → (k : ℕ) × (length (but e) ≡ 3 * k) × (k ≤ e)
  unfolding edges_but
  but_threes zero = (0, refl, omega arith)
  but_threes (suc e) =
      let r = but_threes e in
      ⊎_elim
      (λ (q : e ≡ skip). (r.0, ap length (rw (add-one e) at (but_none e q)) ∙ r.1, omega (arith, r.2)))
      (λ (q : e ≡ skip → ⊥). (suc r.0, ap length (rw (add-one e) at (but_one e q)) ∙ length-append (but e) (get_or from e 0 ∷ get_or to e 0 ∷ get_or kind e 0 ∷ []) ∙ omega (arith, r.1), omega (arith, r.2)))
      (eq_or_ne e skip)

  -- the ranks of the first e edges, as they are loaded
  pub ranks_none : (w : List ℕ) → length w ≡ 16384 → RanksFront (ranks (but 0)) 0 w
  unfolding edges_but each_edge
  ranks_none w l = record { long = l; few = omega arith; is = refl }

  module _ {e k : ℕ} {w : List ℕ} (x : RanksFront (ranks (but e)) k w) where
    pub ranks_skip : e ≡ skip → RanksFront (ranks (but (e + 1))) k w
    ranks_skip q = rw (but_none e q) x

    pub ranks_one : (e ≡ skip → ⊥) → k < 32 → RanksFront (ranks (but (e + 1))) (k + 1) (set w k (rank_of e))
    ranks_one q h =
        let c : ℕ = rank_of e in
        let b = but_threes e in
        let z : ranks (but (e + 1)) ≡ ranks (but e) ++ (c ∷ []) =
        ap ranks (but_one e q) ∙ each_more rank b.0 (but e) (get_or from e 0) (get_or to e 0) (get_or kind e 0) b.1 in
        record {
          long = length-set w k c ∙ x.long;
          few = omega arith;
          is = rw add-one (take-suc-set w k c (omega (arith, x.long)) ∙ ap (λ (l : List ℕ). l ++ (c ∷ [])) x.is) ∙ sym z;
        }

  -- ---- from the fields in order
  module _ (es : List ℕ) (k : ℕ) (three : length es ≡ 3 * k) (same : (e : ℕ) → e < k → between (get_or from e 0) (get_or to e 0) (get_or kind e 0) ≡ edge_at es e) where
    but-suc : (e : ℕ) → e < k → (e ≡ skip → ⊥) → but (suc e) ≡ but e ++ (from_at es e ∷ to_at es e ∷ kind_at es e ∷ [])
    but-suc e h q = rw (add-one e) at (but_one e q ∙ ap (λ (f : Edge). but e ++ (f.from ∷ f.to ∷ f.kind ∷ [])) (same e h))

    before : (e : ℕ) → e ≤ k → e ≤ skip → but e ≡ take (3 * e) es
    unfolding edges_but
    before zero h l = refl
    before (suc e) h l =
        but-suc e (omega arith) (λ (z : e ≡ skip). omega arith)
        ∙ ap (λ (m : List ℕ). m ++ (from_at es e ∷ to_at es e ∷ kind_at es e ∷ [])) (before e (omega arith) (omega arith))
        ∙ sym (take_three es e (omega arith))

    abbrev later : List ℕ
    later = drop (3 * skip + 3) es

    later-at : (i j : ℕ) → 3 * skip + 3 + i ≡ j → get_or later i 0 ≡ get_or es j 0
    later-at i j q = get_or-drop (3 * skip + 3) es i 0 ∙ ap (λ (n : ℕ). get_or es n 0) q

    after : (j e : ℕ) → e ≡ skip + j → e < k → but (suc e) ≡ take (3 * skip) es ++ take (3 * j) later
    after zero e q h =
        let z : e ≡ skip = omega arith in
        rw (add-one e) at (but_none e z) ∙ before e (omega arith) (omega arith) ∙ ap (λ (i : ℕ). take (3 * i) es) z ∙ sym (append-nil (take (3 * skip) es))
    after (suc j) e q h =
        let z : e ≡ suc (skip + j) = omega arith in
        let a = later-at (3 * j) (3 * e) (omega arith) in
        let b = later-at (3 * j + 1) (3 * e + 1) (omega arith) in
        let c = later-at (3 * j + 2) (3 * e + 2) (omega arith) in
        let g : edge_at later j ≡ edge_at es e = λ i. between (a i) (b i) (c i) in
        but-suc e h (λ (w : e ≡ skip). omega arith)
        ∙ ap (λ (m : List ℕ). m ++ (from_at es e ∷ to_at es e ∷ kind_at es e ∷ [])) (ap but z ∙ after j (skip + j) refl (omega arith))
        ∙ append_assoc (take (3 * skip) es) (take (3 * j) later) (from_at es e ∷ to_at es e ∷ kind_at es e ∷ [])
        ∙ ap (λ (m : List ℕ). take (3 * skip) es ++ m)
        (ap (λ (f : Edge). take (3 * j) later ++ (f.from ∷ f.to ∷ f.kind ∷ [])) (sym g)
        ∙ sym (take_three later j (omega (arith, length-drop (3 * skip + 3) es))))

    pub but_whole : k ≤ skip → but k ≡ es
    but_whole h = before k (omega arith) h ∙ take_all (3 * k) es (omega arith)

    pub but_fewer : skip < k → but k ≡ take (3 * skip) es ++ drop (3 * skip + 3) es
    but_fewer h =
        let z : k ≡ suc (k - 1) = omega arith in
        ap but z
        ∙ after (k - 1 - skip) (k - 1) (omega arith) (omega arith)
        ∙ ap (λ (m : List ℕ). take (3 * skip) es ++ m) (take_all (3 * (k - 1 - skip)) later (omega (arith, length-drop (3 * skip + 3) es)))

-- ---- the whole content
module _ {ws : List ℕ} {bs : List Bool} (q : PlainPattern ws bs) {p : Given} (h : HoldsPattern ws p) where
  three : length q.es ≡ 3 * q.number
  three = q.edges.among.three_each

  pub edge_is : (e : ℕ) → e < q.number → given_at p e ≡ edge_at q.es e
  edge_is e l =
      sym (get_d_up_to (given_at p) p.edges e no_edge (omega (arith, edges_are q h)))
      ∙ ap (λ (es : List Edge). get_or es e no_edge) (edges_same q h)
      ∙ edge_at_lem q.es q.number e three l

  abbrev kept : ℕ → List ℕ
  kept skip = edges_but p.from p.to p.kind skip q.number

  kept_fewer : (skip : ℕ) → skip < q.number → kept skip ≡ take (3 * skip) q.es ++ drop (3 * skip + 3) q.es
  kept_fewer skip l = but_fewer p.from p.to p.kind skip q.es q.number three edge_is l

  kept_whole : (skip : ℕ) → q.number ≤ skip → kept skip ≡ q.es
  kept_whole skip l = but_whole p.from p.to p.kind skip q.es q.number three edge_is l

  -- they are edges, each once
  kept_plain : (skip : ℕ) → (k : ℕ) × PlainEdges 8 q.nodes k (kept skip) × (k ≤ q.number)
  kept_plain skip =
      ⊎_elim
      (λ (l : skip < q.number). (q.number - 1, rw (kept_fewer skip l) (fewer_plain q skip l), omega arith))
      (λ (l : q.number ≤ skip). (q.number, rw (kept_whole skip l) q.edges, omega arith))
      (lt_or_ge skip q.number)

  but_are : (skip : ℕ) → fields_but p skip ≡ q.nodes ∷ length (kept skip) / 3 ∷ (powers q.labels ++ sorted_edges (kept skip))
  unfolding fields_but label_fields
  but_are skip = rw (labels_same q h, edges_are q h, h.nodes, nodes_in q)

  pub fields_are : (skip : ℕ) → fields_but p skip ≡ shown_fields ws skip
  unfolding shown_fields
  fields_are skip =
      but_are skip
      ∙ ⊎_elim
      (λ (l : skip < q.number).
      let t = lt-ltb skip q.number l in
      let n = (fewer_plain q skip l).among.three_each in
      let z : length (take (3 * skip) q.es ++ drop (3 * skip + 3) q.es) / 3 ≡ q.number - 1 = omega arith in
      rw (edges_in_lem q, t) (ap (λ (m : List ℕ). q.nodes ∷ length m / 3 ∷ (powers q.labels ++ sorted_edges m)) (kept_fewer skip l)
      ∙ ap (λ (k : ℕ). q.nodes ∷ k ∷ (powers q.labels ++ sorted_edges (take (3 * skip) q.es ++ drop (3 * skip + 3) q.es))) z
      ∙ sym (fewer_fields_lem q skip l)))
      (λ (l : q.number ≤ skip).
      let t = le-ltb skip q.number l in
      let z : length q.es / 3 ≡ q.number = omega (arith, three) in
      rw (edges_in_lem q, t) (ap (λ (m : List ℕ). q.nodes ∷ length m / 3 ∷ (powers q.labels ++ sorted_edges m)) (kept_whole skip l)
      ∙ ap (λ (k : ℕ). q.nodes ∷ k ∷ (powers q.labels ++ sorted_edges q.es)) z
      ∙ sym (graph_fields_lem q)))
      (lt_or_ge skip q.number)

  -- the ranks in the workspace, sorted, and the fields of their edges after the labels
  module _ (skip k : ℕ) {w : List ℕ} (loaded : RanksFront (ranks (edges_but p.from p.to p.kind skip p.edges)) k w) where
    c : RanksFront (ranks (kept skip)) k w
    c = subst (λ (m : ℕ). RanksFront (ranks (edges_but p.from p.to p.kind skip m)) k w) (edges_are q h) loaded

    kept-number : k ≡ length (kept skip) / 3
    kept-number =
        let r = kept_plain skip in
        let n = r.1.among.three_each in
        let m = each_length rank r.0 (kept skip) n in
        let t = length-take-le k w (omega (arith, c.long, c.few)) in
        let l = ap length c.is in
        omega arith

    pub kept_sorted : {w' : List ℕ} → Sorted k w w' → take k w' ≡ distinct (ranks (kept skip))
    kept_sorted {w'} s =
        let r = kept_plain skip in
        let m = each_length rank r.0 (kept skip) r.1.among.three_each in
        let t = length-take-le k w (omega (arith, c.long, c.few)) in
        let l = ap length c.is in
        let at : (i : ℕ) → i < k → get_or w i 0 ≡ get_or (ranks (kept skip)) i 0 = λ i g. sym (get_or-take k w i 0 g) ∙ ap (λ (x : List ℕ). get_or x i 0) c.is in
        sorted_front k w w' (omega (arith, c.long, c.few))
        (λ i j g f e.
        ranks_differ (omega arith) (omega (arith, q.most_nodes)) r.1 i j g (omega arith)
        (sym (each_at rank (kept skip) i (omega arith)) ∙ sym (at i (omega arith)) ∙ e ∙ at j f ∙ each_at rank (kept skip) j (omega arith))) s
        ∙ ap distinct c.is

    pub kept_fields : {w' : List ℕ} {f : Fields} {words : List ℕ} → Sorted k w w' → Front words (2 + p.nodes) (label_fields p k) → f.words ≡ sets words (2 + p.nodes) (from_ranks (take k w'))
        → f.number ≡ 2 + p.nodes + 3 * k → HoldsFields (fields_but p skip) f
    unfolding fields_but sorted_edges
    kept_fields {w'} {f} {words} s front put number =
        let es : List ℕ = from_ranks (take k w') in
        let n : length es ≡ 3 * k = ranks_length (take k w') ∙ ap (λ (i : ℕ). 3 * i) (length-take-le k w' (omega (arith, s.long, c.long, c.few))) in
        let few = c.few in
        let b : p.nodes ≤ 16 = omega (arith, h.nodes, nodes_in q, q.most_nodes) in
        let z : 2 + p.nodes + length es ≡ f.number = omega arith in
        let fs : label_fields p k ++ es ≡ fields_but p skip =
        ap₂ (λ (i : ℕ) (l : List ℕ). label_fields p i ++ from_ranks l) kept-number (kept_sorted s)
        ∙ ap (λ (m : ℕ). let t : List ℕ = edges_but p.from p.to p.kind skip m in label_fields p (length t / 3) ++ from_ranks (distinct (ranks t))) (sym (edges_are q h)) in
        record {
          front = rw put (front_cast z fs (front_sets (label_fields p k) es (omega arith) front));
          most = omega arith;
        }
