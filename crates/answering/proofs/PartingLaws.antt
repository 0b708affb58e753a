-- The content of a part of a query, made word by word, and its rows picked from the query's table.
use Prim.Native.Nat.{ℕ, zero, suc, ◌+◌, ◌/◌, ◌%◌, ◌^◌, ◌<◌, ◌≤◌}
use mathlib.Core.Path.{◌≡◌, refl, sym, ap, ap₂, subst, ◌∙◌}
use mathlib.Core.Bool.{Bool, true, false}
use mathlib.Core.Logic.{◌⊎◌, inl, inr, ⊎_elim}
use mathlib.Core.List.{List, [], ◌∷◌, ◌++◌, append-nil, append_assoc}
use lib.ListN.{length, take, get_or, set, replicate, length-set, length-replicate}
use lib.Seq.{take-suc, get_or-set_same, get_or-set_other, length-take-le}
use lib.Bits.{bit_or}
use lib.Count.{ones, ones_in, ones_cat, ones-le}
use lib.Pow.{mod-pow-add, pow_pos}
use native.Mathlib.Nat.{mod-lt}
use lib.Dec.{T, eqb}
use native.Mathlib.Omega.{arith}
use native.Mathlib.Numerals.{add-one}
use Rattle.packed.specs.Bits.{one}
use Rattle.packed.specs.declared.by_value.Pattern.{Pattern as Given}
use Rattle.packed.proofs.OrderCases.{lt_or_ge}
use Rattle.packed.proofs.ByValueLaws.{nothing_at}
use Rattle.engine.specs.Lists.{In, put, keep, gather, each, up_to}
use Rattle.engine.specs.Simulation.{Edge, no_edge, bit}
use Rattle.engine.specs.Masks.{Has, Mask, OneOf}
use Rattle.engine.specs.Loaded.{given_edge, pattern_in, Fair}
use Rattle.matching.specs.Part.{rank, at_places, touches, moved, part_of, edge_fields, pattern_fields}
use Rattle.engine.proofs.ListLaws.{same_test, keep_in, in_keep, each_append, length_each}
use Rattle.engine.proofs.UpToLaws.{length_up_to, get_d_up_to, in_up_to, up_to_in, up_to_more}
use Rattle.engine.proofs.MaskBits.{mask_cast, mask_or, mask_one, one_more, one_cases, union_more}
use Rattle.matching.proofs.PlaceLaws.{rank_more, rank_most, rank_rises, places_length, places_same, places_more, keep_places}
use Rattle.matching.proofs.PartLaws.{touches_say, touches_at}
use Rattle.matching.proofs.PatternBytes.{fields_append}
use Rattle.containment.specs.Steps.{HoldsFields}
use Rattle.answering.specs.Parting.{EndTaken, taken_fields, Adds, Takes, Picked}
use Rattle.containment.specs.declared.query.Fields.{Fields}
use Rattle.containment.proofs.SetBits.{never}
use Rattle.answering.proofs.QuoteLaws.{test_is}

-- ---- the nodes at the edges that are taken
module _ (q : Given) (taken : ℕ) where
  abbrev EndOf : ℕ → ℕ → Type 0
  EndOf e v = Has taken e × ((get_or q.from e 0 ≡ v) ⊎ (get_or q.to e 0 ≡ v))

  pub ends_more : (e : ℕ) {nodes a b : ℕ} → Mask (EndTaken q taken e) nodes → bit taken e ≡ true → a ≡ 2 ^ get_or q.from e 0 → b ≡ 2 ^ get_or q.to e 0
      → Mask (EndTaken q taken (e + 1)) (bit_or nodes (bit_or a b))
  ends_more e h t p r =
      let has : Has taken e = (test_is (bit taken e)).0 t in
      union_more EndOf e h
      (mask_cast (λ v. ⊎_elim (λ z. (has, inl z.0)) (λ z. (has, inr z.0))) (λ v z. ⊎_elim (λ s. inl (s, has)) (λ s. inr (s, has)) z.1)
      (mask_or (mask_one _ _ p has) (mask_one _ _ r has)))

  pub ends_same : (e : ℕ) {nodes : ℕ} → Mask (EndTaken q taken e) nodes → bit taken e ≡ false → Mask (EndTaken q taken (e + 1)) nodes
  ends_same e h t =
      mask_cast (λ v o. one_more e o) (λ v o. ⊎_elim (λ z. z) (λ z. never (sym ((test_is (bit taken e)).1 z.0) ∙ t)) (one_cases e o)) h

-- ---- numbers
pub number_more : (p : ℕ → Bool) (i : ℕ) {n : ℕ} → n ≡ rank p i → p i ≡ true → n + 1 ≡ rank p (i + 1)
number_more p i e t = omega (arith, e, rank_more p i, ap one t, ap (rank p) (add-one i))

pub number_same : (p : ℕ → Bool) (i : ℕ) {n : ℕ} → n ≡ rank p i → p i ≡ false → n ≡ rank p (i + 1)
number_same p i e t = omega (arith, e, rank_more p i, ap one t, ap (rank p) (add-one i))

-- a digit counts itself
digit_ones : (b : ℕ) → b < 2 → ones b ≡ one (eqb b 1)
unfolding ones ones_in
digit_ones zero l = refl
digit_ones (suc zero) l = refl
digit_ones (suc (suc b)) l = absurd (omega arith)

-- how many of the low digits are set
pub ones_rank : (s n : ℕ) → ones (s % 2 ^ n) ≡ rank (bit s) n
unfolding rank bit
ones_rank s zero = omega (arith, ones-le 0 (s % 2 ^ 0) (omega arith))
ones_rank s (suc n) =
    let z : suc n ≡ 1 + n = omega arith in
    ap (λ (k : ℕ). ones (s % 2 ^ k)) z ∙ ap ones (mod-pow-add s 1 n)
    ∙ ones_cat n (s / 2 ^ n % 2) (s % 2 ^ n) (mod-lt s (pow_pos n))
    ∙ omega (arith, digit_ones (s / 2 ^ n % 2) (omega arith), ones_rank s n, rank_more (bit s) n)

-- ---- words more
pub adds_none : {f : Fields} → Adds [] f f
adds_none {f} fs h = subst (λ l. HoldsFields l f) (sym (append-nil fs)) h

pub adds_then : {f g h : Fields} {xs ys : List ℕ} → Adds xs f g → Adds ys g h → Adds (xs ++ ys) f h
adds_then {h = h} {xs} {ys} a b fs x = subst (λ l. HoldsFields l h) (append_assoc fs xs ys) (b (fs ++ xs) (a fs x))

adds_cast : {f g : Fields} {xs ys : List ℕ} → xs ≡ ys → Adds xs f g → Adds ys f g
adds_cast {f} {g} e a = subst (λ l. Adds l f g) e a

-- the labels
module _ (nodes : ℕ) (ls : List ℕ) where
  pub labels_none : {f : Fields} → Adds (at_places (bit nodes) (take 0 ls)) f f
  unfolding at_places
  labels_none = adds_none

  labels_next : (u : ℕ) → u < length ls → {b : Bool} → bit nodes u ≡ b → at_places (bit nodes) (take u ls) ++ put b (get_or ls u 0) [] ≡ at_places (bit nodes) (take (u + 1) ls)
  labels_next u l {b} t =
      let long = length-take-le u ls (omega arith) in
      ap (λ c. at_places (bit nodes) (take u ls) ++ put c (get_or ls u 0) []) (sym t ∙ ap (bit nodes) (sym long))
      ∙ sym (places_more (bit nodes) (take u ls) (get_or ls u 0))
      ∙ ap (at_places (bit nodes)) (sym (take-suc ls u 0 l) ∙ ap (λ n. take n ls) (sym (add-one u)))

  pub labels_more : {f g h : Fields} (u : ℕ) → u < length ls → bit nodes u ≡ true → Adds (at_places (bit nodes) (take u ls)) f g → Adds (get_or ls u 0 ∷ []) g h
      → Adds (at_places (bit nodes) (take (u + 1) ls)) f h
  labels_more u l t a b = adds_cast (labels_next u l t) (adds_then a b)

  pub labels_same : {f g : Fields} (u : ℕ) → u < length ls → bit nodes u ≡ false → Adds (at_places (bit nodes) (take u ls)) f g → Adds (at_places (bit nodes) (take (u + 1) ls)) f g
  labels_same u l t a = adds_cast (sym (append-nil _) ∙ labels_next u l t) a

-- the edges
module _ (q : Given) (taken nodes : ℕ) where
  pub edges_none : {f : Fields} → Adds (taken_fields q taken nodes 0) f f
  unfolding up_to at_places each edge_fields gather
  edges_none = adds_none

  edges_next : (e : ℕ) {b : Bool} → bit taken e ≡ b
      → taken_fields q taken nodes e ++ edge_fields (each (moved (rank (bit nodes))) (put b (given_edge q e) [])) ≡ taken_fields q taken nodes (e + 1)
  edges_next e {b} t =
      let es = up_to (given_edge q) e in
      let f = moved (rank (bit nodes)) in
      ap (λ c. taken_fields q taken nodes e ++ edge_fields (each f (put c (given_edge q e) []))) (sym t ∙ ap (bit taken) (sym (length_up_to (given_edge q) e)))
      ∙ sym (fields_append (each f (at_places (bit taken) es)) (each f (put (bit taken (length es)) (given_edge q e) [])))
      ∙ ap edge_fields (sym (each_append f (at_places (bit taken) es) (put (bit taken (length es)) (given_edge q e) [])))
      ∙ ap (λ l. edge_fields (each f l)) (sym (places_more (bit taken) es (given_edge q e)))
      ∙ ap (λ l. edge_fields (each f (at_places (bit taken) l))) (sym (up_to_more (given_edge q) e) ∙ ap (up_to (given_edge q)) (sym (add-one e)))

  pub edges_more : {f g h : Fields} (e : ℕ) {a b : ℕ} → bit taken e ≡ true → a ≡ rank (bit nodes) (get_or q.from e 0) → b ≡ rank (bit nodes) (get_or q.to e 0)
      → Adds (taken_fields q taken nodes e) f g → Adds (a ∷ b ∷ get_or q.kind e 0 ∷ []) g h → Adds (taken_fields q taken nodes (e + 1)) f h
  unfolding each edge_fields gather
  edges_more e t p r a b = adds_cast (ap₂ (λ (x y : ℕ). taken_fields q taken nodes e ++ (x ∷ y ∷ get_or q.kind e 0 ∷ [])) p r ∙ edges_next e t) (adds_then a b)

  pub edges_same : {f g : Fields} (e : ℕ) → bit taken e ≡ false → Adds (taken_fields q taken nodes e) f g → Adds (taken_fields q taken nodes (e + 1)) f g
  unfolding each edge_fields gather
  edges_same e t a = adds_cast (sym (append-nil _) ∙ edges_next e t) a

-- ---- the whole content
module _ (q : Given) (fair : Fair q) (taken nodes : ℕ) (at-edges : Mask (EndTaken q taken q.edges) nodes) (takes : Edge → Bool) (tests : Takes q taken takes) where
  abbrev all : List Edge
  all = up_to (given_edge q) q.edges

  abbrev labels : List ℕ
  labels = take q.nodes q.labels

  -- the edges that the test takes, and the nodes at them
  taken_are : keep takes all ≡ at_places (bit taken) all
  taken_are =
      keep_places takes all no_edge
      ∙ places_same _ _ all (λ i l. let h : i < q.edges = omega (arith, length_up_to (given_edge q) q.edges) in ap takes (get_d_up_to (given_edge q) q.edges i no_edge h) ∙ tests i h)

  taken_in : {e : Edge} → In e (keep takes all) → OneOf q.edges (λ i. Has taken i × (e ≡ given_edge q i))
  taken_in {e} i =
      let k = keep_in takes all i in
      let o = up_to_in (given_edge q) q.edges k.0 in
      record { at = o.at; below = o.below; holds = (subst T (ap takes o.holds ∙ tests o.at o.below) k.1, o.holds) }

  in_taken : (i : ℕ) → i < q.edges → Has taken i → In (given_edge q i) (keep takes all)
  in_taken i l h = in_keep takes (in_up_to (given_edge q) q.edges i l) (subst T (sym (tests i l)) h)

  nodes_are : touches (keep takes all) ≡ bit nodes
  nodes_are = λ i v. same v i
    where
      same : (v : ℕ) → touches (keep takes all) v ≡ bit nodes v
      same v =
          same_test _ _
          (λ t.
          let r = touches_say (keep takes all) v t in
          let o = taken_in r.1 in
          at-edges.hit v (record { at = o.at; below = o.below; holds = (o.holds.0, subst (λ (f : Edge). (f.from ≡ v) ⊎ (f.to ≡ v)) o.holds.1 r.2) }))
          (λ t. let o = at-edges.why v t in touches_at (keep takes all) (given_edge q o.at, in_taken o.at o.below o.holds.0, o.holds.1))

  part_is : pattern_fields (part_of takes (pattern_in q)) ≡ rank (bit nodes) q.nodes ∷ rank (bit taken) q.edges ∷ (at_places (bit nodes) labels ++ taken_fields q taken nodes q.edges)
  unfolding pattern_fields part_of pattern_in
  part_is =
      let f = moved (rank (bit nodes)) in
      let l : length (at_places (bit nodes) labels) ≡ rank (bit nodes) q.nodes =
      places_length (bit nodes) labels ∙ ap (rank (bit nodes)) (length-take-le q.nodes q.labels (omega (arith, fair.nodes, fair.labels_long))) in
      let m : length (each f (at_places (bit taken) all)) ≡ rank (bit taken) q.edges =
      length_each f (at_places (bit taken) all) ∙ places_length (bit taken) all ∙ ap (rank (bit taken)) (length_up_to (given_edge q) q.edges) in
      ap₂ (λ (t : ℕ → Bool) (es : List Edge). length (at_places t labels) ∷ length (each (moved (rank t)) es) ∷ (at_places t labels ++ edge_fields (each (moved (rank t)) es))) nodes_are taken_are
      ∙ ap₂ (λ (a b : ℕ). a ∷ b ∷ (at_places (bit nodes) labels ++ taken_fields q taken nodes q.edges)) l m

  pub part_holds : {n m : ℕ} {f g h : Fields} → n ≡ rank (bit nodes) q.nodes → m ≡ rank (bit taken) q.edges → HoldsFields (n ∷ m ∷ []) f → Adds (at_places (bit nodes) labels) f g
      → Adds (taken_fields q taken nodes q.edges) g h → HoldsFields (pattern_fields (part_of takes (pattern_in q))) h
  part_holds {n} {m} {h = h} p r c a b =
      subst (λ l. HoldsFields l h)
      (ap₂ (λ (i j : ℕ). i ∷ j ∷ (at_places (bit nodes) labels ++ taken_fields q taken nodes q.edges)) p r ∙ sym part_is)
      (adds_then a b (n ∷ m ∷ []) c)

-- ---- rows
module _ (p : ℕ → Bool) (t : List ℕ) where
  pub picked_none : (r : List ℕ) → r ≡ replicate 512 0 → Picked p t 0 r
  picked_none r e = record { long = ap length e ∙ length-replicate {A = ℕ} 512 0; each = λ k l h. absurd (omega arith); rest = λ k l. ap (λ m. get_or m k 0) e ∙ nothing_at 512 k }

  module _ {k : ℕ} {r : List ℕ} (h : Picked p t k r) where
    pub picked_same : p k ≡ false → Picked p t (k + 1) r
    picked_same n =
        let m = rank_more p k in
        let z = ap one n in
        record {
          long = h.long;
          each = λ i l y. ⊎_elim (λ (s : i < k). h.each i s y) (λ (s : k ≤ i). let q : i ≡ k = omega arith in never (sym ((test_is (p i)).1 y) ∙ ap p q ∙ n)) (lt_or_ge i k);
          rest = λ i l. h.rest i (omega (arith, ap (rank p) (add-one k)));
        }

    pub picked_more : {j : ℕ} → j ≡ rank p k → p k ≡ true → k < 512 → Picked p t (k + 1) (set r j (get_or t k 0))
    picked_more {j} q y s =
        let m = rank_more p k in
        let z = ap one y in
        let a = rank_most p k in
        record {
          long = length-set r j (get_or t k 0) ∙ h.long;
          each = λ i l x.
              ⊎_elim
              (λ (b : i < k). get_or-set_other r j (rank p i) (get_or t k 0) 0 (λ e. let c = rank_rises p i k x b in omega arith) ∙ h.each i b x)
              (λ (b : k ≤ i). let e : k ≡ i = omega arith in subst (λ (v : ℕ). get_or (set r j (get_or t k 0)) (rank p v) 0 ≡ get_or t v 0) e (subst (λ (v : ℕ). get_or (set r j (get_or t k 0)) v 0 ≡ get_or t k 0) q (get_or-set_same r j (get_or t k 0) 0 (omega (arith, h.long)))))
              (lt_or_ge i k);
          rest = λ i l. let b = ap (rank p) (add-one k) in get_or-set_other r j i (get_or t k 0) 0 (λ e. omega arith) ∙ h.rest i (omega arith);
        }
