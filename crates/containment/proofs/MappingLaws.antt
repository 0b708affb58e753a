-- The table of a quote: the masks of each view, column by column.
use Prim.Native.Nat.{ℕ, zero, suc, ◌+◌, ◌*◌, ◌/◌, ◌%◌, ◌^◌, ◌<◌, ◌≤◌}
use mathlib.Core.Path.{◌≡◌, refl, sym, ap, subst, ◌∙◌}
use mathlib.Core.Bool.{Bool, true, false, not}
use mathlib.Core.Logic.{⊎_elim}
use mathlib.Core.List.{List, [], ◌∷◌}
use lib.ListN.{length, drop, get_or, set, replicate, length-set, length-replicate, get_or-replicate, get_or-eq_default}
use lib.Seq.{get_or-set_same, get_or-set_other, drop-cons, ext_get_or}
use lib.Dec.{T, ltb, eqb}
use native.Mathlib.Omega.{arith}
use lib.Pow.{shr-shr, mod-pow-add}
use borrow.Author.Tests.{lt-ltb, le-ltb}
use Rattle.packed.specs.Contents.{word_kind}
use Rattle.packed.specs.Matches.{marks, marked, marked_from, any_empty, emptied, all_or_none, codes_of, masks_of, matches_from, Marked}
use Rattle.packed.specs.declared.by_value.Pattern.{Pattern as Given}
use Rattle.packed.proofs.OrderCases.{lt_or_ge}
use Rattle.packed.proofs.RoundTrip.{and_no}
use Rattle.engine.specs.Lists.{up_to}
use Rattle.engine.specs.Simulation.{Edge, between, no_edge, Pattern, bit}
use Rattle.engine.specs.Loaded.{given_edge, edge_of_word}
use Rattle.engine.specs.Masks.{OneOf}
use Rattle.engine.specs.Matched.{Rises}
use Rattle.matching.specs.Join.{is_match}
use Rattle.engine.proofs.ListLaws.{same_test, not_in_none}
use Rattle.engine.proofs.UpToLaws.{length_up_to, get_d_up_to}
use Rattle.engine.proofs.MatchedLaws.{marks_bit}
use Rattle.matching.proofs.MarkedLaws.{part_test}
use Rattle.matching.proofs.JoinLaws.{match_say}
use Rattle.containment.specs.Quote.{one, mask_in, match_mask, no_pattern, mask_at, mapping}
use Rattle.containment.specs.Steps.{PlaceOf, Placed, Column, Columns, noted_mask}
use Rattle.containment.proofs.SetBits.{test_cases, never}

-- ---- a column of the table
module _ {a : ℕ} {g : ℕ → ℕ → Type 0} {t : List ℕ} where
  pub column_start : Column a 0 g t t
  column_start = record { long = refl; each = λ e l. absurd (omega arith); rest = λ k n. refl }

  pub column_more : {n x : ℕ} {t' : List ℕ} → Column a n g t t' → a < 16 → n < 32 → length t ≡ 512 → g n x → Column a (n + 1) g t (set t' (16 * n + a) x)
  column_more {n} {x} {t'} c h l long y =
      let i : ℕ = 16 * n + a in
      record {
        long = length-set t' i x ∙ c.long;
        each = λ e k.
            ⊎_elim
            (λ (p : e < n). subst (g e) (sym (get_or-set_other t' i (16 * e + a) x 0 (λ (z : 16 * e + a ≡ i). omega arith))) (c.each e p))
            (λ (p : n ≤ e).
            let q : e ≡ n = omega arith in
            subst (λ (d : ℕ). g d (get_or (set t' i x) (16 * d + a) 0)) (sym q) (subst (g n) (sym (get_or-set_same t' i x 0 (omega (arith, c.long)))) y))
            (lt_or_ge e n);
        rest = λ k z.
            get_or-set_other t' i k x 0 (λ (q : k ≡ i). z (omega arith, omega arith)) ∙ c.rest k (λ (q : (k % 16 ≡ a) × (k / 16 < n)). z (q.0, omega (arith, q.1)));
      }

  pub column_none : (n : ℕ) → ((e : ℕ) → e < n → g e (get_or t (16 * e + a) 0)) → Column a n g t t
  column_none n h = record { long = refl; each = h; rest = λ k z. refl }

  pub column_end : (i n : ℕ) {t' : List ℕ} → Column a i g t t' → i ≡ n → Column a n g t t'
  column_end i n {t'} c e = subst (λ (j : ℕ). Column a j g t t') e c

-- ---- the columns of the views of a batch
pub columns_start : {a n : ℕ} {g : ℕ → ℕ → ℕ → Type 0} {t : List ℕ} → Columns a a n g t t
columns_start = record { long = refl; each = λ i e h l k. absurd (omega arith); rest = λ k z. refl }

pub columns_more : {a j n : ℕ} {g : ℕ → ℕ → ℕ → Type 0} {t t' t'' : List ℕ} → Columns a j n g t t' → a ≤ j → j < 16 → Column j n (g j) t' t'' → Columns a (j + 1) n g t t''
columns_more {a} {j} {n} {g} {t} {t'} {t''} cs h l c =
    record {
      long = c.long ∙ cs.long;
      each = λ i e k m o.
          ⊎_elim
          (λ (p : i < j). subst (g i e) (sym (c.rest (16 * e + i) (λ (z : ((16 * e + i) % 16 ≡ j) × ((16 * e + i) / 16 < n)). omega (arith, z.0)))) (cs.each i e k p o))
          (λ (p : j ≤ i). let q : i ≡ j = omega arith in subst (λ (d : ℕ). g d e (get_or t'' (16 * e + d) 0)) (sym q) (c.each e o))
          (lt_or_ge i j);
      rest = λ k z.
          c.rest k (λ (q : (k % 16 ≡ j) × (k / 16 < n)). z (omega (arith, q.0), omega (arith, q.0), q.1))
          ∙ cs.rest k (λ (q : (a ≤ k % 16) × (k % 16 < j) × (k / 16 < n)). z (q.0, omega (arith, q.1), q.2));
    }

pub columns_end : {a n : ℕ} {g : ℕ → ℕ → ℕ → Type 0} {t t' : List ℕ} (i j : ℕ) → Columns a i n g t t' → i ≡ j → Columns a j n g t t'
columns_end {a} {n} {g} {t} {t'} i j c e = subst (λ (k : ℕ). Columns a k n g t t') e c

-- a column that is still clear
pub columns_clear : {a j n : ℕ} {g : ℕ → ℕ → ℕ → Type 0} {t t' : List ℕ} → Columns a j n g t t' → j < 16 → ((e : ℕ) → get_or t (16 * e + j) 0 ≡ 0) → (e : ℕ) → get_or t' (16 * e + j) 0 ≡ 0
columns_clear {a} {j} {n} cs l h e =
    cs.rest (16 * e + j) (λ (z : (a ≤ (16 * e + j) % 16) × ((16 * e + j) % 16 < j) × ((16 * e + j) / 16 < n)). omega (arith, z.1)) ∙ h e

pub column_map : {a n : ℕ} {t t' : List ℕ} {g h : ℕ → ℕ → Type 0} → ((e x : ℕ) → e < n → g e x → h e x) → Column a n g t t' → Column a n h t t'
column_map f c = record { long = c.long; each = λ e l. f e _ l (c.each e l); rest = c.rest }

-- ---- the mask of a word
module _ {w : List ℕ} {m c : ℕ} (o : OneOf m (λ i. get_or w i 0 ≡ c)) {r : ℕ} (p : PlaceOf w m c r) where
  place_below : r < m
  place_below =
      let b = o.below in
      let l = p.within in
      ⊎_elim (λ (h : r < m). h) (λ (h : m ≤ r). absurd (p.lower o.at (omega arith) o.holds)) (lt_or_ge r m)

  pub place_holds : (r < m) × (get_or w r 0 ≡ c)
  place_holds = (place_below, p.here place_below)

-- ---- lists and masks
one_marks : (f x : ℕ) → one (marks f x) ≡ x / 2 ^ f % 2
unfolding marks
one_marks f x = by-test (x / 2 ^ f % 2) (omega arith)
  where
    by-test : (d : ℕ) → d < 2 → one (eqb d 1) ≡ d
    by-test zero h = refl
    by-test (suc zero) h = refl
    by-test (suc (suc d)) h = absurd (omega arith)

-- ---- the edges that match, as a mask
module _ (e : Edge) where
  mask_none : (gs : List Edge) → mask_in e gs [] ≡ 0
  unfolding mask_in
  mask_none [] = refl
  mask_none (g ∷ gs) = refl

  emptied_none : (gs : List Edge) (ls : List (List ℕ)) → mask_in e gs (emptied ls) ≡ 0
  unfolding mask_in emptied
  emptied_none [] ls = refl
  emptied_none (g ∷ gs) [] = refl
  emptied_none (g ∷ gs) (l ∷ ls) =
      let i = emptied_none gs ls in
      let j : one (is_match e g []) ≡ 0 = ap one (same_test (is_match e g []) false (λ t. not_in_none (match_say e g [] t).1) (λ t. absurd t)) in
      omega arith

  -- it is those bits of x, if they name exactly those that match
  module _ (x o : ℕ) (gs : List Edge) (ps qs : List ℕ) (is : (f : ℕ) → f < length gs → is_match e (get_or gs f no_edge) (marked (o + f) ps qs) ≡ marks (o + f) x) where
    mask-from : (f k : ℕ) → length gs ≡ f + k → mask_in e (drop f gs) (marked_from (o + f) k ps qs) ≡ x / 2 ^ (o + f) % 2 ^ k
    unfolding mask_in marked_from
    mask-from f zero n = mask_none (drop f gs) ∙ (let y : ℕ = x / 2 ^ (o + f) in omega arith)
    mask-from f (suc k) n =
        let y : ℕ = x / 2 ^ (o + f) in
        let z : f + suc k ≡ suc f + k = omega arith in
        let u : o + suc f ≡ suc (o + f) = omega arith in
        let v : k + 1 ≡ suc k = omega arith in
        let w : x / 2 ^ (o + suc f) ≡ y / 2 ^ 1 = ap (λ (n : ℕ). x / 2 ^ n) (omega arith) ∙ sym (shr-shr x (o + f) 1) in
        let i : mask_in e (drop (suc f) gs) (marked_from (suc (o + f)) k ps qs) ≡ y / 2 ^ 1 % 2 ^ k =
        ap (λ (d : ℕ). mask_in e (drop (suc f) gs) (marked_from d k ps qs)) (sym u) ∙ mask-from (suc f) k (n ∙ z) ∙ ap (λ (d : ℕ). d % 2 ^ k) w in
        let j : one (is_match e (get_or gs f no_edge) (marked (o + f) ps qs)) ≡ y % 2 = ap one (is f (omega arith)) ∙ one_marks (o + f) x in
        let d : y % 2 ^ suc k ≡ (y / 2 ^ 1 % 2 ^ k) * 2 ^ 1 + y % 2 ^ 1 = ap (λ (n : ℕ). y % 2 ^ n) (sym v) ∙ mod-pow-add y k 1 in
        let b : one (is_match e (get_or gs f no_edge) (marked (o + f) ps qs)) + 2 * mask_in e (drop (suc f) gs) (marked_from (suc (o + f)) k ps qs) ≡ y % 2 ^ suc k = omega (arith, i, j, d) in
        ap (λ (l : List Edge). mask_in e l (marked_from (o + f) (suc k) ps qs)) (drop-cons gs f no_edge (omega arith)) ∙ b

-- ---- what is noted of a view
module _ (o m d : ℕ) (w : List ℕ) (i : ℕ) {r : Bool} (says : r ≡ not (any_empty (marked_from o m (codes_of d w) (masks_of d w)))) where
  pub noted_none : not r ≡ true → 0 ≡ noted_mask o m d w i
  unfolding noted_mask
  noted_none e = ⊎_elim (λ y. rw y) (λ n. never (sym e ∙ ap not (says ∙ ap not n))) (test_cases (any_empty (marked_from o m (codes_of d w) (masks_of d w))))

  pub noted_all : not r ≡ false → get_or w (8192 + i) 0 / 2 ^ o % 2 ^ m ≡ noted_mask o m d w i
  unfolding noted_mask
  noted_all e = ⊎_elim (λ y. never (sym (ap not (says ∙ ap not y)) ∙ e)) (λ n. rw n) (test_cases (any_empty (marked_from o m (codes_of d w) (masks_of d w))))

-- it is those of its edges that match, by its lists, where its bits name edges of its kinds alone
module _ {d : ℕ} {w : List ℕ} (mk : Marked d w) (rises : Rises d w) (gs : List Edge) (o : ℕ)
    (only : (i e : ℕ) → i < d → e < length gs → T (bit (get_or w (8192 + i) 0) (o + e)) → (get_or gs e no_edge).kind ≡ word_kind (get_or w i 0)) where
  pub noted_mask_lem : (i : ℕ) → i < d → noted_mask o (length gs) d w i ≡ mask_in (edge_of_word (get_or w i 0)) gs (matches_from o d (length gs) w)
  unfolding noted_mask matches_from all_or_none
  noted_mask_lem i h =
      let lists : List (List ℕ) = marked_from o (length gs) (codes_of d w) (masks_of d w) in
      let x : ℕ = get_or w (8192 + i) 0 in
      let n : o + 0 ≡ o = omega arith in
      let k : length gs ≡ 0 + length gs = omega arith in
      let t : (f : ℕ) → f < length gs → is_match (edge_of_word (get_or w i 0)) (get_or gs f no_edge) (marked (o + f) (codes_of d w) (masks_of d w)) ≡ marks (o + f) x =
      λ f l. part_test gs o mk rises only i h f l ∙ sym (marks_bit (o + f) x) in
      let all : mask_in (edge_of_word (get_or w i 0)) gs lists ≡ x / 2 ^ o % 2 ^ length gs =
      subst (λ (b : ℕ). mask_in (edge_of_word (get_or w i 0)) gs (marked_from b (length gs) (codes_of d w) (masks_of d w)) ≡ x / 2 ^ b % 2 ^ length gs) n
      (mask-from (edge_of_word (get_or w i 0)) x o gs (codes_of d w) (masks_of d w) t 0 (length gs) k) in
      ⊎_elim (λ y. rw y (sym (emptied_none (edge_of_word (get_or w i 0)) gs lists))) (λ y. rw y (sym all)) (test_cases (any_empty lists))

-- the edge of the word at its place
pub word_edge : {q : Given} {n m : ℕ} {w ps : List ℕ} → Placed q n m w ps → (e : ℕ) → e < n → edge_of_word (get_or w (get_or ps e 0) 0) ≡ given_edge q e
word_edge {q} {w = w} {ps} p e l =
    let fair = p.fair in
    let r = (p.each e l).1 in
    let below : e < q.edges = omega (arith, p.edges) in
    let n = fair.nodes in
    let a = fair.from e below in
    let b = fair.to e below in
    let x : get_or w (get_or ps e 0) 0 / 4096 % 4096 ≡ get_or q.from e 0 = omega (arith, r, n, a, b) in
    let y : get_or w (get_or ps e 0) 0 % 4096 ≡ get_or q.to e 0 = omega (arith, r, n, a, b) in
    let z : get_or w (get_or ps e 0) 0 / 2 ^ 24 ≡ get_or q.kind e 0 = omega (arith, r, n, a, b) in
    λ i. between (x i) (y i) (z i)

-- ---- the whole table
module _ (Q : Pattern) where
  abbrev edge : ℕ → Edge
  edge e = get_or Q.edges e no_edge

  mask_in_lem : (Ps : List Pattern) (k : ℕ) → k / 16 < length Q.edges → k % 16 < length Ps → mask_at Q Ps k ≡ match_mask Q (edge (k / 16)) (get_or Ps (k % 16) no_pattern)
  unfolding mask_at
  mask_in_lem Ps k h l = rw (lt-ltb _ _ h, lt-ltb _ _ l)

  mask_over : (Ps : List Pattern) (k : ℕ) → length Q.edges ≤ k / 16 → mask_at Q Ps k ≡ 0
  unfolding mask_at
  mask_over Ps k h = rw (le-ltb _ _ h)

  pub mask_beyond : (Ps : List Pattern) (k : ℕ) → length Ps ≤ k % 16 → mask_at Q Ps k ≡ 0
  unfolding mask_at
  mask_beyond Ps k h = rw (le-ltb _ _ h, and_no (ltb (k / 16) (length Q.edges)))

  pub mapping_length : (Ps : List Pattern) → length (mapping Q Ps) ≡ 512
  unfolding mapping
  mapping_length Ps = length_up_to (mask_at Q Ps) 512

  pub mapping_at : (Ps : List Pattern) (k : ℕ) → k < 512 → get_or (mapping Q Ps) k 0 ≡ mask_at Q Ps k
  unfolding mapping
  mapping_at Ps k h = get_d_up_to (mask_at Q Ps) 512 k 0 h

  mapping_by : (Ps : List Pattern) (t : List ℕ) → length t ≡ 512 → ((k : ℕ) → k < 512 → get_or t k 0 ≡ mask_at Q Ps k) → t ≡ mapping Q Ps
  mapping_by Ps t n h =
      ext_get_or 0 t (mapping Q Ps) (n ∙ sym (mapping_length Ps)) (λ k l. let j : k < 512 = omega arith in h k j ∙ sym (mapping_at Ps k j))

  pub mapping_none : {t : List ℕ} → t ≡ replicate 512 0 → t ≡ mapping Q []
  mapping_none {t} e =
      e ∙ mapping_by [] (replicate 512 0) (length-replicate {A = ℕ} 512 0) (λ k h. get_or-replicate {A = ℕ} 512 k 0 0 h ∙ sym (mask_beyond [] k (omega arith)))

  -- nothing stands in a column that no view has
  pub column_clear : (Ps : List Pattern) (t : List ℕ) (a e : ℕ) → length Ps ≤ a → a < 16 → t ≡ mapping Q Ps → get_or t (16 * e + a) 0 ≡ 0
  column_clear Ps t a e h l q =
      ap (λ (s : List ℕ). get_or s (16 * e + a) 0) q
      ∙ ⊎_elim (λ (p : 16 * e + a < 512). mapping_at Ps (16 * e + a) p ∙ mask_beyond Ps (16 * e + a) (omega arith))
      (λ (p : 512 ≤ 16 * e + a). get_or-eq_default (mapping Q Ps) 0 (omega (arith, mapping_length Ps)))
      (lt_or_ge (16 * e + a) 512)

  -- the columns of the views a .. j are added
  module _ (P : ℕ → Pattern) (a j : ℕ) (since : a ≤ j) {t t' : List ℕ} (q : t ≡ mapping Q (up_to P a))
      (c : Columns a j (length Q.edges) (λ i e x. x ≡ match_mask Q (edge e) (P i)) t t') where
    view-mask : (n k : ℕ) → k / 16 < length Q.edges → k % 16 < n → mask_at Q (up_to P n) k ≡ match_mask Q (edge (k / 16)) (P (k % 16))
    view-mask n k h l =
        mask_in_lem (up_to P n) k h (omega (arith, length_up_to P n)) ∙ ap (match_mask Q (edge (k / 16))) (get_d_up_to P n (k % 16) no_pattern l)

    beyond : (n k : ℕ) → n ≤ k % 16 → mask_at Q (up_to P n) k ≡ 0
    beyond n k h = mask_beyond (up_to P n) k (omega (arith, length_up_to P n))

    at : (k : ℕ) → k < 512 → get_or t' k 0 ≡ mask_at Q (up_to P j) k
    at k l =
        let kept : ((a ≤ k % 16) × (k % 16 < j) × (k / 16 < length Q.edges) → ⊥) → mask_at Q (up_to P a) k ≡ mask_at Q (up_to P j) k → get_or t' k 0 ≡ mask_at Q (up_to P j) k =
        λ n e. c.rest k n ∙ ap (λ (s : List ℕ). get_or s k 0) q ∙ mapping_at (up_to P a) k l ∙ e in
        let z : 16 * (k / 16) + k % 16 ≡ k = omega arith in
        ⊎_elim
        (λ (h : k / 16 < length Q.edges).
        ⊎_elim
        (λ (f : k % 16 < a).
        kept (λ (x : (a ≤ k % 16) × (k % 16 < j) × (k / 16 < length Q.edges)). omega (arith, x.0)) (view-mask a k h f ∙ sym (view-mask j k h (omega arith))))
        (λ (f : a ≤ k % 16).
        ⊎_elim (λ (g : k % 16 < j). ap (λ (i : ℕ). get_or t' i 0) (sym z) ∙ c.each (k % 16) (k / 16) f g h ∙ sym (view-mask j k h g))
        (λ (g : j ≤ k % 16). kept (λ (x : (a ≤ k % 16) × (k % 16 < j) × (k / 16 < length Q.edges)). omega (arith, x.1)) (beyond a k f ∙ sym (beyond j k g)))
        (lt_or_ge (k % 16) j))
        (lt_or_ge (k % 16) a))
        (λ (h : length Q.edges ≤ k / 16).
        kept (λ (x : (a ≤ k % 16) × (k % 16 < j) × (k / 16 < length Q.edges)). omega (arith, x.2)) (mask_over (up_to P a) k h ∙ sym (mask_over (up_to P j) k h)))
        (lt_or_ge (k / 16) (length Q.edges))

    pub mapping_columns : t' ≡ mapping Q (up_to P j)
    mapping_columns = mapping_by (up_to P j) t' (c.long ∙ ap length q ∙ mapping_length (up_to P a)) at
