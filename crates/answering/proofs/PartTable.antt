-- The table of the part that the usable views answer is, for these, the query's, at the rows of its matched edges.
use Prim.Native.Nat.{ℕ, zero, suc, ◌+◌, ◌*◌, ◌/◌, ◌%◌, ◌<◌, ◌≤◌}
use mathlib.Core.Path.{◌≡◌, refl, sym, ap, ap₂, subst, ◌∙◌}
use mathlib.Core.Bool.{Bool, true}
use mathlib.Core.Logic.{⊎_elim}
use mathlib.Core.List.{List, [], ◌∷◌}
use lib.ListN.{length, get_or}
use lib.Seq.{ext_get_or}
use lib.Dec.{T}
use native.Mathlib.Omega.{arith}
use borrow.Author.Tests.{lt-ltb, le-ltb}
use Rattle.packed.specs.Bits.{one}
use Rattle.packed.specs.Format.{pick}
use Rattle.packed.proofs.OrderCases.{lt_or_ge}
use Rattle.engine.specs.Lists.{In, here, there, keep, each, up_to}
use Rattle.engine.specs.Simulation.{Edge, no_edge, Pattern, bit, as_graph, ascending}
use Rattle.matching.specs.Join.{is_match, matched}
use Rattle.matching.specs.Part.{rank, moved, number, part_of}
use Rattle.engine.proofs.ByEdge.{row_of}
use Rattle.engine.proofs.ListLaws.{in_at}
use Rattle.engine.proofs.UpToLaws.{length_up_to, get_d_up_to}
use Rattle.engine.proofs.MatchLaws.{SoundPattern}
use Rattle.matching.proofs.MatchSetLaws.{view_each}
use Rattle.matching.proofs.PlaceLaws.{one_of, rank_more, rank_same}
use Rattle.matching.proofs.PartLaws.{part_number, part_edge, had_is_match}
use Rattle.containment.specs.Choice.{columns_in}
use Rattle.containment.specs.Quote.{mask_in, match_mask, no_pattern, mask_at, mapping, views_in_set}
use Rattle.answering.specs.Parting.{Picked, in_rows}
use Rattle.containment.proofs.SetBits.{test_cases}
use Rattle.containment.proofs.ColumnLaws.{pick_zero, columns_long, columns_at}
use Rattle.answering.proofs.QuoteLaws.{chosen_say, chosen_in}

-- ---- places in a table with 16 columns
module _ (s : ℕ → Bool) where
  abbrev rows : ℕ → Bool
  rows k = s (k / 16)

  in_row : (e a : ℕ) → a ≤ 16 → rank rows (16 * e + a) ≡ rank rows (16 * e) + a * one (s e)
  in_row e zero h = omega (arith, ap (rank rows) (let z : 16 * e + 0 ≡ 16 * e = omega arith in z))
  in_row e (suc a) h =
      let z : 16 * e + suc a ≡ suc (16 * e + a) = omega arith in
      let d : (16 * e + a) / 16 ≡ e = omega arith in
      ap (rank rows) z ∙ rank_more rows (16 * e + a) ∙ ap₂ (λ (x y : ℕ). x + one (s y)) (in_row e a (omega arith)) d ∙ omega arith

  pub rows_rank : (e : ℕ) → rank rows (16 * e) ≡ 16 * rank s e
  unfolding rank
  rows_rank zero = refl
  rows_rank (suc e) =
      let z : 16 * suc e ≡ 16 * e + 16 = omega arith in
      ap (rank rows) z ∙ in_row e 16 (omega arith) ∙ omega (arith, rows_rank e, rank_more s e)

  pub place_rank : (e a : ℕ) → a < 16 → T (s e) → rank rows (16 * e + a) ≡ 16 * rank s e + a
  place_rank e a h t = in_row e a (omega arith) ∙ ap (λ (x : ℕ). rank rows (16 * e) + a * x) (one_of (s e) t) ∙ omega (arith, rows_rank e)

-- ---- masks
-- a mask, where the lists are those of the edges
mask_same : (e h : Edge) (l m : Edge → List ℕ) (gs : List Edge) → ((g : Edge) → In g gs → is_match e g (l g) ≡ is_match h g (m g)) → mask_in e gs (each l gs) ≡ mask_in h gs (each m gs)
unfolding mask_in each
mask_same e h l m [] q = refl
mask_same e h l m (g ∷ gs) q = ap₂ (λ (b : Bool) (x : ℕ). one b + 2 * x) (q g (here refl)) (mask_same e h l m gs (λ k i. q k (there i)))

module _ (Q : Pattern) (ok : SoundPattern Q) (few : length Q.labels ≤ 4096) (few_edges : length Q.edges ≤ 32) (Ps : List Pattern)
    (each_sound : (P : Pattern) → In P Ps → SoundPattern P) (set : ℕ) where
  -- the views that may be used
  abbrev Us : List Pattern
  Us = views_in_set set Ps

  pub usable_sound : (P : Pattern) → In P (views_in_set set Ps) → SoundPattern P
  usable_sound P i = let o = chosen_say set Ps P i in each_sound P (subst (λ R. In R Ps) (sym o.holds.1) (in_at Ps o.at no_pattern o.below))

  abbrev part : Pattern
  part = part_of (matched Q Us) Q

  abbrev edge : ℕ → Edge
  edge v = get_or Q.edges v no_edge

  had_mask : {P : Pattern} → In P Us → {e : Edge} → In e Q.edges → T (matched Q Us e) → match_mask part (moved (number (keep (matched Q Us) Q.edges)) e) P ≡ match_mask Q e P
  unfolding match_mask
  had_mask {P} p {e} i t =
      let h = moved (number (keep (matched Q Us) Q.edges)) e in
      ap (mask_in h P.edges) (view_each P (as_graph part))
      ∙ mask_same h e (λ g. ascending (row_of P (as_graph part) g)) (λ g. ascending (row_of P (as_graph Q) g)) P.edges (λ g j. had_is_match Q ok few Us usable_sound p i t j)
      ∙ ap (mask_in e P.edges) (sym (view_each P (as_graph Q)))

  -- the mask of the edge i of the part, for a view that may be used, is that of the edge that it came from
  pub had_row : (i a v : ℕ) → i < length (part_of (matched Q (views_in_set set Ps)) Q).edges → v < length Q.edges → T (matched Q (views_in_set set Ps) (get_or Q.edges v no_edge))
      → get_or (part_of (matched Q (views_in_set set Ps)) Q).edges i no_edge ≡ moved (number (keep (matched Q (views_in_set set Ps)) Q.edges)) (get_or Q.edges v no_edge) → a < 16 → bit set a ≡ true
      → mask_at (part_of (matched Q (views_in_set set Ps)) Q) Ps (16 * i + a) ≡ mask_at Q Ps (16 * v + a)
  unfolding mask_at
  had_row i a v h l t q n s =
      let x : (16 * i + a) / 16 ≡ i = omega arith in
      let x' : (16 * v + a) / 16 ≡ v = omega arith in
      let y : (16 * i + a) % 16 ≡ a = omega arith in
      let y' : (16 * v + a) % 16 ≡ a = omega arith in
      let z = lt-ltb i (length part.edges) h in
      let z' = lt-ltb v (length Q.edges) l in
      rw (x, y, x', y', z, z')
      (⊎_elim
      (λ (w : a < length Ps). let u = lt-ltb a (length Ps) w in rw u (ap (λ e. match_mask part e (get_or Ps a no_pattern)) q ∙ had_mask (chosen_in set Ps a w s) (in_at Q.edges v no_edge l) t))
      (λ (w : length Ps ≤ a). let u = le-ltb a (length Ps) w in rw u)
      (lt_or_ge a (length Ps)))

  beyond : (k : ℕ) → length part.edges ≤ k / 16 → mask_at part Ps k ≡ 0
  unfolding mask_at
  beyond k h = let u = le-ltb (k / 16) (length part.edges) h in rw u

  -- the rows of the edges that a mask takes, where it takes the matched ones: of the views that may be used
  pub part_table : (taken : ℕ) → ((v : ℕ) → v < length Q.edges → matched Q (views_in_set set Ps) (get_or Q.edges v no_edge) ≡ bit taken v) → (r : List ℕ)
      → Picked (in_rows taken) (columns_in set (mapping Q Ps)) (16 * length Q.edges) r → r ≡ columns_in set (mapping (part_of (matched Q (views_in_set set Ps)) Q) Ps)
  unfolding mapping
  part_table taken same r p =
      ext_get_or 0 r (columns_in set whole) (p.long ∙ sym (columns_long set whole ∙ length_up_to (mask_at part Ps) 512))
      (λ k l.
      let n : k < 512 = omega (arith, p.long) in
      ⊎_elim (λ (h : k / 16 < length part.edges). taken-row k n h)
      (λ (h : length part.edges ≤ k / 16). p.rest k (omega (arith, rows_rank (bit taken) (length Q.edges), number_is)) ∙ sym (at_part k n ∙ ap (λ (x : ℕ). pick (bit set (k % 16)) x 0) (beyond k h) ∙ sym (pick_zero (bit set (k % 16)))))
      (lt_or_ge (k / 16) (length part.edges)))
    where
      whole : List ℕ
      whole = up_to (mask_at part Ps) 512

      at_part : (k : ℕ) → k < 512 → get_or (columns_in set whole) k 0 ≡ pick (bit set (k % 16)) (mask_at part Ps k) 0
      at_part k n = columns_at set whole k ∙ ap (λ (x : ℕ). pick (bit set (k % 16)) x 0) (get_d_up_to (mask_at part Ps) 512 k 0 n)

      at_same : (v : ℕ) → v ≤ length Q.edges → rank (λ u. matched Q Us (edge u)) v ≡ rank (bit taken) v
      at_same v h = rank_same _ _ v (λ u l. same u (omega arith))

      number_is : length part.edges ≡ rank (bit taken) (length Q.edges)
      number_is = part_number Q ok (matched Q Us) ∙ at_same (length Q.edges) (omega arith)

      taken-row : (k : ℕ) → k < 512 → k / 16 < length part.edges → get_or r k 0 ≡ get_or (columns_in set whole) k 0
      taken-row k n h =
          let o = part_edge Q ok (matched Q Us) (k / 16) h in
          let v = o.0 in
          let b : v < length Q.edges = o.1 in
          let a : ℕ = k % 16 in
          let s : T (bit taken v) = subst T (same v b) o.2 in
          let i : rank (bit taken) v ≡ k / 16 = sym (at_same v (omega arith)) ∙ o.3 in
          let x : rank (in_rows taken) (16 * v + a) ≡ k = place_rank (bit taken) v a (omega arith) s ∙ omega arith in
          let z : k ≡ 16 * (k / 16) + a = omega arith in
          let m : (16 * v + a) % 16 ≡ k % 16 = omega arith in
          ap (λ (j : ℕ). get_or r j 0) (sym x)
          ∙ p.each (16 * v + a) (omega arith) (subst (λ (j : ℕ). T (bit taken j)) (let d : v ≡ (16 * v + a) / 16 = omega arith in d) s)
          ∙ columns_at set (up_to (mask_at Q Ps) 512) (16 * v + a)
          ∙ ap (λ (j : ℕ). pick (bit set j) (get_or (up_to (mask_at Q Ps) 512) (16 * v + a) 0) 0) m
          ∙ ap (λ (y : ℕ). pick (bit set (k % 16)) y 0) (get_d_up_to (mask_at Q Ps) 512 (16 * v + a) 0 (omega arith))
          ∙ ⊎_elim
          (λ y. ap (λ (w : ℕ). pick (bit set (k % 16)) w 0) (sym (had_row (k / 16) a v h b o.2 o.4 (omega arith) y) ∙ ap (mask_at part Ps) (sym z)))
          (λ y. rw y)
          (test_cases (bit set (k % 16)))
          ∙ sym (at_part k n)
