-- The search: all links are due at once and none is free. What is left of each part of a batch is its greatest simulation.
use mathlib.Core.Path.{◌≡◌, refl, ap, ◌∙◌, sym, subst, subst₂}
use mathlib.Core.Logic.{◌⊎◌, inl, inr, ⊎_elim}
use mathlib.Core.List.{List}
use Prim.Native.Nat.{ℕ, ◌<◌, ◌+◌, ◌-◌, ◌/◌, ◌%◌}
use native.Mathlib.Omega.{arith}
use lib.ListN.{length, get_or, length-take}
use lib.Seq.{get_or-take}
use lib.Dec.{T}
use Rattle.packed.specs.Contents.{word_from, word_to}
use Rattle.packed.specs.declared.by_value.Pattern.{Pattern as Given}
use Rattle.engine.specs.declared.batch.Batch.{Batch}
use Rattle.engine.specs.Lists.{In, each}
use Rattle.engine.specs.Simulation.{Pair, Edge, between, Rule, Pattern, ruled, Graph, bit, has, fits, sim, IsSim}
use Rattle.engine.specs.Loaded.{given_edge, pattern_in, Fair}
use Rattle.engine.specs.Batches.{PartOf}
use Rattle.engine.specs.Masks.{Has, Mask, OneOf}
use Rattle.engine.proofs.MaskBits.{none_has}
use Rattle.engine.proofs.ListLaws.{each_in, in_each}
use Rattle.engine.proofs.UpToLaws.{in_up_to, up_to_in}
use Rattle.engine.proofs.SimLaws.{has_in, in_has, fits_say, fits_by, sim_is, sim_most}
use Rattle.engine.specs.Sweeping.{from_of, to_of, kind_of, held_at, Tabled}
use Rattle.engine.specs.Starting.{OfKind}
use Rattle.engine.specs.Rounds.{OffersBy, Safe, Shape, Prepared, TabledBack, Fixed}
use Rattle.engine.proofs.RoundLaws.{fixed_prepared}
use Rattle.engine.proofs.RestingLaws.{RestsAt, rests_supports, rests_backs}

-- the edges are those numbered below m
pub record EdgeNumbered (edges : List Edge) (m : ℕ) (numbered : ℕ → Edge) : Type 0 where
  pub has : (e : ℕ) → e < m → In (numbered e) edges
  pub is : (f : Edge) → In f edges → OneOf m (λ e. f ≡ numbered e)

-- the node v has the label of the batch's item u
abbrev pub Labelled : Batch → Graph → ℕ → ℕ → Type 0
Labelled b G u v = (v < length G.labels) × Has (get_or G.labels v 0) (get_or b.labels u 0)

-- each pair is held for the links of its kind, and the masks have those whose end has a label of the node
pub record Begun (b : Batch) (G : Graph) (d : ℕ) (w leave arrive : List ℕ) : Type 0 where
  pub pairs : EdgeNumbered G.edges d (λ i. between (from_of w i) (to_of w i) (kind_of w i))
  pub held : (i : ℕ) → i < d → Mask (OfKind b.kind b.edges (kind_of w i)) (held_at w i)
  pub leave_by : (v e : ℕ) → e < b.edges → Labelled b G (get_or b.from e 0) v → Has (get_or leave v 0) e
  pub leave_say : (v e : ℕ) → e < b.edges → Has (get_or leave v 0) e → Labelled b G (get_or b.from e 0) v
  pub arrive_by : (v e : ℕ) → e < b.edges → Labelled b G (get_or b.to e 0) v → Has (get_or arrive v 0) e
  pub arrive_say : (v e : ℕ) → e < b.edges → Has (get_or arrive v 0) e → Labelled b G (get_or b.to e 0) v

-- u is an end of a link of the pattern
abbrev pub EndOf : Given → ℕ → Type 0
EndOf p u = OneOf p.edges (λ e. (get_or p.from e 0 ≡ u) ⊎ (get_or p.to e 0 ≡ u))

-- ---- pairs of nodes, the first of each moved on by a
abbrev move : ℕ → Pair → Pair
move a x = (a + x.0, x.1)

abbrev moved : ℕ → List Pair → List Pair
moved a l = each (move a) l

moved_by : (a : ℕ) {l : List Pair} {y v : ℕ} → In (y, v) l → In (a + y, v) (moved a l)
moved_by a i = in_each (move a) i

moved_say : (a : ℕ) (l : List Pair) {u v : ℕ} → In (u, v) (moved a l) → (y : ℕ) × In (y, v) l × (u ≡ a + y)
moved_say a l i =
    let r = each_in (move a) l i in
    (r.0.0, subst (λ (z : ℕ). In (r.0.0, z) l) (sym (ap (λ (x : Pair). x.1) r.2)) r.1, ap (λ (x : Pair). x.0) r.2)

-- ---- a pattern by value
pub links_numbered : (p : Given) → EdgeNumbered (pattern_in p).edges p.edges (given_edge p)
unfolding pattern_in
links_numbered p = record { has = λ e l. in_up_to (given_edge p) p.edges e l; is = λ f i. up_to_in (given_edge p) p.edges i }

labels_long : {p : Given} → Fair p → length (pattern_in p).labels ≡ p.nodes
unfolding pattern_in
labels_long {p} fair = length-take p.nodes p.labels ∙ (let a = fair.nodes in let b = fair.labels_long in omega arith)

label_at : (p : Given) (u : ℕ) → u < p.nodes → get_or (pattern_in p).labels u 0 ≡ get_or p.labels u 0
unfolding pattern_in
label_at p u l = get_or-take p.nodes p.labels u 0 l

module _ (b : Batch) (G : Graph) (n d : ℕ) (w leave arrive : List ℕ) (B : Begun b G d w leave arrive) where
  begun_shape : Shape b.from b.to b.edges leave arrive
  begun_shape =
      record {
        out_out = λ v e k le lk q h. B.leave_by v k lk (subst (λ (x : ℕ). Labelled b G x v) q (B.leave_say v e le h));
        out_in = λ v e k le lk q h. B.arrive_by v k lk (subst (λ (x : ℕ). Labelled b G x v) q (B.leave_say v e le h));
        in_out = λ v e k le lk q h. B.leave_by v k lk (subst (λ (x : ℕ). Labelled b G x v) q (B.arrive_say v e le h));
        in_in = λ v e k le lk q h. B.arrive_by v k lk (subst (λ (x : ℕ). Labelled b G x v) q (B.arrive_say v e le h));
      }

  module _ {way : Rule} {p : Given} {a o : ℕ} (part : PartOf b way p a o) (fair : Fair p) where
    abbrev P : Pattern
    P = ruled way (pattern_in p)

    fit-say : (u v : ℕ) → T (fits P G (u, v)) → (u < p.nodes) × Labelled b G (a + u) v
    fit-say u v t =
        let f = fits_say P G t in
        let l : u < p.nodes = (let x = labels_long fair in let y = f.left in omega arith) in
        (l, (f.right, subst (λ (x : ℕ). T (bit (get_or G.labels v 0) x)) (label_at p u l ∙ sym (part.labels u l)) f.label))

    fit_by : (u v : ℕ) → u < p.nodes → Labelled b G (a + u) v → T (fits P G (u, v))
    fit_by u v l h =
        fits_by P G
        (record {
          left = (let x = labels_long fair in omega arith);
          right = h.0;
          label = subst (λ (x : ℕ). T (bit (get_or G.labels v 0) x)) (part.labels u l ∙ sym (label_at p u l)) h.1;
        })

    -- the links of the part, by their numbers in it
    inside : (j : ℕ) → j < p.edges → o + j < b.edges
    inside j l = let x = part.edges in omega arith

    from_at_lem : (j u : ℕ) → j < p.edges → get_or p.from j 0 ≡ u → get_or b.from (o + j) 0 ≡ a + u
    from_at_lem j u l q = part.from j l ∙ ap (λ (x : ℕ). a + x) q

    to-at : (j u : ℕ) → j < p.edges → get_or p.to j 0 ≡ u → get_or b.to (o + j) 0 ≡ a + u
    to-at j u l q = part.to j l ∙ ap (λ (x : ℕ). a + x) q

    -- a link with an end among the part's items is one of its own
    own-link : (e u : ℕ) → e < b.edges → u < p.nodes → (get_or b.from e 0 ≡ a + u) ⊎ (get_or b.to e 0 ≡ a + u) → OneOf p.edges (λ j. e ≡ o + j)
    own-link e u le lu h = let r = part.own e u le lu h in record { at = e - o; below = (let x = r.0 in let y = r.1 in omega arith); holds = (let x = r.0 in omega arith) }

    -- the greatest simulation of the part, by the batch's items
    abbrev stands : List Pair
    stands = moved a (sim P G)

    -- an edge of the graph that follows the part's link j is held for it, as it leaves a node and as it arrives at one
    offer-out : (e j : ℕ) → e ≡ o + j → j < p.edges → e < b.edges → (v : ℕ) (f : Edge) → In f G.edges → f.from ≡ v → f.kind ≡ get_or p.kind j 0
        → In (get_or p.to j 0, f.to) (sim P G) → OffersBy word_from word_to b.to d w (λ u v. T (has (u, v) stands)) v e
    offer-out e j z lj le v f m q k t =
        let i = B.pairs.is f m in
        record {
          at = i.at;
          below = i.below;
          holds = (
            sym (ap (λ (f : Edge). f.from) i.holds) ∙ q,
            (B.held i.at i.below).hit e (le, ap (λ (x : ℕ). get_or b.kind x 0) z ∙ part.kind j lj ∙ sym k ∙ ap (λ (f : Edge). f.kind) i.holds),
            in_has (subst₂ (λ (x y : ℕ). In (x, y) stands) (sym (ap (λ (x : ℕ). get_or b.to x 0) z ∙ part.to j lj)) (ap (λ (f : Edge). f.to) i.holds) (moved_by a t)),
          );
        }

    offer-in : (e j : ℕ) → e ≡ o + j → j < p.edges → e < b.edges → (v : ℕ) (f : Edge) → In f G.edges → f.to ≡ v → f.kind ≡ get_or p.kind j 0
        → In (get_or p.from j 0, f.from) (sim P G) → OffersBy word_to word_from b.from d w (λ u v. T (has (u, v) stands)) v e
    offer-in e j z lj le v f m q k t =
        let i = B.pairs.is f m in
        record {
          at = i.at;
          below = i.below;
          holds = (
            sym (ap (λ (f : Edge). f.to) i.holds) ∙ q,
            (B.held i.at i.below).hit e (le, ap (λ (x : ℕ). get_or b.kind x 0) z ∙ part.kind j lj ∙ sym k ∙ ap (λ (f : Edge). f.kind) i.holds),
            in_has (subst₂ (λ (x y : ℕ). In (x, y) stands) (sym (ap (λ (x : ℕ). get_or b.from x 0) z ∙ part.from j lj)) (ap (λ (f : Edge). f.from) i.holds) (moved_by a t)),
          );
        }

    begun-safe : (free : ℕ) → Safe b.from b.to b.edges free b.back d w leave arrive (λ u v. T (has (u, v) stands))
    begun-safe free =
        record {
          supports = λ u v h e le nf q.
              (let m = moved_say a (sim P G) (has_in (u, v) h) in
              let k = own-link e m.0 le (fit-say m.0 v ((sim_is P G).fit m.0 v m.1)).0 (inl (q ∙ m.2)) in
              let f : get_or p.from k.at 0 ≡ m.0 = (let z = ap (λ (x : ℕ). get_or b.from x 0) k.holds in let x = part.from k.at k.below in let t = m.2 in omega arith) in
              let s = (sim_is P G).follow m.0 v m.1 (given_edge p k.at) ((links_numbered p).has k.at k.below) f in
              offer-out e k.at k.holds k.below le v s.0 s.1 s.2 s.3 s.4);
          backs = λ u v h e le t q.
              (let m = moved_say a (sim P G) (has_in (u, v) h) in
              let k = own-link e m.0 le (fit-say m.0 v ((sim_is P G).fit m.0 v m.1)).0 (inr (q ∙ m.2)) in
              let f : get_or p.to k.at 0 ≡ m.0 = (let z = ap (λ (x : ℕ). get_or b.to x 0) k.holds in let x = part.to k.at k.below in let t = m.2 in omega arith) in
              let rule = (part.asked k.at k.below).0 (subst (Has b.back) k.holds t) in
              let s = (sim_is P G).arrive rule m.0 v m.1 (given_edge p k.at) ((links_numbered p).has k.at k.below) f in
              offer-in e k.at k.holds k.below le v s.0 s.1 s.2 s.3 s.4);
          leaves = λ u v e h le q.
              (let m = moved_say a (sim P G) (has_in (u, v) h) in
              B.leave_by v e le (subst (λ (x : ℕ). Labelled b G x v) (sym (q ∙ m.2)) (fit-say m.0 v ((sim_is P G).fit m.0 v m.1)).1));
          arrives = λ u v e h le q.
              (let m = moved_say a (sim P G) (has_in (u, v) h) in
              B.arrive_by v e le (subst (λ (x : ℕ). Labelled b G x v) (sym (q ∙ m.2)) (fit-say m.0 v ((sim_is P G).fit m.0 v m.1)).1));
        }

    module _ {due : ℕ} {leaving arriving ending starting out : List ℕ} {r : ℕ} {w' leave' arrive' out' : List ℕ} (T₁ : Tabled b.from b.from b.edges leaving)
        (T₂ : Tabled b.from b.to b.edges arriving) (T₃ : TabledBack b.back b.from b.to b.edges ending starting) (all : (e : ℕ) → e < b.edges → Has due e)
        (E : Prepared n d w leave arrive out) (F : Fixed n 0 due b.back d leaving arriving ending starting w leave arrive out r w' leave' arrive' out') where
      apart : (e : ℕ) → Has due e → Has 0 e → ⊥
      apart e y h = none_has e h

      -- the item u of the part may stand at v
      abbrev Rested : ℕ → ℕ → Type 0
      Rested u v = RestsAt b.from b.to b.edges n leave' arrive' (a + u) v

      -- where nothing was lost, what may stand is a simulation
      stands-sim : r ≡ 0 → IsSim P G (λ u v. Rested u v × EndOf p u)
      stands-sim z =
          let s = F.sound b.from b.to b.edges T₁ T₂ T₃ apart b.back (λ e h. h) in
          record {
            fit = λ u v h.
                (let j = h.1.at in
                let lj = h.1.below in
                let le = inside j lj in
                ⊎_elim
                (λ (q : get_or p.from j 0 ≡ u).
                let x = from_at_lem j u lj q in
                fit_by u v (subst (λ (x : ℕ). x < p.nodes) q (fair.from j lj))
                (subst (λ (x : ℕ). Labelled b G x v) x (B.leave_say v (o + j) le (s.leave_part v (o + j) (h.0.0.leaves (o + j) le x)))))
                (λ (q : get_or p.to j 0 ≡ u).
                let x = to-at j u lj q in
                fit_by u v (subst (λ (x : ℕ). x < p.nodes) q (fair.to j lj))
                (subst (λ (x : ℕ). Labelled b G x v) x (B.arrive_say v (o + j) le (s.arrive_part v (o + j) (h.0.0.arrives (o + j) le x)))))
                h.1.holds);
            follow = λ u v h g j t.
                (let k = (links_numbered p).is g j in
                let e = o + k.at in
                let le = inside k.at k.below in
                let x = from_at_lem k.at u k.below (sym (ap (λ (f : Edge). f.from) k.holds) ∙ t) in
                let y : get_or p.to k.at 0 ≡ g.to = sym (ap (λ (f : Edge). f.to) k.holds) in
                let i = rests_supports b.from b.to b.edges T₁.few (fixed_prepared F E).ends apart (s.shape begun_shape) (F.rests z) (a + u) v h.0 e le (all e le) x in
                let c = F.falls.same i.at i.below in (
                  between (from_of w i.at) (to_of w i.at) (kind_of w i.at),
                  B.pairs.has i.at i.below,
                  sym (ap (λ (y : ℕ). y / 4096 % 4096) c) ∙ i.holds.0,
                  sym ((B.held i.at i.below).why e (F.falls.part i.at e i.below i.holds.1)).1 ∙ part.kind k.at k.below ∙ sym (ap (λ (f : Edge). f.kind) k.holds),
                  (
                    subst₂ (RestsAt b.from b.to b.edges n leave' arrive') (to-at k.at g.to k.below y) (ap (λ (y : ℕ). y % 4096) c) i.holds.2,
                    record { at = k.at; below = k.below; holds = inr y },
                  ),
                ));
            arrive = λ rule u v h g j t.
                (let k = (links_numbered p).is g j in
                let e = o + k.at in
                let le = inside k.at k.below in
                let x = to-at k.at u k.below (sym (ap (λ (f : Edge). f.to) k.holds) ∙ t) in
                let y : get_or p.from k.at 0 ≡ g.from = sym (ap (λ (f : Edge). f.from) k.holds) in
                let i = rests_backs b.from b.to b.edges T₁.few (fixed_prepared F E).ends (λ e y h. none_has e h) (s.shape begun_shape) (F.rests z) (a + u) v h.0 e le
                ((part.asked k.at k.below).1 rule) x in
                let c = F.falls.same i.at i.below in (
                  between (from_of w i.at) (to_of w i.at) (kind_of w i.at),
                  B.pairs.has i.at i.below,
                  sym (ap (λ (y : ℕ). y % 4096) c) ∙ i.holds.0,
                  sym ((B.held i.at i.below).why e (F.falls.part i.at e i.below i.holds.1)).1 ∙ part.kind k.at k.below ∙ sym (ap (λ (f : Edge). f.kind) k.holds),
                  (
                    subst₂ (RestsAt b.from b.to b.edges n leave' arrive') (from_at_lem k.at g.from k.below y) (ap (λ (y : ℕ). y / 4096 % 4096) c) i.holds.2,
                    record { at = k.at; below = k.below; holds = inl y },
                  ),
                ));
          }

      -- so for the ends of links it is the greatest simulation
      search-greatest : r ≡ 0 → (u v : ℕ) → EndOf p u → Rested u v → In (u, v) (sim P G)
      search-greatest z u v k h = sim_most P G _ (stands-sim z) u v (h, k)

      -- a pair of the link's kind is held for it where its ends are partners of the link's ends
      pub held_say : r ≡ 0 → (i j : ℕ) → i < d → j < p.edges → Has (held_at w' i) (o + j) → In (get_or p.from j 0, from_of w i) (sim P G) × In (get_or p.to j 0, to_of w i) (sim P G)
      held_say z i j l lj h =
          let s = (F.sound b.from b.to b.edges T₁ T₂ T₃ apart b.back (λ e h. h)).shape begun_shape in
          let e = o + j in
          let le = inside j lj in
          let x = part.from j lj in
          let y = part.to j lj in
          let m = ⊎_elim (λ f. absurd (none_has e f)) (λ b. b) ((F.rests z).within i e l h) in
          let n' = (fixed_prepared F E).ends in
          let c = F.falls.same i l in (
            subst (λ (y : ℕ). In (get_or p.from j 0, y / 4096 % 4096) (sim P G)) c
                (search-greatest z (get_or p.from j 0) (from_of w' i) (record { at = j; below = lj; holds = inl refl })
                (record { leaves = λ k lk q. s.out_out _ e k le lk (x ∙ sym q) m.0; arrives = λ k lk q. s.out_in _ e k le lk (x ∙ sym q) m.0 }, n'.from i l)),
            subst (λ (y : ℕ). In (get_or p.to j 0, y % 4096) (sim P G)) c
                (search-greatest z (get_or p.to j 0) (to_of w' i) (record { at = j; below = lj; holds = inr refl })
                (record { leaves = λ k lk q. s.in_out _ e k le lk (y ∙ sym q) m.1; arrives = λ k lk q. s.in_in _ e k le lk (y ∙ sym q) m.1 }, n'.to i l)),
          )

      pub held_by : (i j : ℕ) → i < d → j < p.edges → get_or p.kind j 0 ≡ kind_of w i → In (get_or p.from j 0, from_of w i) (sim P G) → In (get_or p.to j 0, to_of w i) (sim P G)
          → Has (held_at w' i) (o + j)
      held_by i j l lj q x y =
          let le = inside j lj in
          (F.sound b.from b.to b.edges T₁ T₂ T₃ apart b.back (λ e h. h)).stays (λ u v. has (u, v) stands) (begun-safe 0) i (o + j) l le
          (in_has (subst (λ (u : ℕ). In (u, from_of w i) stands) (sym (part.from j lj)) (moved_by a x)))
          (in_has (subst (λ (u : ℕ). In (u, to_of w i) stands) (sym (part.to j lj)) (moved_by a y))) ((B.held i l).hit (o + j) (le, part.kind j lj ∙ q))
