-- From the start of a search to what is found: the engine's rest are the match sets.
use mathlib.Core.Path.{◌≡◌, refl, ap, ◌∙◌, sym, subst}
use mathlib.Core.Logic.{⊎_elim}
use mathlib.Core.List.{List}
use Prim.Native.Nat.{ℕ, ◌≤◌, ◌<◌, ◌+◌, ◌*◌, ◌/◌, ◌%◌, ◌^◌}
use native.Mathlib.Omega.{arith}
use lib.ListN.{length, get_or}
use Rattle.packed.specs.Bits.{field}
use Rattle.packed.specs.declared.by_value.Pattern.{Pattern as Given}
use Rattle.packed.proofs.OrderCases.{lt_or_ge}
use Rattle.engine.specs.Lists.{In}
use Rattle.engine.specs.declared.batch.Batch.{Batch}
use Rattle.engine.specs.Simulation.{Rule, ruled, Graph, sim}
use Rattle.engine.specs.Loaded.{edge_of_word, pattern_in, graph_in, Fair, Ready, Edges}
use Rattle.engine.specs.Matched.{Rises}
use Rattle.engine.specs.Batches.{FairBatch, PartOf, BatchMatched}
use Rattle.engine.specs.Masks.{Has, Mask}
use Rattle.engine.specs.Sweeping.{kind_of, Tabled}
use Rattle.engine.specs.Rounds.{Prepared, TabledBack, Fixed}
use Rattle.engine.specs.Starting.{NodeRoom, OfKind, KindsHeld, LinksSpread}
use Rattle.engine.proofs.UpToLaws.{length_up_to, get_d_up_to, in_up_to, up_to_in}
use Rattle.engine.proofs.MaskBits.{none_has, part_le}
use Rattle.engine.proofs.SearchingLaws.{EdgeNumbered, Labelled, Begun, held_say, held_by}
use Rattle.engine.proofs.RankLaws.{rank_from}
use Rattle.engine.proofs.MatchedLaws.{ListsCodes, pairs_marked, matches}

-- the edges of the graph, by their numbers
pairs_numbered : (s : List ℕ) (n m : ℕ) (w w' : List ℕ) → ((i : ℕ) → i < m → get_or w' i 0 ≡ get_or w i 0) → EdgeNumbered (graph_in s n m w).edges m (λ i. edge_of_word (get_or w' i 0))
unfolding graph_in
pairs_numbered s n m w w' e =
    record {
      has = λ i l. subst (λ (x : ℕ). In (edge_of_word x) (graph_in s n m w).edges) (sym (e i l)) (in_up_to (λ j. edge_of_word (get_or w j 0)) m i l);
      is = λ f i. (let r = up_to_in (λ j. edge_of_word (get_or w j 0)) m i in
          record { at = r.at; below = r.below; holds = r.holds ∙ ap edge_of_word (sym (e r.at r.below)) });
    }

module _ {b : Batch} {s : List ℕ} {n m : ℕ} {w : List ℕ} (fair : FairBatch b) (ready : Ready s n m w) (rises : Rises m w) where
  abbrev G : Graph
  G = graph_in s n m w

  nodes_long : length G.labels ≡ n
  unfolding graph_in
  nodes_long = length_up_to (λ v. field s (27 + 32 * v) 32) n

  labels_at : (v : ℕ) → v < n → get_or G.labels v 0 ≡ field s (27 + 32 * v) 32
  unfolding graph_in
  labels_at v l = get_d_up_to (λ j. field s (27 + 32 * j) 32) n v 0 l

  -- the labels of a node in the record are its labels in the graph
  label_say : (u v : ℕ) → Labelled b G u v → (v < n) × Has (field s (27 + 32 * v) 32) (get_or b.labels u 0)
  label_say u v h = let l : v < n = (let x = nodes_long in let y = h.0 in omega arith) in (l, subst (λ (x : ℕ). Has x (get_or b.labels u 0)) (labels_at v l) h.1)

  label_by : (u v : ℕ) → v < n → Has (field s (27 + 32 * v) 32) (get_or b.labels u 0) → Labelled b G u v
  label_by u v l h = ((let x = nodes_long in omega arith), subst (λ (x : ℕ). Has x (get_or b.labels u 0)) (sym (labels_at v l)) h)

  module _ {all : ℕ} {leave₀ arrive₀ out₀ w₁ leave arrive out : List ℕ} (A : Mask (λ k. k < b.edges) all) (R : NodeRoom n leave₀ arrive₀ out₀)
      (H : KindsHeld b.kind b.edges m w w₁) (S : LinksSpread b s n leave₀ arrive₀ out₀ leave arrive out) where
    code : (i : ℕ) → i < m → get_or w₁ i 0 ≡ get_or w i 0
    code i l = H.around.low i (let z = ready.edges in omega arith)

    leave_beyond : (v : ℕ) → n ≤ v → get_or leave v 0 ≡ 0
    leave_beyond v l = S.leaves.high v (omega arith) ∙ R.leave_clear v l

    arrive_beyond : (v : ℕ) → n ≤ v → get_or arrive v 0 ≡ 0
    arrive_beyond v l = S.arrives.high v (omega arith) ∙ R.arrive_clear v l

    -- the masks of the nodes have the links whose end has one of their labels
    leave_say : (v e : ℕ) → Has (get_or leave v 0) e → Labelled b G (get_or b.from e 0) v
    leave_say v e h =
        ⊎_elim (λ (l : v < n). label_by _ v l ((S.leave_each v l).why e h).1) (λ (l : n ≤ v). absurd (none_has e (subst (λ (x : ℕ). Has x e) (leave_beyond v l) h))) (lt_or_ge v n)

    arrive_say : (v e : ℕ) → Has (get_or arrive v 0) e → Labelled b G (get_or b.to e 0) v
    arrive_say v e h =
        ⊎_elim (λ (l : v < n). label_by _ v l ((S.arrive_each v l).why e h).1) (λ (l : n ≤ v). absurd (none_has e (subst (λ (x : ℕ). Has x e) (arrive_beyond v l) h))) (lt_or_ge v n)

    begun : Begun b G m w₁ leave arrive
    begun =
        record {
          pairs = pairs_numbered s n m w w₁ code;
          held = λ i l. subst (λ (x : ℕ). Mask (OfKind b.kind b.edges (x / 2 ^ 24)) (get_or w₁ (8192 + i) 0)) (sym (code i l)) (H.each i l);
          leave_by = λ v e le h. (let q = label_say _ v h in (S.leave_each v q.0).hit e (le, q.1));
          leave_say = λ v e le h. leave_say v e h;
          arrive_by = λ v e le h. (let q = label_say _ v h in (S.arrive_each v q.0).hit e (le, q.1));
          arrive_say = λ v e le h. arrive_say v e h;
        }

    pub started : Prepared n m w₁ leave arrive out
    started =
        let a = S.leaves.long in
        let b = S.arrives.long in
        let c = S.outs.long in
        let x = R.nodes in
        record {
          ends =
              record {
                most = ready.edges;
                long = H.around.long ∙ ready.long;
                from = λ i l. (let z = ready.from i l in let y = ap (λ (x : ℕ). x / 4096 % 4096) (code i l) in omega arith);
                to = λ i l. (let z = ready.to i l in let y = ap (λ (x : ℕ). x % 4096) (code i l) in omega arith);
              };
          order = λ i j l h.
              (let z = rank_from (get_or w i 0) (get_or w j 0) (ready.kind j h) (rises i j l h) in
              let y = ap (λ (x : ℕ). x / 4096 % 4096) (code i (omega arith)) in
              let u = ap (λ (x : ℕ). x / 4096 % 4096) (code j h) in
              omega arith);
          nodes = omega arith;
          leave_long = a ∙ R.leave_long ∙ sym c;
          arrive_long = b ∙ R.arrive_long ∙ sym c;
          clear = S.clear;
        }

    module _ {leaving arriving ending starting w₂ leave' arrive' out' : List ℕ} (T₁ : Tabled b.from b.from b.edges leaving) (T₂ : Tabled b.from b.to b.edges arriving)
        (T₃ : TabledBack b.back b.from b.to b.edges ending starting)
        (F : Fixed n 0 all b.back m leaving arriving ending starting w₁ leave arrive out 0 w₂ leave' arrive' out') where
      apart : (e : ℕ) → Has all e → Has 0 e → ⊥
      apart e y h = none_has e h

      edges-kept : Edges w w₂
      edges-kept = record { long = F.falls.long ∙ H.around.long; same = λ k l. F.falls.low k l ∙ H.around.low k l }

      only : (i e : ℕ) → i < m → Has (get_or w₂ (8192 + i) 0) e → OfKind b.kind b.edges (kind_of w i) e
      only i e l h = (H.each i l).why e (F.falls.part i e l h)

      found : (way : Rule) (p : Given) (a o : ℕ) → PartOf b way p a o → Fair p → ListsCodes way p o s n m w w₂
      found way p a o part own =
          record {
            say = λ i e l le h.
                (let r = held_say b G n m w₁ leave arrive begun part own T₁ T₂ T₃ A.hit started F refl i e l le h in (
                  subst (λ (x : ℕ). In (get_or p.from e 0, x / 4096 % 4096) (sim (ruled way (pattern_in p)) G)) (code i l) r.0,
                  subst (λ (x : ℕ). In (get_or p.to e 0, x % 4096) (sim (ruled way (pattern_in p)) G)) (code i l) r.1,
                ));
            by = λ i e l le q x y.
                held_by b G n m w₁ leave arrive begun part own T₁ T₂ T₃ A.hit started F i e l le (q ∙ sym (ap (λ (x : ℕ). x / 2 ^ 24) (code i l)))
                (subst (λ (x : ℕ). In (get_or p.from e 0, x / 4096 % 4096) (sim (ruled way (pattern_in p)) G)) (sym (code i l)) x)
                (subst (λ (x : ℕ). In (get_or p.to e 0, x % 4096) (sim (ruled way (pattern_in p)) G)) (sym (code i l)) y);
            only = λ i e l le h. sym (part.kind e le) ∙ (only i (o + e) l h).1;
          }

      -- the lent arrays may be lent again
      room-again : NodeRoom n leave' arrive' out'
      room-again =
          let f = F.sound b.from b.to b.edges T₁ T₂ T₃ apart b.back (λ e h. h) in
          let a = F.leave_long ∙ S.leaves.long ∙ R.leave_long in
          let b = F.arrive_long ∙ S.arrives.long ∙ R.arrive_long in
          let c = F.out_long ∙ S.outs.long in
          record {
            nodes = (let x = R.nodes in omega arith);
            leave_long = a ∙ sym c;
            arrive_long = b ∙ sym c;
            leave_clear = λ v l. (let q : get_or leave' v 0 ≤ 0 = part_le _ 0 (λ e h. subst (λ (x : ℕ). Has x e) (leave_beyond v l) (f.leave_part v e h)) in omega arith);
            arrive_clear = λ v l. (let q : get_or arrive' v 0 ≤ 0 = part_le _ 0 (λ e h. subst (λ (x : ℕ). Has x e) (arrive_beyond v l) (f.arrive_part v e h)) in omega arith);
          }

      pub all_found : BatchMatched b s n m w w₂ × NodeRoom n leave' arrive' out'
      all_found =
          let k = pairs_marked ready rises edges-kept b.kind (λ i e l h. (only i e l h).1) in (
            record {
              edges = edges-kept;
              marked = k;
              within = λ i e l h. (only i e l h).0;
              parts = λ way p a o part own proper. matches ready edges-kept k (found way p a o part own) proper;
            },
            room-again,
          )
