-- Patterns side by side: one that is added to a batch is a part of it, and what was a part stays one.
use mathlib.Core.Path.{◌≡◌, ◌∙◌, sym, subst}
use mathlib.Core.Logic.{inl, inr, ⊎_elim}
use mathlib.Core.List.{List}
use Prim.Native.Nat.{ℕ, ◌≤◌, ◌<◌, ◌+◌, ◌-◌}
use native.Mathlib.Nat.{zero-add}
use native.Mathlib.Omega.{arith}
use lib.ListN.{get_or, replicate}
use lib.Bits.{bit_and, bit_xor}
use Rattle.packed.specs.declared.by_value.Pattern.{Pattern as Given}
use Rattle.packed.proofs.OrderCases.{lt_or_ge}
use Rattle.engine.specs.declared.batch.Batch.{Batch}
use Rattle.engine.specs.Simulation.{Rule}
use Rattle.engine.specs.Masks.{Has, Mask}
use Rattle.engine.specs.Loaded.{Fair}
use Rattle.engine.specs.Batches.{FairBatch, PartOf, PutFrom, Enlarged}
use Rattle.engine.proofs.MaskBits.{none_has, minus_say, minus_by}
use Rattle.engine.proofs.Filling.{Filling, filling_around, filling_each}
use Rattle.engine.proofs.RowLaws.{blank_long}

-- ---- the batch of no pattern
pub none_fair : {b : Batch} → b.nodes ≡ 0 → b.edges ≡ 0 → b.labels ≡ replicate 64 0 → b.from ≡ replicate 32 0 → b.to ≡ replicate 32 0 → b.kind ≡ replicate 32 0 → b.back ≡ 0
    → FairBatch b
none_fair n m l f t k z =
    record {
      nodes = omega arith;
      edges = omega arith;
      labels_long = blank_long 64 l;
      from_long = blank_long 32 f;
      to_long = blank_long 32 t;
      kind_long = blank_long 32 k;
      labels = λ u h. absurd (omega arith);
      from = λ e h. absurd (omega arith);
      to = λ e h. absurd (omega arith);
      kind = λ e h. absurd (omega arith);
      back = λ e h. absurd (none_has e (subst (λ (x : ℕ). Has x e) z h));
    }

-- ---- words put into a list
pub put_end : {o m a : ℕ} {x old new : List ℕ} {v : ℕ} → Filling o m (λ j y. y ≡ a + get_or x j 0) old new v → m ≤ v → PutFrom o m a x old new
put_end {o} {m} f l = record { around = filling_around o m _ f l; each = filling_each o m _ f l }

module _ {o m a : ℕ} {x old new : List ℕ} (f : PutFrom o m a x old new) where
  -- what holds of the old ones and of those put holds of all
  put_all : (Q : ℕ → Type 0) → ((e : ℕ) → e < o → Q (get_or old e 0)) → ((e : ℕ) → e < m → Q (a + get_or x e 0)) → (e : ℕ) → e < o + m → Q (get_or new e 0)
  put_all Q g h e l =
      ⊎_elim (λ (y : e < o). subst Q (sym (f.around.low e y)) (g e y))
      (λ (y : o ≤ e).
      let k : o + (e - o) ≡ e = omega arith in
      let j : e - o < m = omega arith in
      subst (λ (z : ℕ). Q (get_or new z 0)) k (subst Q (sym (f.each (e - o) j)) (h (e - o) j))) (lt_or_ge e o)

  -- those put are no less than what was added
  put_above : (e : ℕ) → o ≤ e → e < o + m → a ≤ get_or new e 0
  put_above e y l =
      let k : o + (e - o) ≡ e = omega arith in
      let z = f.each (e - o) (omega arith) in
      subst (λ (z : ℕ). a ≤ get_or new z 0) k (omega arith)

-- the links of a set without those below another
pub between_links : (o m : ℕ) {up before : ℕ} {S : Type 0} → Mask (λ e. e < o + m) up → Mask (λ e. e < o) before → S → Mask (λ e. S × (o ≤ e) × (e < o + m)) (bit_xor up (bit_and up before))
between_links o m {up} {before} A B s =
    record {
      hit = λ e h. minus_by up before e (A.hit e h.2) (λ y. let x = B.why e y in let z = h.1 in omega arith);
      why = λ e h.
          (let r = minus_say up before e h in (s, ⊎_elim (λ (y : e < o). absurd (r.1 (B.hit e y))) (λ (y : o ≤ e). y) (lt_or_ge e o), A.why e r.0));
    }

-- ---- adding a pattern
module _ {b : Batch} {p : Given} {q : Rule} {r : Batch} (fair : FairBatch b) (own : Fair p) (few : b.edges + p.edges ≤ 32) (small : b.nodes + p.nodes ≤ 64) (J : Enlarged b p q r) where
  below_nodes : (x ends : List ℕ) {old : List ℕ} → PutFrom b.edges p.edges b.nodes ends old x → ((e : ℕ) → e < b.edges → get_or old e 0 < b.nodes)
      → ((e : ℕ) → e < p.edges → get_or ends e 0 < p.nodes) → (e : ℕ) → e < r.edges → get_or x e 0 < r.nodes
  below_nodes x ends f g h e l =
      let n = J.nodes in
      let m = J.edges in
      put_all f (λ y. y < r.nodes) (λ j i. let z = g j i in omega arith) (λ j i. let z = h j i in omega arith) e (omega arith)

  enlarged_fair : FairBatch r
  enlarged_fair =
      let n = J.nodes in
      let m = J.edges in
      record {
        nodes = omega arith;
        edges = omega arith;
        labels_long = J.labels.around.long ∙ fair.labels_long;
        from_long = J.from.around.long ∙ fair.from_long;
        to_long = J.to.around.long ∙ fair.to_long;
        kind_long = J.kind.around.long ∙ fair.kind_long;
        labels = λ u l. put_all J.labels (λ y. y < 32) fair.labels (λ j i. let z = own.labels j i in omega arith) u (omega arith);
        from = below_nodes r.from p.from J.from fair.from own.from;
        to = below_nodes r.to p.to J.to fair.to own.to;
        kind = λ e l. put_all J.kind (λ y. y < 8) fair.kind (λ j i. let z = own.kind j i in omega arith) e (omega arith);
        back = λ e h. ⊎_elim (λ y. let z = fair.back e y in omega arith) (λ y. let z = y.2 in omega arith) (J.back.why e h);
      }

  enlarged_part : PartOf r q p b.nodes b.edges
  enlarged_part =
      let n = J.nodes in
      let m = J.edges in
      record {
        nodes = omega arith;
        edges = omega arith;
        labels = λ u l. J.labels.each u l ∙ zero-add _;
        from = λ e l. J.from.each e l;
        to = λ e l. J.to.each e l;
        kind = λ e l. J.kind.each e l ∙ zero-add _;
        own = λ e u l lu h.
            ⊎_elim
            (λ (y : e < b.edges).
            absurd (⊎_elim (λ z. let i = J.from.around.low e y in let k = fair.from e y in omega arith) (λ z. let i = J.to.around.low e y in let k = fair.to e y in omega arith) h))
            (λ (y : b.edges ≤ e). (y, omega arith)) (lt_or_ge e b.edges);
        asked = λ e l. (
          (λ h. ⊎_elim (λ y. absurd (let z = fair.back (b.edges + e) y in omega arith)) (λ y. y.0) (J.back.why (b.edges + e) h)),
          λ y. J.back.hit (b.edges + e) (inr (y, omega arith, omega arith)),
        );
      }

  enlarged_keeps : (way : Rule) (x : Given) (a o : ℕ) → PartOf b way x a o → PartOf r way x a o
  enlarged_keeps way x a o part =
      let n = J.nodes in
      let m = J.edges in
      let i = part.nodes in
      let k = part.edges in
      record {
        nodes = omega arith;
        edges = omega arith;
        labels = λ u l. J.labels.around.low (a + u) (omega arith) ∙ part.labels u l;
        from = λ e l. J.from.around.low (o + e) (omega arith) ∙ part.from e l;
        to = λ e l. J.to.around.low (o + e) (omega arith) ∙ part.to e l;
        kind = λ e l. J.kind.around.low (o + e) (omega arith) ∙ part.kind e l;
        own = λ e u l lu h.
            ⊎_elim
            (λ (y : e < b.edges). part.own e u y lu (⊎_elim (λ z. inl (sym (J.from.around.low e y) ∙ z)) (λ z. inr (sym (J.to.around.low e y) ∙ z)) h))
            (λ (y : b.edges ≤ e).
            absurd (⊎_elim (λ z. let c = put_above J.from e y (omega arith) in omega arith) (λ z. let c = put_above J.to e y (omega arith) in omega arith) h)) (lt_or_ge e b.edges);
        asked = λ e l. (
          (λ h. ⊎_elim (λ y. (part.asked e l).0 y) (λ y. absurd (let z = y.1 in omega arith)) (J.back.why (o + e) h)),
          λ y. J.back.hit (o + e) (inl ((part.asked e l).1 y)),
        );
      }

  -- all that is promised of it
  pub added : FairBatch r × (r.nodes ≡ b.nodes + p.nodes) × (r.edges ≡ b.edges + p.edges) × PartOf r q p b.nodes b.edges
      × ((way : Rule) (x : Given) (a o : ℕ) → PartOf b way x a o → PartOf r way x a o)
  added = (enlarged_fair, J.nodes, J.edges, enlarged_part, enlarged_keeps)
