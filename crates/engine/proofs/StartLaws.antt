-- The loops of a search's start.
use mathlib.Core.Path.{◌≡◌, refl, ap, ◌∙◌, sym, subst}
use mathlib.Core.Logic.{◌⊎◌, inl, inr, ⊎_elim}
use mathlib.Core.List.{List}
use Prim.Native.Nat.{ℕ, ◌≤◌, ◌<◌, ◌+◌, ◌*◌, ◌/◌, ◌^◌}
use native.Mathlib.Omega.{arith}
use lib.ListN.{length, get_or, set, replicate, length-set}
use lib.Seq.{get_or-set_same, get_or-set_other}
use lib.Bits.{bit_and, bit_or, bit_xor}
use lib.Count.{count_trailing_zeros}
use Rattle.packed.specs.Bits.{field}
use Rattle.packed.proofs.OrderCases.{lt_or_ge, eq_or_ne}
use Rattle.packed.proofs.ByValueLaws.{nothing_at}
use Rattle.engine.specs.declared.batch.Batch.{Batch}
use Rattle.engine.specs.Batches.{FairBatch}
use Rattle.engine.specs.Masks.{Has, Mask, OneOf}
use Rattle.engine.specs.Sweeping.{kind_of}
use Rattle.engine.specs.Starting.{NodeRoom, OfKind, ByKind, KindsHeld, ByLabel, OfLabels, Allowed, LinksSpread}
use Rattle.engine.proofs.Masks.{bit_self, bit_one}
use Rattle.engine.proofs.MaskBits.{none_has, and_say, and_by, minus_say, minus_by, lowest_has, lowest_least, mask_cast, mask_or, mask_one, mask_self, mask_none}
use Rattle.engine.proofs.Filling.{Filling, filling_start, filling_more, filling_around, filling_each, filling_front}
use Rattle.engine.proofs.RowLaws.{blank_long}

-- the lowest member of x
pub lowest_of : (x : ℕ) → (x ≡ 0 → ⊥) → x < 2 ^ 32 → (count_trailing_zeros 32 x < 32) × Has x (count_trailing_zeros 32 x) × ((k : ℕ) → k < count_trailing_zeros 32 x → Has x k → ⊥)
lowest_of x n l =
    let h = lowest_has 32 x (⊎_elim (λ (z : 0 < x). z) (λ (z : x ≤ 0). absurd (n (omega arith))) (lt_or_ge 0 x)) l in
    (h.0, h.1, lowest_least 32 x)

-- arrays of `nothing_at`
pub room_blank : (k n : ℕ) {leave arrive out : List ℕ} → n ≤ k → leave ≡ replicate k 0 → arrive ≡ replicate k 0 → out ≡ replicate k 0 → NodeRoom n leave arrive out
room_blank k n l a b c =
    let z = blank_long k c in
    record {
      nodes = omega arith;
      leave_long = blank_long k a ∙ sym z;
      arrive_long = blank_long k b ∙ sym z;
      leave_clear = λ v h. ap (λ (x : List ℕ). get_or x v 0) a ∙ nothing_at k v;
      arrive_clear = λ v h. ap (λ (x : List ℕ). get_or x v 0) b ∙ nothing_at k v;
    }

-- ---- links by a number that each has: for each number below size those of m links that have it
pub record Grouped (size : ℕ) (at : ℕ → ℕ) (m : ℕ) (t : List ℕ) : Type 0 where
  pub long : length t ≡ size
  pub each : (l : ℕ) → l < size → Mask (λ e. (e < m) × (at e ≡ l)) (get_or t l 0)

module _ (size : ℕ) (at : ℕ → ℕ) where
  pub group_start : {t : List ℕ} → t ≡ replicate size 0 → Grouped size at 0 t
  group_start {t} z =
      record {
        long = blank_long size z;
        each = λ l h. subst (Mask (λ e. (e < 0) × (at e ≡ l))) (sym (ap (λ (x : List ℕ). get_or x l 0) z ∙ nothing_at size l)) (mask_none (λ e p. absurd (let q = p.0 in omega arith)));
      }

  -- one of the links below e that has the number l
  abbrev Of : ℕ → ℕ → ℕ → Type 0
  Of l e k = (k < e) × (at k ≡ l)

  grow : (l e k : ℕ) → Of l e k → Of l (e + 1) k
  grow l e k p = let h = p.0 in (omega arith, p.1)

  last : (l e k : ℕ) → (e ≡ k) × (at e ≡ l) → Of l (e + 1) k
  last l e k p = let h = p.0 in (omega arith, sym (ap at h) ∙ p.1)

  cases : (l e k : ℕ) → Of l (e + 1) k → Of l e k ⊎ (e ≡ k)
  cases l e k p = let h = p.0 in ⊎_elim (λ (y : k < e). inl (y, p.1)) (λ (y : e ≤ k). inr (omega arith)) (lt_or_ge k e)

  pub group_more : {t : List ℕ} {e : ℕ} → Grouped size at e t → at e < size → (b : ℕ) → b ≡ 2 ^ e → Grouped size at (e + 1) (set t (at e) (bit_or (get_or t (at e) 0) b))
  group_more {t} {e} B lt b eb =
      let x = bit_or (get_or t (at e) 0) b in
      let i : at e < length t = let z = B.long in omega arith in
      record {
        long = length-set t (at e) x ∙ B.long;
        each = λ l h. ⊎_elim
            (λ (q : l ≡ at e).
            let y : Mask (Of l e) (get_or t (at e) 0) = subst (λ (k : ℕ). Mask (Of l e) (get_or t k 0)) q (B.each l h) in
            subst (Mask (Of l (e + 1))) (sym (ap (λ (y : ℕ). get_or (set t (at e) x) y 0) q ∙ get_or-set_same t (at e) x 0 i))
            (mask_cast (λ k. ⊎_elim (grow l e k) (last l e k)) (λ k p. ⊎_elim (λ z. inl z) (λ (z : e ≡ k). inr (z, sym q)) (cases l e k p)) (mask_or y (mask_one e b eb (sym q)))))
            (λ (q : l ≡ at e → ⊥).
            subst (Mask (Of l (e + 1))) (sym (get_or-set_other t (at e) l x 0 q))
            (mask_cast (grow l e) (λ k p. ⊎_elim (λ z. z) (λ (z : e ≡ k). absurd (q (sym p.1 ∙ sym (ap at z)))) (cases l e k p)) (B.each l h)))
            (eq_or_ne l (at e));
      }

  -- a number that is not below size has no place
  pub group_skip : {t : List ℕ} {e : ℕ} → Grouped size at e t → size ≤ at e → Grouped size at (e + 1) t
  group_skip {t} {e} B ge =
      record {
        long = B.long;
        each = λ l h. mask_cast (grow l e) (λ k p. ⊎_elim (λ z. z) (λ (z : e ≡ k). absurd (let q : at e ≡ l = ap at z ∙ p.1 in omega arith)) (cases l e k p)) (B.each l h);
      }

  pub group_end : {t : List ℕ} {e : ℕ} (m : ℕ) → Grouped size at e t → e ≡ m → Grouped size at m t
  group_end {t} m B q = subst (λ (x : ℕ). Grouped size at x t) q B

-- ---- the links of each kind
module _ (kinds : List ℕ) (m : ℕ) where
  pub kind_end : {t : List ℕ} {e : ℕ} → Grouped 8 (λ k. get_or kinds k 0) e t → e ≡ m → ByKind kinds m t
  kind_end B q = let g = group_end 8 (λ k. get_or kinds k 0) m B q in record { long = g.long; each = g.each }

-- each pair gets what the table has for its kind
pub record Holding (t : List ℕ) (d : ℕ) (w₀ w : List ℕ) (i : ℕ) : Type 0 where
  pub fill : Filling 8192 d (λ j x. x ≡ get_or t (kind_of w₀ j) 0) w₀ w i

pub holding_start : (t : List ℕ) (d : ℕ) (w : List ℕ) → Holding t d w w 0
holding_start t d w = record { fill = filling_start 8192 d _ w }

module _ {t : List ℕ} {d : ℕ} {w₀ w : List ℕ} {i : ℕ} (h : Holding t d w₀ w i) (few : d ≤ 8192) where
  word : i < d → get_or w i 0 ≡ get_or w₀ i 0
  word l = h.fill.low i (omega arith)

  pub holding_kind : i < d → ((j : ℕ) → j < d → kind_of w₀ j < 8) → kind_of w i < 8
  holding_kind l k = subst (λ (x : ℕ). x / 2 ^ 24 < 8) (sym (word l)) (k i l)

  pub holding_more : i < d → length w₀ ≡ 16384 → Holding t d w₀ (set w (8192 + i) (get_or t (kind_of w i) 0)) (i + 1)
  holding_more l o =
      record { fill = filling_more 8192 d _ h.fill (8192 + i) (get_or t (kind_of w i) 0) l (omega arith) refl (ap (λ (x : ℕ). get_or t (x / 2 ^ 24) 0) (word l)) }

  pub holding_end : d ≤ i → ((j : ℕ) → j < d → kind_of w₀ j < 8) → {kinds : List ℕ} {m : ℕ} → ByKind kinds m t → KindsHeld kinds m d w₀ w
  holding_end l k {kinds} {m} B =
      record {
        around = filling_around 8192 d _ h.fill l;
        each = λ j p. subst (Mask (OfKind kinds m (kind_of w₀ j))) (sym (filling_each 8192 d _ h.fill l j p)) (B.each (kind_of w₀ j) (k j p));
      }

-- ---- the links of each label
module _ (labels ends : List ℕ) where
  abbrev at : ℕ → ℕ
  at e = get_or labels (get_or ends e 0) 0

  pub label_end : {t : List ℕ} {e : ℕ} (m : ℕ) → Grouped 32 at e t → e ≡ m → ByLabel labels ends m t
  label_end m B q = let g = group_end 32 at m B q in record { long = g.long; each = g.each }

  -- what the table has for those of the labels x that the links have
  pub allowed_by : (x used : ℕ) {t : List ℕ} {m r : ℕ} → ByLabel labels ends m t → ((e : ℕ) → e < m → at e < 32) → ((e : ℕ) → e < m → Has used (at e))
      → OfLabels t (bit_and x used) r → Mask (Allowed labels ends m x) r
  allowed_by x used B lt us =
      mask_cast
      (λ e o. let p = (B.each o.at o.below).why e o.holds.1 in (p.0, subst (Has x) (sym p.1) (and_say x used o.at o.holds.0).0))
      (λ e p. record { at = at e; below = lt e p.0; holds = (and_by x used (at e) p.1 (us e p.0), (B.each (at e) (lt e p.0)).hit e (p.0, refl)) })

-- the labels in use
pub label_mask : (l b : ℕ) → b ≡ 2 ^ l → Mask (λ k. l ≡ k) b
label_mask l b e = mask_cast (λ k p. p.0) (λ k q. (q, refl)) (mask_one l b {S = l ≡ l} e refl)

-- ---- label by label: those of x that are not left are taken
abbrev pub TakenOf : List ℕ → ℕ → ℕ → ℕ → Type 0
TakenOf t x left r = Mask (λ e. OneOf 32 (λ l. Has x l × (Has left l → ⊥) × Has (get_or t l 0) e)) r

pub taken_start : (t : List ℕ) (x : ℕ) → TakenOf t x x 0
taken_start t x = mask_none (λ e o. o.holds.1 o.holds.0)

pub taken_more : (t : List ℕ) (x left : ℕ) {r : ℕ} → TakenOf t x left r → ((l : ℕ) → Has left l → Has x l) → (l : ℕ) → l < 32 → Has left l → (b : ℕ) → b ≡ 2 ^ l
    → TakenOf t x (bit_xor left (bit_and left b)) (bit_or r (get_or t l 0))
taken_more t x left m part l ll h b e =
    mask_cast
    (λ k. ⊎_elim
    (λ o. record { at = o.at; below = o.below; holds = (o.holds.0, (λ i. o.holds.1 (minus_say left b o.at i).0), o.holds.2) })
    (λ i. record { at = l; below = ll; holds = (part l h, (λ j. (minus_say left b l j).1 (subst (λ (y : ℕ). Has y l) (sym e) (bit_self l))), i) }))
    (λ k o. ⊎_elim
    (λ (q : o.at ≡ l). inr (subst (λ (y : ℕ). Has (get_or t y 0) k) q o.holds.2))
    (λ (q : o.at ≡ l → ⊥).
    inl (record { at = o.at; below = o.below; holds = (o.holds.0, (λ i. o.holds.1 (minus_by left b o.at i (λ j. q (bit_one l o.at (subst (λ (y : ℕ). Has y o.at) e j))))), o.holds.2) }))
    (eq_or_ne o.at l))
    (mask_or m (mask_self (get_or t l 0)))

pub taken_end : (t : List ℕ) (x left : ℕ) {r : ℕ} → TakenOf t x left r → left ≡ 0 → OfLabels t x r
taken_end t x left m z =
    mask_cast
    (λ k o. record { at = o.at; below = o.below; holds = (o.holds.0, o.holds.2) })
    (λ k o. record { at = o.at; below = o.below; holds = (o.holds.0, (λ h. none_has o.at (subst (λ (y : ℕ). Has y o.at) z h)), o.holds.1) })
    m

-- what the batch's ranges say of the labels at the ends of its links
module _ {b : Batch} (fair : FairBatch b) (ends : List ℕ) (in_range : (e : ℕ) → e < b.edges → get_or ends e 0 < b.nodes) where
  pub ends_few : (e : ℕ) → e < b.edges → get_or ends e 0 < 64
  ends_few e l = let x = in_range e l in let y = fair.nodes in omega arith

  pub labels_few : (e : ℕ) → e < b.edges → get_or b.labels (get_or ends e 0) 0 < 32
  labels_few e l = fair.labels _ (in_range e l)

-- ---- the nodes below v have what the tables have for their labels
pub record Spreading (s : List ℕ) (n used : ℕ) (leaving arriving leave₀ arrive₀ out₀ leave arrive out : List ℕ) (v : ℕ) : Type 0 where
  pub leaves : Filling 0 n (λ j x. OfLabels leaving (bit_and (field s (27 + 32 * j) 32) used) x) leave₀ leave v
  pub arrives : Filling 0 n (λ j x. OfLabels arriving (bit_and (field s (27 + 32 * j) 32) used) x) arrive₀ arrive v
  pub outs : Filling 0 n (λ j x. x ≡ 0) out₀ out v

module _ (s : List ℕ) (n used : ℕ) (leaving arriving : List ℕ) where
  pub spreading_start : (leave arrive out : List ℕ) → Spreading s n used leaving arriving leave arrive out leave arrive out 0
  spreading_start leave arrive out = record { leaves = filling_start 0 n _ leave; arrives = filling_start 0 n _ arrive; outs = filling_start 0 n _ out }

  module _ {leave₀ arrive₀ out₀ leave arrive out : List ℕ} {v : ℕ} (h : Spreading s n used leaving arriving leave₀ arrive₀ out₀ leave arrive out v) where
    pub spreading_more : NodeRoom n leave₀ arrive₀ out₀ → v < n → {x : ℕ} → x ≡ field s (27 + 32 * v) 32 → (a b : ℕ)
        → OfLabels leaving (bit_and x used) a → OfLabels arriving (bit_and x used) b
        → Spreading s n used leaving arriving leave₀ arrive₀ out₀ (set leave v a) (set arrive v b) (set out v 0) (v + 1)
    spreading_more R l e a b A B =
        let x = R.nodes in
        let y = R.leave_long in
        let z = R.arrive_long in
        record {
          leaves = filling_more 0 n _ h.leaves v a l (omega arith) (omega arith) (subst (λ (x : ℕ). OfLabels leaving (bit_and x used) a) e A);
          arrives = filling_more 0 n _ h.arrives v b l (omega arith) (omega arith) (subst (λ (x : ℕ). OfLabels arriving (bit_and x used) b) e B);
          outs = filling_more 0 n _ h.outs v 0 l (omega arith) (omega arith) refl;
        }

    -- the tables are those of a batch
    pub spreading_end : {b : Batch} → FairBatch b → ByLabel b.labels b.from b.edges leaving → ByLabel b.labels b.to b.edges arriving
        → ((u : ℕ) → u < b.nodes → Has used (get_or b.labels u 0)) → n ≤ v → LinksSpread b s n leave₀ arrive₀ out₀ leave arrive out
    spreading_end {b} fair X Y u l =
        record {
          leaves = filling_around 0 n _ h.leaves l;
          arrives = filling_around 0 n _ h.arrives l;
          outs = filling_around 0 n _ h.outs l;
          leave_each = λ j q. allowed_by b.labels b.from _ used X (labels_few fair b.from fair.from) (λ e i. u _ (fair.from e i)) (filling_front n _ h.leaves l j q);
          arrive_each = λ j q. allowed_by b.labels b.to _ used Y (labels_few fair b.to fair.to) (λ e i. u _ (fair.to e i)) (filling_front n _ h.arrives l j q);
          clear = filling_front n _ h.outs l;
        }
