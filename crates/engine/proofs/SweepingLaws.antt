-- The loop that sweeps over the pairs.
use mathlib.Core.Path.{◌≡◌, refl, ap, ◌∙◌, sym, subst}
use mathlib.Core.Logic.{◌⊎◌, inl, inr, ⊎_elim}
use mathlib.Core.List.{List}
use Prim.Native.Nat.{ℕ, ◌≤◌, ◌<◌, ◌+◌, ◌/◌, ◌%◌, zero-le}
use native.Mathlib.Omega.{arith}
use lib.ListN.{length, get_or, set, length-set}
use lib.Seq.{get_or-set_same, get_or-set_other}
use lib.Bits.{bit_or}
use Rattle.packed.proofs.OrderCases.{eq_or_ne}
use Rattle.engine.specs.Masks.{Has, Mask, OneOf}
use Rattle.engine.proofs.MaskBits.{mask_cast, mask_or, mask_self, one_none, one_last, one_more, one_cases}
use Rattle.engine.proofs.Filling.{Filling, filling_start, filling_more, filling_around, filling_each}
use Rattle.engine.specs.Sweeping.{from_of, to_of, Ends, Starts, Carried, held_at, held_after, Swept, Arrived}

-- the first i pairs have been swept
pub record Sweeping (d : ℕ) (leave arrive : List ℕ) (free : ℕ) (w₀ out₀ w out : List ℕ) (i : ℕ) : Type 0 where
  pub fill : Filling 8192 d (λ j x. x ≡ held_after leave arrive free w₀ j) w₀ w i
  pub long : length out ≡ length out₀
  pub each : (v : ℕ) → v < length out₀ → Mask (λ k. Has (get_or out₀ v 0) k ⊎ OneOf i (λ j. (from_of w₀ j ≡ v) × Has (held_after leave arrive free w₀ j) k)) (get_or out v 0)

module _ (d : ℕ) (leave arrive : List ℕ) (free : ℕ) where
  pub sweeping_start : (w out : List ℕ) → Sweeping d leave arrive free w out w out 0
  sweeping_start w out =
      record {
        fill = filling_start 8192 d _ w;
        long = refl;
        each = λ v l. mask_cast (λ k h. inl h) (λ k. ⊎_elim (λ h. h) (λ o. absurd (one_none o))) (mask_self (get_or out v 0));
      }

  module _ (w₀ out₀ w out : List ℕ) (i : ℕ) (s : Ends (length out₀) d w₀) (h : Sweeping d leave arrive free w₀ out₀ w out i) (l : i < d) where
    code : get_or w i 0 ≡ get_or w₀ i 0
    code = h.fill.low i (let z = s.most in omega arith)

    pub sweeping_from : from_of w i < length out₀
    sweeping_from = let a = s.from i l in let e = ap (λ (x : ℕ). x / 4096 % 4096) code in omega arith

    pub sweeping_to : to_of w i < length out₀
    sweeping_to = let a = s.to i l in let e = ap (λ (x : ℕ). x % 4096) code in omega arith

    pub sweeping_word : held_after leave arrive free w i ≡ held_after leave arrive free w₀ i
    unfolding held_after
    sweeping_word =
        let e : held_at w i ≡ held_at w₀ i = h.fill.later (8192 + i) (omega arith) in
        rw (e, code)

    pub sweeping_more : Sweeping d leave arrive free w₀ out₀ (set w (8192 + i) (held_after leave arrive free w i))
        (set out (from_of w i) (bit_or (get_or out (from_of w i) 0) (held_after leave arrive free w i))) (i + 1)
    sweeping_more =
        let f = from_of w i in
        let x = held_after leave arrive free w i in
        let x₀ = held_after leave arrive free w₀ i in
        let ex : x ≡ x₀ = sweeping_word in
        let ef : f ≡ from_of w₀ i = ap (λ (y : ℕ). y / 4096 % 4096) code in
        let fin : f < length out = let a = sweeping_from in let b = h.long in omega arith in
        record {
          fill = filling_more 8192 d _ h.fill (8192 + i) x l (let a = s.most in let b = s.long in omega arith) refl ex;
          long = length-set out f (bit_or (get_or out f 0) x) ∙ h.long;
          each = λ v b. ⊎_elim
              (λ (z : v ≡ f).
              subst (Mask _) (sym (ap (λ (y : ℕ). get_or (set out f (bit_or (get_or out f 0) x)) y 0) z ∙ get_or-set_same out f (bit_or (get_or out f 0) x) 0 fin))
              (mask_cast {A = λ k. (Has (get_or out₀ v 0) k ⊎ OneOf i (λ j. (from_of w₀ j ≡ v) × Has (held_after leave arrive free w₀ j) k)) ⊎ Has x k}
              (λ k. ⊎_elim (⊎_elim (λ p. inl p) (λ o. inr (one_more i o))) (λ p. inr (one_last i (sym ef ∙ sym z, subst (λ (y : ℕ). Has y k) ex p))))
              (λ k. ⊎_elim (λ p. inl (inl p)) (λ o. ⊎_elim (λ q. inl (inr q)) (λ q. inr (subst (λ (y : ℕ). Has y k) (sym ex) q.1)) (one_cases i o)))
              (mask_or (subst (λ (y : ℕ). Mask (λ k. Has (get_or out₀ v 0) k ⊎ OneOf i (λ j. (from_of w₀ j ≡ v) × Has (held_after leave arrive free w₀ j) k)) (get_or out y 0)) z (h.each v b)) (mask_self x))))
              (λ (z : v ≡ f → ⊥).
              subst (Mask _) (sym (get_or-set_other out f v (bit_or (get_or out f 0) x) 0 z))
              (mask_cast {A = λ k. Has (get_or out₀ v 0) k ⊎ OneOf i (λ j. (from_of w₀ j ≡ v) × Has (held_after leave arrive free w₀ j) k)}
              (λ k. ⊎_elim (λ p. inl p) (λ o. inr (one_more i o)))
              (λ k. ⊎_elim (λ p. inl p) (λ o. ⊎_elim (λ q. inr q) (λ q. absurd (z (sym q.0 ∙ sym ef))) (one_cases i o)))
              (h.each v b)))
              (eq_or_ne v f);
        }

  pub sweeping_end : {w₀ out₀ w out : List ℕ} {i : ℕ} → Sweeping d leave arrive free w₀ out₀ w out i → d ≤ i → Swept d leave arrive free w₀ out₀ w out
  sweeping_end {w₀} {out₀} {w} {out} {i} h l =
      let e : i ≡ d = let z = h.fill.upto in omega arith in
      record {
        around = filling_around 8192 d _ h.fill l;
        held = filling_each 8192 d _ h.fill l;
        long = h.long;
        each = λ v b. subst (λ (n : ℕ). Mask (λ k. Has (get_or out₀ v 0) k ⊎ OneOf n (λ j. (from_of w₀ j ≡ v) × Has (held_after leave arrive free w₀ j) k)) (get_or out v 0)) e (h.each v b);
      }

-- ---- what is held at the node of the last pair is carried on
pub record Running (d : ℕ) (leave arrive : List ℕ) (free : ℕ) (w₀ out₀ w out : List ℕ) (i last run : ℕ) : Type 0 where
  pub sweeping : Sweeping d leave arrive free w₀ out₀ w out i
  pub ahead : (j : ℕ) → i ≤ j → j < d → last ≤ from_of w₀ j
  pub next : (j : ℕ) → i ≤ j → j < d → Carried (from_of w₀ j) last run (get_or out (from_of w₀ j) 0)

module _ (d : ℕ) (leave arrive : List ℕ) (free : ℕ) where
  pub running_start : (w out : List ℕ) → Starts d w out → Running d leave arrive free w out w out 0 0 0
  running_start w out s =
      record {
        sweeping = sweeping_start d leave arrive free w out;
        ahead = λ j a b. zero-le;
        next = λ j a b. record { same = λ e. s.clear j b; other = λ e. s.clear j b };
      }

  module _ (w₀ out₀ w out : List ℕ) (i last run : ℕ) (s : Ends (length out₀) d w₀) (o : Starts d w₀ out₀) (h : Running d leave arrive free w₀ out₀ w out i last run) (l : i < d)
      (c : ℕ) (C : Carried (from_of w i) last run c) where
    from_same : from_of w i ≡ from_of w₀ i
    from_same = ap (λ (y : ℕ). y / 4096 % 4096) (h.sweeping.fill.low i (let z = s.most in omega arith))

    word_same : c ≡ get_or out (from_of w i) 0
    word_same =
        let n = h.next i (omega arith) l in
        ⊎_elim
        (λ (z : from_of w i ≡ last). C.same z ∙ sym (n.same (sym from_same ∙ z)) ∙ ap (λ (y : ℕ). get_or out y 0) (sym from_same))
        (λ (z : from_of w i ≡ last → ⊥). C.other z ∙ sym (n.other (λ e. z (from_same ∙ e))) ∙ ap (λ (y : ℕ). get_or out y 0) (sym from_same))
        (eq_or_ne (from_of w i) last)

    pub running_more : Running d leave arrive free w₀ out₀ (set w (8192 + i) (held_after leave arrive free w i))
        (set out (from_of w i) (bit_or c (held_after leave arrive free w i))) (i + 1) (from_of w i) (bit_or c (held_after leave arrive free w i))
    running_more =
        let f = from_of w i in
        let x = held_after leave arrive free w i in
        let e = from_same in
        let fin : f < length out = let a = sweeping_from d leave arrive free w₀ out₀ w out i s h.sweeping l in let b = h.sweeping.long in omega arith in
        record {
          sweeping =
              subst (λ (y : ℕ). Sweeping d leave arrive free w₀ out₀ (set w (8192 + i) x) (set out f (bit_or y x)) (i + 1)) (sym word_same)
              (sweeping_more d leave arrive free w₀ out₀ w out i s h.sweeping l);
          ahead = λ j a b. (let z = o.order i j (omega arith) b in omega arith);
          next = λ j a b.
              record {
                same = λ z. ap (λ (y : ℕ). get_or (set out f (bit_or c x)) y 0) z ∙ get_or-set_same out f (bit_or c x) 0 fin;
                other = λ z. get_or-set_other out f (from_of w₀ j) (bit_or c x) 0 z ∙ (h.next j (omega arith) b).other (λ y. z
                    (let p = h.ahead i (omega arith) l in let q = o.order i j (omega arith) b in omega arith));
              };
        }

-- ---- what arrives: the pairs up to i have been taken
pub arrived_start : (w out : List ℕ) → Arrived 0 w out out
arrived_start w out = record { long = refl; each = λ v l. mask_cast (λ k h. inl h) (λ k. ⊎_elim (λ h. h) (λ o. absurd (one_none o))) (mask_self (get_or out v 0)) }

pub arrived_more : (w out₀ out : List ℕ) (i : ℕ) → Arrived i w out₀ out → to_of w i < length out₀ → Arrived (i + 1) w out₀ (set out (to_of w i) (bit_or (get_or out (to_of w i) 0) (held_at w i)))
arrived_more w out₀ out i h l =
    let t = to_of w i in
    let x = held_at w i in
    let fin : t < length out = let b = h.long in omega arith in
    record {
      long = length-set out t (bit_or (get_or out t 0) x) ∙ h.long;
      each = λ v b. ⊎_elim
          (λ (z : v ≡ t).
          subst (Mask _) (sym (ap (λ (y : ℕ). get_or (set out t (bit_or (get_or out t 0) x)) y 0) z ∙ get_or-set_same out t (bit_or (get_or out t 0) x) 0 fin))
          (mask_cast {A = λ k. (Has (get_or out₀ v 0) k ⊎ OneOf i (λ j. (to_of w j ≡ v) × Has (held_at w j) k)) ⊎ Has x k}
          (λ k. ⊎_elim (⊎_elim (λ p. inl p) (λ o. inr (one_more i o))) (λ p. inr (one_last i (sym z, p))))
          (λ k. ⊎_elim (λ p. inl (inl p)) (λ o. ⊎_elim (λ q. inl (inr q)) (λ q. inr q.1) (one_cases i o)))
          (mask_or (subst (λ (y : ℕ). Mask (λ k. Has (get_or out₀ v 0) k ⊎ OneOf i (λ j. (to_of w j ≡ v) × Has (held_at w j) k)) (get_or out y 0)) z (h.each v b)) (mask_self x))))
          (λ (z : v ≡ t → ⊥).
          subst (Mask _) (sym (get_or-set_other out t v (bit_or (get_or out t 0) x) 0 z))
          (mask_cast {A = λ k. Has (get_or out₀ v 0) k ⊎ OneOf i (λ j. (to_of w j ≡ v) × Has (held_at w j) k)}
          (λ k. ⊎_elim (λ p. inl p) (λ o. inr (one_more i o)))
          (λ k. ⊎_elim (λ p. inl p) (λ o. ⊎_elim (λ q. inr q) (λ q. absurd (z (sym q.0))) (one_cases i o)))
          (h.each v b)))
          (eq_or_ne v t);
    }

pub arrived_end : {d i : ℕ} {w out₀ out : List ℕ} → Arrived i w out₀ out → i ≤ d → d ≤ i → Arrived d w out₀ out
arrived_end {d} {i} {w} {out₀} {out} h a b = subst (λ (n : ℕ). Arrived n w out₀ out) (let e : i ≡ d = omega arith in e) h
