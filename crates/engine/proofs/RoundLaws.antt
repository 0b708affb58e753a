-- A sweep and the settling after it: what they keep, and what holds when nothing is lost.
use mathlib.Core.Path.{◌≡◌, refl, ap, ◌∙◌, sym, subst}
use mathlib.Core.Logic.{◌⊎◌, inl, inr, ⊎_elim}
use mathlib.Core.List.{List}
use Prim.Native.Nat.{ℕ, ◌≤◌, ◌<◌, ◌/◌, ◌%◌, ◌^◌}
use native.Mathlib.Omega.{arith}
use lib.ListN.{length, get_or}
use lib.Bits.{bit_or}
use Rattle.packed.proofs.OrderCases.{lt_or_ge}
use Rattle.engine.specs.Simulation.{bit}
use Rattle.engine.specs.Masks.{Has, OneOf}
use Rattle.engine.proofs.ListLaws.{decide}
use Rattle.engine.proofs.MaskBits.{none_has, and_say, and_by, or_left, or_right, not_say, not_by, has_lt, part_le, mask_cast, lowest_has}
use Rattle.engine.proofs.SoundLaws.{sound_none, sound_then, swept_same, from_same, to_same, held_say, held_by, swept_sound, left_lost, loses_none, losing_sound, losing_back_sound}
use Rattle.packed.specs.Contents.{word_from, word_to}
use Rattle.engine.specs.Sweeping.{from_of, to_of, Ends, Starts, held_at, Swept, Arrived, missing, NodesSettled}
use Rattle.engine.specs.Rounds.{End, Loses, Falls, Rests, Prepared, Fixed, BackSettled, Round}

-- ---- one node
module _ (due : ℕ) (leave out : List ℕ) (v e : ℕ) (s : get_or out v 0 < 2 ^ 32) where
  miss_say : Has (missing due leave out v) e → Has (get_or leave v 0) e × Has due e × (Has (get_or out v 0) e → ⊥)
  unfolding missing
  miss_say h =
      let p = and_say _ _ e h in
      let q = and_say _ _ e p.0 in
      (q.0, q.1, not_say 32 (get_or out v 0) e s (has_lt 32 _ e (omega arith) p.1) p.1)

  miss_by : e < 32 → Has (get_or leave v 0) e → Has due e → (Has (get_or out v 0) e → ⊥) → Has (missing due leave out v) e
  unfolding missing
  miss_by l a b n = and_by _ _ e (and_by _ _ e a b) (not_by 32 (get_or out v 0) e s l n)

-- ---- a sweep
module _ {n free d : ℕ} {w leave arrive out w' out₁ : List ℕ} (P : Prepared n d w leave arrive out) (W : Swept d leave arrive free w out w' out₁) where
  wide : (v : ℕ) → v < n → v < length out
  wide v l = let z = P.nodes in omega arith

  out_say : (v e : ℕ) → v < n → Has (get_or out₁ v 0) e → OneOf d (λ i. (from_of w' i ≡ v) × Has (held_at w' i) e)
  out_say v e l h =
      ⊎_elim (λ (p : Has (get_or out v 0) e). absurd (none_has e (subst (λ (x : ℕ). Has x e) (P.clear v l) p)))
      (λ o. record { at = o.at; below = o.below; holds = (from_same P.ends.most W o.at o.below ∙ o.holds.0, subst (λ (x : ℕ). Has x e) (sym (W.held o.at o.below)) o.holds.1) })
      ((W.each v (wide v l)).why e h)

  out_by : (v e : ℕ) → v < n → OneOf d (λ i. (from_of w' i ≡ v) × Has (held_at w' i) e) → Has (get_or out₁ v 0) e
  out_by v e l o =
      (W.each v (wide v l)).hit e
      (inr (record { at = o.at; below = o.below; holds = (sym (from_same P.ends.most W o.at o.below) ∙ o.holds.0, subst (λ (x : ℕ). Has x e) (W.held o.at o.below) o.holds.1) }))

  pub swept_falls : Falls free d w w'
  swept_falls =
      let most = P.ends.most in
      record {
        long = W.around.long;
        low = W.around.low;
        same = swept_same most W;
        part = λ i e l h. (held_say most W i e l h).0;
        untouched = λ i e l f h. held_by most W i e l h (inl f);
      }

  pub swept_within : (i e : ℕ) → i < d → Has (held_at w' i) e → Has free e ⊎ (Has (get_or leave (from_of w' i) 0) e × Has (get_or arrive (to_of w' i) 0) e)
  swept_within i e l h =
      let most = P.ends.most in
      ⊎_elim (λ f. inl f)
      (λ b. inr (
        subst (λ (x : ℕ). Has (get_or leave x 0) e) (sym (from_same most W i l)) b.0,
        subst (λ (x : ℕ). Has (get_or arrive x 0) e) (sym (to_same most W i l)) b.1,
      ))
      (held_say most W i e l h).1

-- ---- one side settled
-- a pair whose near end is v is held for the link e
abbrev HeldBy : End → ℕ → List ℕ → ℕ → ℕ → Type 0
HeldBy near d w v e = OneOf d (λ i. (near (get_or w i 0) ≡ v) × Has (held_at w i) e)

module _ {n due : ℕ} {leaving arriving leave arrive out₁ : List ℕ} {r : ℕ} {leave' arrive' out' : List ℕ} (E : NodesSettled n due leaving arriving leave arrive out₁ r leave' arrive' out') where
  -- the masks of the nodes from n on stay
  leave_beyond : (v : ℕ) → n ≤ v → get_or leave' v 0 ≡ get_or leave v 0
  leave_beyond v l = E.leaves.high v (omega arith)

  arrive_beyond : (v : ℕ) → n ≤ v → get_or arrive' v 0 ≡ get_or arrive v 0
  arrive_beyond v l = E.arrives.high v (omega arith)

  module _ (z : r ≡ 0) where
    none : (v : ℕ) → v < n → missing due leave out₁ v ≡ 0
    none v l = let p = part_le (missing due leave out₁ v) r (λ e h. E.lost.hit e (record { at = v; below = l; holds = h })) in omega arith

    leave_same : (v : ℕ) → get_or leave' v 0 ≡ get_or leave v 0
    leave_same v = ⊎_elim (λ (l : v < n). (E.leave_left v l).stays (none v l)) (λ (l : n ≤ v). leave_beyond v l) (lt_or_ge v n)

    arrive_same : (v : ℕ) → get_or arrive' v 0 ≡ get_or arrive v 0
    arrive_same v = ⊎_elim (λ (l : v < n). (E.arrive_left v l).stays (none v l)) (λ (l : n ≤ v). arrive_beyond v l) (lt_or_ge v n)

  -- where out₁ has what is held at the near ends
  module _ (near far : End) (d : ℕ) (w : List ℕ) where
    loses : ((v e : ℕ) → v < n → HeldBy near d w v e → Has (get_or out₁ v 0) e) → (v : ℕ) → Loses near far due d leaving arriving w leave arrive leave' arrive' v
    loses by v =
        ⊎_elim
        (λ (l : v < n). record {
          miss = missing due leave out₁ v;
          in_due = λ e k h. (miss_say due leave out₁ v e (E.short v l) h).1;
          unmet = λ e k h o. (miss_say due leave out₁ v e (E.short v l) h).2 (by v e l (record { at = o.at; below = o.below; holds = (o.holds.0, o.holds.1) }));
          leave_lost = λ a m t. left_lost (E.leave_left v l) a a m t;
          arrive_lost = left_lost (E.arrive_left v l);
        })
        (λ (l : n ≤ v). loses_none (leave_beyond v l) (arrive_beyond v l))
        (lt_or_ge v n)

    -- each due link that may still be there is held
    all_held : ((v e : ℕ) → v < n → Has (get_or out₁ v 0) e → HeldBy near d w v e) → r ≡ 0 → (v e : ℕ) → v < n → Has due e → e < 32 → Has (get_or leave' v 0) e → HeldBy near d w v e
    all_held say z v e l u le h =
        ⊎_elim
        (λ (p : Has (get_or out₁ v 0) e). say v e l p)
        (λ (p : Has (get_or out₁ v 0) e → ⊥). absurd (none_has e (subst (λ (x : ℕ). Has x e) (none z v l)
        (miss_by due leave out₁ v e (E.short v l) le (subst (λ (x : ℕ). Has x e) (leave_same z v) h) u p))))
        (decide (bit (get_or out₁ v 0) e))

-- ---- a round as links leave
module _ {n free due d : ℕ} {leaving arriving w leave arrive out w' out₁ : List ℕ} {r : ℕ} {leave' arrive' out' : List ℕ} (P : Prepared n d w leave arrive out)
    (W : Swept d leave arrive free w out w' out₁) (E : NodesSettled n due leaving arriving leave arrive out₁ r leave' arrive' out') where
  forward : (v : ℕ) → Loses word_from word_to due d leaving arriving w' leave arrive leave' arrive' v
  forward = loses E word_from word_to d w' (out_by P W)

  module _ (z : r ≡ 0) where
    rests : Rests n free due 0 d w' leave' arrive'
    rests =
        record {
          within = λ i e l h. ⊎_elim (λ f. inl f)
              (λ b. inr (
                subst (λ (x : ℕ). Has x e) (sym (leave_same E z (from_of w' i))) b.0,
                subst (λ (x : ℕ). Has x e) (sym (arrive_same E z (to_of w' i))) b.1,
              ))
              (swept_within P W i e l h);
          held = all_held E word_from word_to d w' (out_say P W) z;
          arrived = λ v e l y. absurd (none_has e y);
        }

  pub round_fixed : (ending starting : List ℕ) → Fixed n free due 0 d leaving arriving ending starting w leave arrive out r w' leave' arrive' out'
  round_fixed ending starting =
      record {
        falls = swept_falls P W;
        leave_long = E.leaves.long;
        arrive_long = E.arrives.long;
        out_long = E.outs.long ∙ W.long;
        clear = E.clear;
        sound = λ from to m T₁ T₂ T₃ apart asked a. sound_then from to m (swept_same P.ends.most W) (swept_sound P.ends.most W from to m due asked) (losing_sound forward from to m free asked T₁ T₂ apart);
        rests = rests;
      }

  pub round_once : due < 2 ^ 32 → Round n due d leaving w leave arrive r w' leave'
  round_once f =
      record {
        spares = λ i e l a b h. held_by P.ends.most W i e l h (inr (a, b));
        offers = λ from m t v e l le y h. ⊎_elim
            (λ (p : Has (get_or out₁ v 0) e). out_say P W v e l p)
            (λ (p : Has (get_or out₁ v 0) e → ⊥).
            let z = left_lost (E.leave_left v l) from from m t in
            let x = miss_by due leave out₁ v e (E.short v l) (has_lt 32 due e f y) (z.part e h) y p in
            absurd (z.gone e h (le, record { at = e; below = le; holds = (x, refl) })))
            (decide (bit (get_or out₁ v 0) e));
        lost = mask_cast
            (λ e o. (let y = miss_say due leave out₁ o.at e (E.short o.at o.below) o.holds in
            record { at = o.at; below = o.below; holds = (y.0, y.1, λ p. y.2 (out_by P W o.at e o.below p)) }))
            (λ e o. record {
              at = o.at;
              below = o.below;
              holds = miss_by due leave out₁ o.at e (E.short o.at o.below) (has_lt 32 due e f o.holds.1) o.holds.0 o.holds.1
                  (λ p. o.holds.2 (out_say P W o.at e o.below p));
            })
            E.lost;
      }

-- ---- and as they arrive
module _ {n back d : ℕ} {ending starting w leave arrive out out₁ : List ℕ} {r : ℕ} {leave' arrive' out' : List ℕ} (P : Prepared n d w leave arrive out)
    (A : Arrived d w out out₁) (E : NodesSettled n back ending starting arrive leave out₁ r arrive' leave' out') where
  in_say : (v e : ℕ) → v < n → Has (get_or out₁ v 0) e → OneOf d (λ i. (to_of w i ≡ v) × Has (held_at w i) e)
  in_say v e l h =
      ⊎_elim (λ (p : Has (get_or out v 0) e). absurd (none_has e (subst (λ (x : ℕ). Has x e) (P.clear v l) p))) (λ o. o) ((A.each v (let z = P.nodes in omega arith)).why e h)

  in_by : (v e : ℕ) → v < n → OneOf d (λ i. (to_of w i ≡ v) × Has (held_at w i) e) → Has (get_or out₁ v 0) e
  in_by v e l o = (A.each v (let z = P.nodes in omega arith)).hit e (inr o)

  backward : (v : ℕ) → Loses word_to word_from back d ending starting w arrive leave arrive' leave' v
  backward = loses E word_to word_from d w in_by

  pub back_settled : BackSettled n back d ending starting w leave arrive out r leave' arrive' out'
  back_settled =
      record {
        leave_long = E.arrives.long;
        arrive_long = E.leaves.long;
        out_long = E.outs.long ∙ A.long;
        clear = E.clear;
        sound = λ from to m T₁ T₂ free due asked a. losing_back_sound backward from to m free due asked T₁ T₂ a;
        rests = λ z free due R. record {
          within = λ i e l h. ⊎_elim (λ f. inl f)
              (λ b. inr (
                subst (λ (x : ℕ). Has x e) (sym (arrive_same E z (from_of w i))) b.0,
                subst (λ (x : ℕ). Has x e) (sym (leave_same E z (to_of w i))) b.1,
              ))
              (R.within i e l h);
          held = λ v e l u le h. R.held v e l u le (subst (λ (x : ℕ). Has x e) (arrive_same E z v) h);
          arrived = all_held E word_to word_from d w in_say z;
        };
      }

-- both, where some links are asked as they arrive
module _ {n free due back d : ℕ} {leaving arriving ending starting w leave arrive out : List ℕ} {r : ℕ} {w₁ leave₁ arrive₁ out₁ : List ℕ}
    (A : Fixed n free due 0 d leaving arriving ending starting w leave arrive out r w₁ leave₁ arrive₁ out₁) where
  pub both_fixed : {r₂ : ℕ} {leave₂ arrive₂ out₂ : List ℕ} → BackSettled n back d ending starting w₁ leave₁ arrive₁ out₁ r₂ leave₂ arrive₂ out₂ → back < 2 ^ 32 → (back ≡ 0 → ⊥)
      → Fixed n free due back d leaving arriving ending starting w leave arrive out (bit_or r r₂) w₁ leave₂ arrive₂ out₂
  both_fixed {r₂ = r₂} B short some =
      let e = lowest_has 32 back (omega (arith, some)) short in
      record {
        falls = A.falls;
        leave_long = B.leave_long ∙ A.leave_long;
        arrive_long = B.arrive_long ∙ A.arrive_long;
        out_long = B.out_long ∙ A.out_long;
        clear = B.clear;
        sound = λ from to m T₁ T₂ T₃ apart asked a.
            sound_then from to m A.falls.same (A.sound from to m T₁ T₂ (λ k h. absurd (none_has k h)) apart asked (λ k h. absurd (none_has k h)))
            (B.sound from to m (T₃ _ e.1).0 (T₃ _ e.1).1 free due asked a);
        rests = λ z. B.rests (let p = part_le r₂ (bit_or r r₂) (λ k h. or_right r r₂ k h) in omega arith) free due (A.rests (let p = part_le r (bit_or r r₂) (λ k h. or_left r r₂ k h) in omega arith));
      }

  pub forward_fixed : back ≡ 0 → Fixed n free due back d leaving arriving ending starting w leave arrive out r w₁ leave₁ arrive₁ out₁
  forward_fixed z = subst (λ (x : ℕ). Fixed n free due x d leaving arriving ending starting w leave arrive out r w₁ leave₁ arrive₁ out₁) (sym z) A

-- ---- rounds one after the other
pub prepared_starts : {n d : ℕ} {w leave arrive out : List ℕ} → Prepared n d w leave arrive out → Starts d w out
prepared_starts P = record { order = P.order; clear = λ i l. P.clear _ (P.ends.from i l) }

pub prepared_ends : {n d : ℕ} {w leave arrive out : List ℕ} → Prepared n d w leave arrive out → Ends (length out) d w
prepared_ends P =
    record {
      most = P.ends.most;
      long = P.ends.long;
      from = λ i l. (let a = P.ends.from i l in let b = P.nodes in omega arith);
      to = λ i l. (let a = P.ends.to i l in let b = P.nodes in omega arith);
    }

pub fixed_none : {n free due back d : ℕ} {leaving arriving ending starting w leave arrive out : List ℕ} (r : ℕ) → (r ≡ 0 → ⊥) → Prepared n d w leave arrive out
    → Fixed n free due back d leaving arriving ending starting w leave arrive out r w leave arrive out
fixed_none r nz P =
    record {
      falls = record { long = refl; low = λ k l. refl; same = λ i l. refl; part = λ i e l h. h; untouched = λ i e l f h. h };
      leave_long = refl;
      arrive_long = refl;
      out_long = refl;
      clear = P.clear;
      sound = λ from to m T₁ T₂ T₃ apart asked a. sound_none from to m;
      rests = λ z. absurd (nz z);
    }

module _ {n free due back d : ℕ} {leaving arriving ending starting w leave arrive out : List ℕ} {r : ℕ} {w₁ leave₁ arrive₁ out₁ : List ℕ}
    (A : Fixed n free due back d leaving arriving ending starting w leave arrive out r w₁ leave₁ arrive₁ out₁) where
  pub fixed_prepared : Prepared n d w leave arrive out → Prepared n d w₁ leave₁ arrive₁ out₁
  fixed_prepared P =
      record {
        ends =
            record {
              most = P.ends.most;
              long = A.falls.long ∙ P.ends.long;
              from = λ i l. (let z = P.ends.from i l in let y = ap (λ (x : ℕ). x / 4096 % 4096) (A.falls.same i l) in omega arith);
              to = λ i l. (let z = P.ends.to i l in let y = ap (λ (x : ℕ). x % 4096) (A.falls.same i l) in omega arith);
            };
        order = λ i j p q.
            (let a = P.order i j p q in
            let b = ap (λ (x : ℕ). x / 4096 % 4096) (A.falls.same i (omega arith)) in
            let c = ap (λ (x : ℕ). x / 4096 % 4096) (A.falls.same j q) in
            omega arith);
        nodes = (let z = P.nodes in let y = A.out_long in omega arith);
        leave_long = A.leave_long ∙ P.leave_long ∙ sym A.out_long;
        arrive_long = A.arrive_long ∙ P.arrive_long ∙ sym A.out_long;
        clear = A.clear;
      }

  pub fixed_then : {r₂ : ℕ} {w₂ leave₂ arrive₂ out₂ : List ℕ} → Fixed n free due back d leaving arriving ending starting w₁ leave₁ arrive₁ out₁ r₂ w₂ leave₂ arrive₂ out₂
      → Fixed n free due back d leaving arriving ending starting w leave arrive out r₂ w₂ leave₂ arrive₂ out₂
  fixed_then B =
      record {
        falls =
            record {
              long = B.falls.long ∙ A.falls.long;
              low = λ k l. B.falls.low k l ∙ A.falls.low k l;
              same = λ i l. B.falls.same i l ∙ A.falls.same i l;
              part = λ i e l h. A.falls.part i e l (B.falls.part i e l h);
              untouched = λ i e l f h. B.falls.untouched i e l f (A.falls.untouched i e l f h);
            };
        leave_long = B.leave_long ∙ A.leave_long;
        arrive_long = B.arrive_long ∙ A.arrive_long;
        out_long = B.out_long ∙ A.out_long;
        clear = B.clear;
        sound = λ from to m T₁ T₂ T₃ apart asked a. sound_then from to m A.falls.same (A.sound from to m T₁ T₂ T₃ apart asked a) (B.sound from to m T₁ T₂ T₃ apart asked a);
        rests = B.rests;
      }

  -- the answer may be told otherwise, where it is 0 at the same time
  pub fixed_told : (r₂ : ℕ) → (r₂ ≡ 0 → r ≡ 0) → Fixed n free due back d leaving arriving ending starting w leave arrive out r₂ w₁ leave₁ arrive₁ out₁
  fixed_told r₂ f =
      record {
        falls = A.falls;
        leave_long = A.leave_long;
        arrive_long = A.arrive_long;
        out_long = A.out_long;
        clear = A.clear;
        sound = A.sound;
        rests = λ z. A.rests (f z);
      }

-- where no link is asked as it arrives, any tables will do
pub fixed_tables : {n free due d : ℕ} {leaving arriving ending starting w leave arrive out : List ℕ} {r : ℕ} {w₁ leave₁ arrive₁ out₁ : List ℕ}
    → Fixed n free due 0 d leaving arriving ending starting w leave arrive out r w₁ leave₁ arrive₁ out₁ → (a b : List ℕ)
    → Fixed n free due 0 d leaving arriving a b w leave arrive out r w₁ leave₁ arrive₁ out₁
fixed_tables A a b =
    record {
      falls = A.falls;
      leave_long = A.leave_long;
      arrive_long = A.arrive_long;
      out_long = A.out_long;
      clear = A.clear;
      sound = λ from to m T₁ T₂ T₃ apart asked h. A.sound from to m T₁ T₂ (λ e y. absurd (none_has e y)) apart asked h;
      rests = A.rests;
    }
