-- What sweeps and losses at nodes keep: for any items S at nodes that are safe.
use mathlib.Core.Path.{◌≡◌, refl, ap, ◌∙◌, sym, subst}
use mathlib.Core.Logic.{◌⊎◌, inl, inr, ⊎_elim}
use mathlib.Core.List.{List}
use Prim.Native.Nat.{ℕ, ◌≤◌, ◌<◌, ◌/◌, ◌%◌}
use native.Mathlib.Omega.{arith}
use lib.ListN.{get_or}
use lib.Dec.{T}
use lib.Bits.{bit_and}
use Rattle.engine.specs.Masks.{Has}
use Rattle.engine.specs.Sweeping.{from_of, to_of, held_at, held_after, Swept, Tabled, Left}
use Rattle.engine.proofs.MaskBits.{none_has, and_say, and_by, or_left, or_right, or_cases}
use Rattle.packed.specs.Contents.{word_from, word_to}
use Rattle.engine.specs.Rounds.{End, SupportsBy, Safe, Sound, Lost, Loses}

-- ---- one step after the other
module _ (from to : List ℕ) (m : ℕ) {free due back d : ℕ} {w leave arrive : List ℕ} where
  pub sound_none : Sound from to m free due back d w leave arrive w leave arrive
  sound_none =
      record {
        safe = λ S s. s;
        stays = λ S s i e l le a b h. h;
        shape = λ s. s;
        aside = λ e l a. record { leaves = λ v h. h; arrives = λ v h. h; held = λ i l p q h. h };
        leave_part = λ v e h. h;
        arrive_part = λ v e h. h;
      }

  pub sound_then : {w₁ leave₁ arrive₁ w₂ leave₂ arrive₂ : List ℕ} → ((i : ℕ) → i < d → get_or w₁ i 0 ≡ get_or w i 0)
      → Sound from to m free due back d w leave arrive w₁ leave₁ arrive₁ → Sound from to m free due back d w₁ leave₁ arrive₁ w₂ leave₂ arrive₂
      → Sound from to m free due back d w leave arrive w₂ leave₂ arrive₂
  sound_then {leave₁ = leave₁} {arrive₁ = arrive₁} same a b =
      record {
        safe = λ S s. b.safe S (a.safe S s);
        stays = λ S s i e l le p q h.
            b.stays S (a.safe S s) i e l le
            (subst (λ (x : ℕ). T (S (get_or from e 0) (x / 4096 % 4096))) (sym (same i l)) p)
            (subst (λ (x : ℕ). T (S (get_or to e 0) (x % 4096))) (sym (same i l)) q) (a.stays S s i e l le p q h);
        shape = λ s. b.shape (a.shape s);
        aside = λ e le x.
            (let p = a.aside e le x in
            let q = b.aside e le x in
            record {
              leaves = λ v h. q.leaves v (p.leaves v h);
              arrives = λ v h. q.arrives v (p.arrives v h);
              held = λ i l f t h.
                  q.held i l
                  (subst (λ (y : ℕ). Has (get_or leave₁ (y / 4096 % 4096) 0) e) (sym (same i l)) (p.leaves _ f))
                  (subst (λ (y : ℕ). Has (get_or arrive₁ (y % 4096) 0) e) (sym (same i l)) (p.arrives _ t)) (p.held i l f t h);
            });
        leave_part = λ v e h. a.leave_part v e (b.leave_part v e h);
        arrive_part = λ v e h. a.arrive_part v e (b.arrive_part v e h);
      }

-- ---- a sweep
module _ (leave arrive : List ℕ) (free : ℕ) (w : List ℕ) (i e : ℕ) where
  abbrev MayStay : Type 0
  MayStay = Has free e ⊎ (Has (get_or leave (from_of w i) 0) e × Has (get_or arrive (to_of w i) 0) e)

  kept_say : Has (held_after leave arrive free w i) e → Has (held_at w i) e × MayStay
  unfolding held_after
  kept_say h =
      let p = and_say _ _ e h in
      (p.0, ⊎_elim (λ f. inl f) (λ b. inr (and_say _ _ e b)) (or_cases _ _ e p.1))

  kept_by : Has (held_at w i) e → MayStay → Has (held_after leave arrive free w i) e
  unfolding held_after
  kept_by h a =
      let b = bit_and (get_or leave (from_of w i) 0) (get_or arrive (to_of w i) 0) in
      and_by _ _ e h (⊎_elim (λ f. or_left free b e f) (λ p. or_right free b e (and_by _ _ e p.0 p.1)) a)

module _ {free d : ℕ} {w leave arrive out w' out₁ : List ℕ} (most : d ≤ 8192) (W : Swept d leave arrive free w out w' out₁) where
  pub swept_same : (i : ℕ) → i < d → get_or w' i 0 ≡ get_or w i 0
  swept_same i l = W.around.low i (omega arith)

  pub from_same : (i : ℕ) → i < d → from_of w' i ≡ from_of w i
  from_same i l = ap (λ (x : ℕ). x / 4096 % 4096) (swept_same i l)

  pub to_same : (i : ℕ) → i < d → to_of w' i ≡ to_of w i
  to_same i l = ap (λ (x : ℕ). x % 4096) (swept_same i l)

  pub held_say : (i e : ℕ) → i < d → Has (held_at w' i) e → Has (held_at w i) e × (Has free e ⊎ (Has (get_or leave (from_of w i) 0) e × Has (get_or arrive (to_of w i) 0) e))
  held_say i e l h = kept_say leave arrive free w i e (subst (λ (x : ℕ). Has x e) (W.held i l) h)

  pub held_by : (i e : ℕ) → i < d → Has (held_at w i) e → (Has free e ⊎ (Has (get_or leave (from_of w i) 0) e × Has (get_or arrive (to_of w i) 0) e)) → Has (held_at w' i) e
  held_by i e l h a = subst (λ (x : ℕ). Has x e) (sym (W.held i l)) (kept_by leave arrive free w i e h a)

  -- what supports itself on one side still does, if the pairs between what stands stay
  swept_supports : (near far : End) (here there : List ℕ) (m : ℕ) (A : ℕ → Type 0) (R : ℕ → ℕ → Type 0) → SupportsBy near far here there m A d w R
      → ((i e : ℕ) → i < d → e < m → R (get_or here e 0) (near (get_or w i 0)) → R (get_or there e 0) (far (get_or w i 0)) → Has (held_at w i) e → Has (held_at w' i) e)
      → SupportsBy near far here there m A d w' R
  swept_supports near far here there m A R s stays u v p e le nf q =
      let o = s u v p e le nf q in
      let i = o.at in
      let f : R (get_or here e 0) (near (get_or w i 0)) = subst (λ (x : ℕ). R x (near (get_or w i 0))) (sym q) (subst (R u) (sym o.holds.0) p) in
      record {
        at = i;
        below = o.below;
        holds = (ap near (swept_same i o.below) ∙ o.holds.0, stays i e o.below le f o.holds.2 o.holds.1, subst (λ (x : ℕ). R (get_or there e 0) (far x)) (sym (swept_same i o.below)) o.holds.2);
      }

  pub swept_sound : (from to : List ℕ) (m due back : ℕ) → Sound from to m free due back d w leave arrive w' leave arrive
  swept_sound from to m due back =
      record {
        safe = λ S s. record {
          supports = swept_supports word_from word_to from to m _ (λ u v. T (S u v)) s.supports (stays (λ u v. T (S u v)) s);
          backs = swept_supports word_to word_from to from m _ (λ u v. T (S u v)) s.backs (λ i e l le a b h. stays (λ u v. T (S u v)) s i e l le b a h);
          leaves = s.leaves;
          arrives = s.arrives;
        };
        stays = λ S s. stays (λ u v. T (S u v)) s;
        shape = λ s. s;
        aside = λ e le a. record { leaves = λ v h. h; arrives = λ v h. h; held = λ i l p q h. held_by i e l h (inr (p, q)) };
        leave_part = λ v e h. h;
        arrive_part = λ v e h. h;
      }
    where
      stays : (R : ℕ → ℕ → Type 0) → Safe from to m free back d w leave arrive R → (i e : ℕ) → i < d → e < m
          → R (get_or from e 0) (from_of w i) → R (get_or to e 0) (to_of w i) → Has (held_at w i) e → Has (held_at w' i) e
      stays R s i e l le a b h = held_by i e l h (inr (s.leaves _ _ e a le refl, s.arrives _ _ e b le refl))

-- ---- losses at nodes
pub left_lost : {t : List ℕ} {miss x r : ℕ} → Left t miss x r → (a b : List ℕ) (m : ℕ) → Tabled a b m t → Lost a b m miss x r
left_lost L a b m t =
    let M = L.is a b m t in
    record { part = λ k h. (M.why k h).0; gone = λ k h. (M.why k h).1; stays = λ k l h n. M.hit k (h, n) }

pub loses_none : {near far : End} {due d : ℕ} {leaving arriving w leave arrive leave' arrive' : List ℕ} {v : ℕ} → get_or leave' v 0 ≡ get_or leave v 0 → get_or arrive' v 0 ≡ get_or arrive v 0
    → Loses near far due d leaving arriving w leave arrive leave' arrive' v
loses_none p q =
    record {
      miss = 0;
      in_due = λ e l h. absurd (none_has e h);
      unmet = λ e l h. absurd (none_has e h);
      leave_lost = λ a m t. record { part = λ k h. subst (λ (x : ℕ). Has x k) p h; gone = λ k h o. none_has o.1.at o.1.holds.0; stays = λ k l h n. subst (λ (x : ℕ). Has x k) (sym p) h };
      arrive_lost = λ a b m t. record { part = λ k h. subst (λ (x : ℕ). Has x k) q h; gone = λ k h o. none_has o.1.at o.1.holds.0; stays = λ k l h n. subst (λ (x : ℕ). Has x k) (sym q) h };
    }

-- what was lost of an item at one of its links was lost at all of them
move : (from b c : List ℕ) (m : ℕ) {miss x y x' y' : ℕ} → Lost from b m miss x x' → Lost from c m miss y y'
    → (e k : ℕ) → e < m → k < m → get_or b e 0 ≡ get_or c k 0 → (Has x e → Has y k) → Has x' e → Has y' k
move from b c m L₁ L₂ e k le lk q f h =
    L₂.stays k lk (f (L₁.part e h)) (λ o. L₁.gone e h (le, record { at = o.1.at; below = o.1.below; holds = (o.1.holds.0, o.1.holds.1 ∙ sym q) }))

module _ {near far : End} {due d : ℕ} {leaving arriving w leave arrive leave' arrive' : List ℕ} (L : (v : ℕ) → Loses near far due d leaving arriving w leave arrive leave' arrive' v)
    (here there : List ℕ) (m : ℕ) (T₁ : Tabled here here m leaving) (T₂ : Tabled here there m arriving) where
  out : (v : ℕ) → Lost here here m (L v).miss (get_or leave v 0) (get_or leave' v 0)
  out v = (L v).leave_lost here m T₁

  into : (v : ℕ) → Lost here there m (L v).miss (get_or arrive v 0) (get_or arrive' v 0)
  into v = (L v).arrive_lost here there m T₂

  is_due : (v k : ℕ) → k < m → Has (L v).miss k → Has due k
  is_due v k lk h = (L v).in_due k (let few = T₁.few in omega arith) h

  -- no link of an item that stands at a node is missed there
  module _ (R : ℕ → ℕ → Type 0) (A : ℕ → Type 0) (sup : SupportsBy near far here there m A d w R)
      (arr : (u v e : ℕ) → R u v → e < m → get_or there e 0 ≡ u → Has (get_or arrive v 0) e) (ask : (e : ℕ) → Has due e → A e) where
    not-missed : (u v k : ℕ) → R u v → k < m → get_or here k 0 ≡ u → Has (L v).miss k → ⊥
    not-missed u v k p lk q h =
        let few = T₁.few in
        let o = sup u v p k lk (ask k (is_due v k lk h)) q in
        (L v).unmet k (omega arith) h (record { at = o.at; below = o.below; holds = (o.holds.0, o.holds.1, arr _ _ k o.holds.2 lk refl) })

    keeps-near : (u v e : ℕ) → R u v → e < m → get_or here e 0 ≡ u → Has (get_or leave v 0) e → Has (get_or leave' v 0) e
    keeps-near u v e p le q h = (out v).stays e le h (λ o. not-missed u v o.1.at p o.1.below (o.1.holds.1 ∙ q) o.1.holds.0)

    keeps-far : (u v e : ℕ) → R u v → e < m → get_or there e 0 ≡ u → Has (get_or arrive v 0) e → Has (get_or arrive' v 0) e
    keeps-far u v e p le q h = (into v).stays e le h (λ o. not-missed u v o.1.at p o.1.below (o.1.holds.1 ∙ q) o.1.holds.0)

  near_near : (v e k : ℕ) → e < m → k < m → get_or here e 0 ≡ get_or here k 0 → (Has (get_or leave v 0) e → Has (get_or leave v 0) k) → Has (get_or leave' v 0) e → Has (get_or leave' v 0) k
  near_near v e k le lk q = move here here here m (out v) (out v) e k le lk q

  near_far : (v e k : ℕ) → e < m → k < m → get_or here e 0 ≡ get_or there k 0 → (Has (get_or leave v 0) e → Has (get_or arrive v 0) k) → Has (get_or leave' v 0) e → Has (get_or arrive' v 0) k
  near_far v e k le lk q = move here here there m (out v) (into v) e k le lk q

  far_near : (v e k : ℕ) → e < m → k < m → get_or there e 0 ≡ get_or here k 0 → (Has (get_or arrive v 0) e → Has (get_or leave v 0) k) → Has (get_or arrive' v 0) e → Has (get_or leave' v 0) k
  far_near v e k le lk q = move here there here m (into v) (out v) e k le lk q

  far_far : (v e k : ℕ) → e < m → k < m → get_or there e 0 ≡ get_or there k 0 → (Has (get_or arrive v 0) e → Has (get_or arrive v 0) k) → Has (get_or arrive' v 0) e → Has (get_or arrive' v 0) k
  far_far v e k le lk q = move here there there m (into v) (into v) e k le lk q

  aside_near : (e : ℕ) → e < m → ((k : ℕ) → k < m → Has due k → get_or here k 0 ≡ get_or here e 0 → ⊥) → (v : ℕ) → Has (get_or leave v 0) e → Has (get_or leave' v 0) e
  aside_near e le a v h = (out v).stays e le h (λ o. a o.1.at o.1.below (is_due v o.1.at o.1.below o.1.holds.0) o.1.holds.1)

  aside_far : (e : ℕ) → e < m → ((k : ℕ) → k < m → Has due k → get_or here k 0 ≡ get_or there e 0 → ⊥) → (v : ℕ) → Has (get_or arrive v 0) e → Has (get_or arrive' v 0) e
  aside_far e le a v h = (into v).stays e le h (λ o. a o.1.at o.1.below (is_due v o.1.at o.1.below o.1.holds.0) o.1.holds.1)

-- as links leave: whatever supports itself besides as they arrive
module _ {due d : ℕ} {leaving arriving w leave arrive leave' arrive' : List ℕ} (L : (v : ℕ) → Loses word_from word_to due d leaving arriving w leave arrive leave' arrive' v)
    (from to : List ℕ) (m free back : ℕ) (T₁ : Tabled from from m leaving) (T₂ : Tabled from to m arriving) (apart : (e : ℕ) → Has due e → Has free e → ⊥) where
  pub losing_sound : Sound from to m free due back d w leave arrive w leave' arrive'
  losing_sound =
      record {
        safe = λ S s. record {
          supports = s.supports;
          backs = s.backs;
          leaves = λ u v e p le q. keeps-near L from to m T₁ T₂ (λ u v. T (S u v)) _ s.supports (λ u v e p le q. s.arrives u v e p le q) apart u v e p le q (s.leaves u v e p le q);
          arrives = λ u v e p le q. keeps-far L from to m T₁ T₂ (λ u v. T (S u v)) _ s.supports (λ u v e p le q. s.arrives u v e p le q) apart u v e p le q (s.arrives u v e p le q);
        };
        stays = λ S s i e l le a b h. h;
        shape = λ s. record {
          out_out = λ v e k le lk q. near_near L from to m T₁ T₂ v e k le lk q (s.out_out v e k le lk q);
          out_in = λ v e k le lk q. near_far L from to m T₁ T₂ v e k le lk q (s.out_in v e k le lk q);
          in_out = λ v e k le lk q. far_near L from to m T₁ T₂ v e k le lk q (s.in_out v e k le lk q);
          in_in = λ v e k le lk q. far_far L from to m T₁ T₂ v e k le lk q (s.in_in v e k le lk q);
        };
        aside = λ e le a. record {
          leaves = aside_near L from to m T₁ T₂ e le a.start;
          arrives = aside_far L from to m T₁ T₂ e le a.end;
          held = λ i l p q h. h;
        };
        leave_part = λ v e h. (out L from to m T₁ T₂ v).part e h;
        arrive_part = λ v e h. (into L from to m T₁ T₂ v).part e h;
      }

-- as they arrive: the same, with the ends changed for each other
module _ {back d : ℕ} {ending starting w leave arrive leave' arrive' : List ℕ} (L : (v : ℕ) → Loses word_to word_from back d ending starting w arrive leave arrive' leave' v)
    (from to : List ℕ) (m free due asked : ℕ) (T₁ : Tabled to to m ending) (T₂ : Tabled to from m starting) (ask : (e : ℕ) → Has back e → Has asked e) where
  pub losing_back_sound : Sound from to m free due asked d w leave arrive w leave' arrive'
  losing_back_sound =
      record {
        safe = λ S s. record {
          supports = s.supports;
          backs = s.backs;
          leaves = λ u v e p le q. keeps-far L to from m T₁ T₂ (λ u v. T (S u v)) (Has asked) s.backs (λ u v e p le q. s.leaves u v e p le q) ask u v e p le q (s.leaves u v e p le q);
          arrives = λ u v e p le q. keeps-near L to from m T₁ T₂ (λ u v. T (S u v)) (Has asked) s.backs (λ u v e p le q. s.leaves u v e p le q) ask u v e p le q (s.arrives u v e p le q);
        };
        stays = λ S s i e l le a b h. h;
        shape = λ s. record {
          out_out = λ v e k le lk q. far_far L to from m T₁ T₂ v e k le lk q (s.out_out v e k le lk q);
          out_in = λ v e k le lk q. far_near L to from m T₁ T₂ v e k le lk q (s.out_in v e k le lk q);
          in_out = λ v e k le lk q. near_far L to from m T₁ T₂ v e k le lk q (s.in_out v e k le lk q);
          in_in = λ v e k le lk q. near_near L to from m T₁ T₂ v e k le lk q (s.in_in v e k le lk q);
        };
        aside = λ e le a. record {
          leaves = aside_far L to from m T₁ T₂ e le (λ k lk h. a.start_back k lk (ask k h));
          arrives = aside_near L to from m T₁ T₂ e le (λ k lk h. a.end_back k lk (ask k h));
          held = λ i l p q h. h;
        };
        leave_part = λ v e h. (into L to from m T₁ T₂ v).part e h;
        arrive_part = λ v e h. (out L to from m T₁ T₂ v).part e h;
      }
