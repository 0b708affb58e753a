-- What a node loses when it is looked at, and that at the end every node is fine.
use mathlib.Core.Path.{◌≡◌, refl, ap, ◌∙◌, sym, subst, subst₂}
use mathlib.Core.Logic.{inl, inr, ⊎_elim}
use mathlib.Core.List.{List, ◌++◌}
use Prim.Native.Nat.{ℕ, ◌≤◌, ◌<◌, ◌+◌, ◌*◌, ◌^◌}
use native.Mathlib.Nat.{eq-or-lt_of_le}
use native.Mathlib.Omega.{arith}
use lib.ListN.{length, get_or, set, drop, replicate, length-append, length-drop, length-set, length-replicate, get_or-append}
use lib.Seq.{get_or-set_same, get_or-set_other}
use lib.Bits.{bit_and, bit_or, bit_xor}
use Rattle.packed.proofs.OrderCases.{eq_or_ne}
use Rattle.packed.proofs.ByValueLaws.{nothing_at}
use Rattle.engine.specs.Masks.{Has, OneOf}
use Rattle.engine.specs.Sweeping.{sum_to, held_at, Swept, LookedUp}
use Rattle.engine.proofs.MaskBits.{none_has, or_left, or_right, or_cases, and_say, and_by, minus_say, minus_by, part_le, lowest_has}
use Rattle.packed.specs.Contents.{word_from, word_to}
use Rattle.engine.specs.Rounds.{End, Sound, Loses, Prepared, Fixed}
use Rattle.engine.specs.MarkedSet.{IsSet, IsMarked, TakenOut, AllMarked, MarkedBy}
use Rattle.engine.specs.Sides.{Placed}
use Rattle.engine.specs.Worklist.{FineBy, Rest, Keeps, Half, Turned, Late}
use Rattle.engine.proofs.SoundLaws.{sound_none, sound_then, from_same, to_same, held_by, swept_sound, loses_none, losing_sound, losing_back_sound}
use Rattle.engine.proofs.RoundLaws.{swept_falls, swept_within}
use Rattle.engine.proofs.IndexLaws.{Looked}
use Rattle.engine.proofs.SetLaws.{cast, sum_set, sum_bound}

-- ---- one word of a list loses the members of b
module _ (l : List ℕ) (v b : ℕ) (in-l : v < length l) (x e : ℕ) where
  less_say : Has (get_or (set l v (bit_xor (get_or l v 0) (bit_and (get_or l v 0) b))) x 0) e → Has (get_or l x 0) e × (x ≡ v → Has b e → ⊥)
  less_say h =
      let y = bit_xor (get_or l v 0) (bit_and (get_or l v 0) b) in
      ⊎_elim
      (λ (q : x ≡ v).
      let i = minus_say (get_or l v 0) b e (cast e (ap (λ (k : ℕ). get_or (set l v y) k 0) q ∙ get_or-set_same l v y 0 in-l) h) in
      (cast e (sym (ap (λ (k : ℕ). get_or l k 0) q)) i.0, λ z. i.1))
      (λ (q : x ≡ v → ⊥). (cast e (get_or-set_other l v x y 0 q) h, λ z. absurd (q z)))
      (eq_or_ne x v)

  less_by : Has (get_or l x 0) e → (x ≡ v → Has b e → ⊥) → Has (get_or (set l v (bit_xor (get_or l v 0) (bit_and (get_or l v 0) b))) x 0) e
  less_by h n =
      let y = bit_xor (get_or l v 0) (bit_and (get_or l v 0) b) in
      ⊎_elim
      (λ (q : x ≡ v).
      cast e (sym (ap (λ (k : ℕ). get_or (set l v y) k 0) q ∙ get_or-set_same l v y 0 in-l)) (minus_by (get_or l v 0) b e (cast e (ap (λ (k : ℕ). get_or l k 0) q) h) (n q)))
      (λ (q : x ≡ v → ⊥). cast e (sym (get_or-set_other l v x y 0 q)) h)
      (eq_or_ne x v)

-- ---- one side of a node is looked at
-- miss has the due links at v that no pair offers whose near end it is
pub record Missed (near far : End) (due d : ℕ) (w masks others : List ℕ) (v miss : ℕ) : Type 0 where
  pub part : (e : ℕ) → Has miss e → Has (get_or masks v 0) e × Has due e
  pub missing : (e : ℕ) → Has miss e → OneOf d (λ i. (near (get_or w i 0) ≡ v) × Has (held_at w i) e × Has (get_or others (far (get_or w i 0)) 0) e) → ⊥
  pub found : (e : ℕ) → Has (get_or masks v 0) e → Has due e → (Has miss e → ⊥)
      → OneOf d (λ i. (near (get_or w i 0) ≡ v) × Has (held_at w i) e × Has (get_or others (far (get_or w i 0)) 0) e)

-- by an index of the pairs by their near ends
pub missed_side : (near far : End) {d due : ℕ} {w masks others : List ℕ} {start num : ℕ → ℕ} {v miss : ℕ} → Placed near d w start num v
    → Looked far num w (start v) (start (v + 1)) others (bit_and (get_or masks v 0) due) miss → Missed near far due d w masks others v miss
missed_side near far {due = due} {w = w} {masks = masks} {others = others} {num = num} {v = v} P L =
    record {
      part = λ e h. and_say (get_or masks v 0) due e (L.part e h);
      missing = λ e h o.
          (let r = P.at o.at o.below o.holds.0 in
          L.missing e h (record {
            at = r.at;
            below = r.below;
            holds = (
              r.holds.0,
              subst (λ (i : ℕ). Has (held_at w i) e) (sym r.holds.1) o.holds.1,
              subst (λ (i : ℕ). Has (get_or others (far (get_or w i 0)) 0) e) (sym r.holds.1) o.holds.2,
            );
          }));
      found = λ e h k n.
          (let o = L.found e (and_by _ _ e h k) n in
          let r = P.of o.at o.holds.0 o.below in
          record { at = num o.at; below = r.0; holds = (r.1, o.holds.1, o.holds.2) });
    }

module _ (near far : End) (due asked : ℕ) (here there masks others s : List ℕ) {n d : ℕ} {w : List ℕ} {v miss : ℕ} (l : v < n) (M : Missed near far due d w masks others v miss) where
  pub half_none : miss ≡ 0 → Half near far n due asked d v here there w masks others s masks others s
  half_none z =
      record {
        long = refl;
        others_long = refl;
        set_long = refl;
        is_set = λ I. I;
        loses = λ x. loses_none refl refl;
        which = inl (refl, refl);
        falls = inl (refl, refl, refl);
        keeps = λ x h. h;
        why = λ x k h. inl h;
        here_fine = λ x k u f. ⊎_elim
            (λ (y : x ≡ v). subst (FineBy near far due d w masks others) (sym y) (λ e p q. M.found e p q (λ i. none_has e (cast e z i))))
            (λ (y : x ≡ v → ⊥). f y) (eq_or_ne x v);
        there_fine = λ x k u f. f;
      }

  module _ {away gone : ℕ} (O : LookedUp here miss away) (G : LookedUp there miss gone) (room : n ≤ length masks) (others-room : n ≤ length others) where
    abbrev lost : ℕ
    lost = bit_or miss away

    abbrev masks' : List ℕ
    masks' = set masks v (bit_xor (get_or masks v 0) (bit_and (get_or masks v 0) lost))

    abbrev others' : List ℕ
    others' = set others v (bit_xor (get_or others v 0) (bit_and (get_or others v 0) gone))

    in-masks : v < length masks
    in-masks = omega arith

    in-others : v < length others
    in-others = omega arith

    -- the masks fall
    fell : (miss ≡ 0 → ⊥) → sum_to n masks' + sum_to n others' < sum_to n masks + sum_to n others
    fell z =
        let old = get_or masks v 0 in
        let y = bit_xor old (bit_and old lost) in
        let u = sum_set n masks v y l in-masks in
        let le = part_le y old (λ e p. (minus_say old lost e p).0) in
        let old₂ = get_or others v 0 in
        let y₂ = bit_xor old₂ (bit_and old₂ gone) in
        let u₂ = sum_set n others v y₂ l in-others in
        let le₂ = part_le y₂ old₂ (λ e p. (minus_say old₂ gone e p).0) in
        ⊎_elim
        (λ (e : y ≡ old). absurd (z (let q : miss ≤ 0 = part_le miss 0 (λ k h. absurd ((minus_say old lost k (cast k (sym e) (M.part k h).0)).1 (or_left miss away k h))) in omega arith)))
        (λ (q : y < old). omega arith)
        (eq-or-lt_of_le le)

    loses-here : Loses near far due d here there w masks others masks' others' v
    loses-here =
        record {
          miss = miss;
          in_due = λ e k h. (M.part e h).1;
          unmet = λ e k h o. M.missing e h o;
          leave_lost = λ a m T. record {
            part = λ k h. (less_say masks v lost in-masks v k h).0;
            gone = λ k h o. (less_say masks v lost in-masks v k h).1 refl (or_right miss away k ((O.is a a m T).hit k o));
            stays = λ k lk h u. less_by masks v lost in-masks v k h (λ q i. ⊎_elim (λ j. u (lk, record { at = k; below = lk; holds = (j, refl) })) (λ j. u ((O.is a a m T).why k j)) (or_cases miss away k i));
          };
          arrive_lost = λ a b m T. record {
            part = λ k h. (less_say others v gone in-others v k h).0;
            gone = λ k h o. (less_say others v gone in-others v k h).1 refl ((G.is a b m T).hit k o);
            stays = λ k lk h u. less_by others v gone in-others v k h (λ q i. u ((G.is a b m T).why k i));
          };
        }

    loses : (x : ℕ) → Loses near far due d here there w masks others masks' others' x
    loses x =
        ⊎_elim (λ (q : x ≡ v). subst (Loses near far due d here there w masks others masks' others') (sym q) loses-here)
        (λ (q : x ≡ v → ⊥). loses_none (get_or-set_other masks v x _ 0 q) (get_or-set_other others v x _ 0 q))
        (eq_or_ne x v)

    module _ (bound : (i : ℕ) → i < d → near (get_or w i 0) < n) (far-bound : (i : ℕ) → i < d → far (get_or w i 0) < n) (z : miss ≡ 0 → ⊥) (short : miss < 2 ^ 32) {s₁ s' : List ℕ}
        (M₁ : MarkedBy near far d w v gone masks' s s₁) (M₂ : MarkedBy far near d w v (bit_and lost asked) others' s₁ s') where
      here_fine : (x : ℕ) → x < n → (IsMarked s' x → ⊥) → ((x ≡ v → ⊥) → FineBy near far due d w masks others x) → FineBy near far due d w masks' others' x
      here_fine x k u f e p y =
          let i = less_say masks v lost in-masks x e p in
          let o : OneOf d (λ i. (near (get_or w i 0) ≡ x) × Has (held_at w i) e × Has (get_or others (far (get_or w i 0)) 0) e) =
          ⊎_elim
          (λ (q : x ≡ v). subst (λ (x : ℕ). OneOf d (λ i. (near (get_or w i 0) ≡ x) × Has (held_at w i) e × Has (get_or others (far (get_or w i 0)) 0) e)) (sym q)
          (M.found e (cast e (ap (λ (k : ℕ). get_or masks k 0) q) i.0) y (λ a. i.1 q (or_left miss away e a))))
          (λ (q : x ≡ v → ⊥). f q e i.0 y) (eq_or_ne x v) in
          record {
            at = o.at;
            below = o.below;
            holds = (
              o.holds.0,
              o.holds.1,
              less_by others v gone in-others (far (get_or w o.at 0)) e o.holds.2
                  (λ q g. u (M₂.keeps x (subst (IsMarked s₁) o.holds.0 (M₁.hit o.at e o.below q o.holds.1 (subst (λ (x : ℕ). Has (get_or masks' x 0) e) (sym o.holds.0) p) g)))),
            );
          }

      there_fine : (x : ℕ) → x < n → (IsMarked s' x → ⊥) → FineBy far near asked d w others masks x → FineBy far near asked d w others' masks' x
      there_fine x k u f e p y =
          let i = less_say others v gone in-others x e p in
          let o = f e i.0 y in
          record {
            at = o.at;
            below = o.below;
            holds = (
              o.holds.0,
              o.holds.1,
              less_by masks v lost in-masks (near (get_or w o.at 0)) e o.holds.2
                  (λ q g. u (subst (IsMarked s') o.holds.0 (M₂.hit o.at e o.below q o.holds.1 (subst (λ (x : ℕ). Has (get_or others' x 0) e) (sym o.holds.0) p) (and_by _ _ e g y)))),
            );
          }

      pub half_some : Half near far n due asked d v here there w masks others s masks' others' s'
      half_some =
          let some = lowest_has 32 miss (omega (arith, z)) short in
          record {
            long = length-set masks v _;
            others_long = length-set others v _;
            set_long = M₂.long ∙ M₁.long;
            is_set = λ I. M₂.is_set (M₁.is_set I);
            loses = loses;
            which = inr (record { at = _; below = some.0; holds = (M.part _ some.1).1 });
            falls = inr (fell z);
            keeps = λ x h. M₂.keeps x (M₁.keeps x h);
            why = λ x k h. ⊎_elim
                (λ p. ⊎_elim (λ p. inl p) (λ o. inr (let e = o.holds.0 in let b = bound o.at o.below in omega arith)) (M₁.why x k p))
                (λ o. inr (let e = o.holds.0 in let b = far-bound o.at o.below in omega arith)) (M₂.why x k h);
            here_fine = here_fine;
            there_fine = there_fine;
          }

-- where nothing is asked on a side, nothing is lost there
pub half_idle : (near far : End) (due asked : ℕ) (here there masks others s : List ℕ) {n d : ℕ} {w : List ℕ} {v : ℕ} → v < n → due ≡ 0
    → Half near far n due asked d v here there w masks others s masks others s
half_idle near far due asked here there masks others s l z =
    half_none near far due asked here there masks others s l
    (record { part = λ e h. absurd (none_has e h); missing = λ e h. absurd (none_has e h); found = λ e p q. absurd (none_has e (cast e z q)) })
    refl

-- ---- both sides
module _ {n due asked d v : ℕ} {leaving arriving ending starting w leave arrive s leave₁ arrive₁ s₁ leave₂ arrive₂ s₂ : List ℕ}
    (A : Half word_from word_to n due asked d v leaving arriving w leave arrive s leave₁ arrive₁ s₁)
    (B : Half word_to word_from n asked due d v ending starting w arrive₁ leave₁ s₁ arrive₂ leave₂ s₂) where
  both_keeps : Keeps due asked d leaving arriving ending starting w leave arrive leave₂ arrive₂
  both_keeps free from to m T₁ T₂ T₃ apart more a =
      sound_then from to m (λ i l. refl) (losing_sound A.loses from to m free more T₁ T₂ apart)
      (⊎_elim
      (λ p. subst₂ (λ (x y : List ℕ). Sound from to m free due more d w leave₁ arrive₁ w x y) (sym p.1) (sym p.0) (sound_none from to m))
      (λ o. let t = T₃ o.at o.holds in losing_back_sound B.loses from to m free due more t.0 t.1 a)
      B.which)

  pub both_turned : Turned n due asked d v leaving arriving ending starting w leave arrive s leave₂ arrive₂ s₂
  both_turned =
      record {
        leave_long = B.others_long ∙ A.long;
        arrive_long = B.long ∙ A.others_long;
        long = B.set_long ∙ A.set_long;
        is_set = λ I. B.is_set (A.is_set I);
        keeps = both_keeps;
        falls = ⊎_elim
            (λ p. ⊎_elim (λ q. inl (q.1 ∙ p.0, q.0 ∙ p.1, q.2 ∙ p.2)) (λ q. inr (let x = p.0 in let y = p.1 in omega arith)) B.falls)
            (λ p. ⊎_elim (λ q. inr (let x = q.0 in let y = q.1 in omega arith)) (λ q. inr (omega arith)) B.falls) A.falls;
        why = λ x k h. ⊎_elim (λ p. A.why x k p) (λ p. inr p) (B.why x k h);
        rest = λ h x k u.
            record {
              out = B.there_fine x k u (A.here_fine x k (λ a. u (B.keeps x a)) (λ q. (h x k q (λ a. u (B.keeps x (A.keeps x a)))).out));
              into = B.here_fine x k u (λ q. A.there_fine x k (λ a. u (B.keeps x a)) (h x k q (λ a. u (B.keeps x (A.keeps x a)))).into);
            };
      }

-- ---- until no node is marked
pub record Turning (n due asked d : ℕ) (leaving arriving ending starting w leave₀ arrive₀ leave arrive s : List ℕ) : Type 0 where
  pub leave_long : length leave ≡ length leave₀
  pub arrive_long : length arrive ≡ length arrive₀
  pub is_set : IsSet s
  pub keeps : Keeps due asked d leaving arriving ending starting w leave₀ arrive₀ leave arrive
  pub within : (x : ℕ) → x < 4096 → IsMarked s x → x < n
  pub rest : Rest n due asked d w leave arrive s

pub turning_start : (n due asked d : ℕ) (leaving arriving ending starting w leave arrive s : List ℕ) → AllMarked n s → Turning n due asked d leaving arriving ending starting w leave arrive leave arrive s
turning_start n due asked d leaving arriving ending starting w leave arrive s F =
    record { leave_long = refl; arrive_long = refl; is_set = F.is_set; keeps = λ free from to m T₁ T₂ T₃ a more b. sound_none from to m; within = F.why; rest = λ x l u. absurd (u (F.each x l)) }

-- sums of the masks, then of the marked nodes
abbrev pub measure : ℕ → List ℕ → List ℕ → List ℕ → ℕ
measure n leave arrive s = (sum_to n leave + sum_to n arrive) * 2 ^ 41 + sum_to 256 s

module _ {n due asked d : ℕ} {leaving arriving ending starting w leave₀ arrive₀ leave arrive s : List ℕ} (h : Turning n due asked d leaving arriving ending starting w leave₀ arrive₀ leave arrive s) {v : ℕ} {s₁ : List ℕ} (K : TakenOut s v s₁) where
  pub turning_node : v < 4096 → v < n
  turning_node l = h.within v l (K.was l)

  module _ {leave' arrive' s' : List ℕ} (R : Turned n due asked d v leaving arriving ending starting w leave arrive s₁ leave' arrive' s') (few : n ≤ 4096) where
    pub turning_more : Turning n due asked d leaving arriving ending starting w leave₀ arrive₀ leave' arrive' s'
    turning_more =
        record {
          leave_long = R.leave_long ∙ h.leave_long;
          arrive_long = R.arrive_long ∙ h.arrive_long;
          is_set = R.is_set (K.is_set h.is_set);
          keeps = λ free from to m T₁ T₂ T₃ a more b. sound_then from to m (λ i l. refl) (h.keeps free from to m T₁ T₂ T₃ a more b) (R.keeps free from to m T₁ T₂ T₃ a more b);
          within = λ x l p. ⊎_elim (λ q. h.within x l (K.why x q)) (λ q. q) (R.why x l p);
          rest = R.rest (λ x l n u. h.rest x l (λ m. u (K.keeps x (omega arith) n m)));
        }

    pub turning_less : v < 4096 → ((k : ℕ) → get_or s' k 0 < 2 ^ 32) → measure n leave' arrive' s' < measure n leave arrive s
    turning_less l f =
        let a = K.fell l in
        let b = sum_bound 256 s' f in
        ⊎_elim (λ p. let x = p.0 in let y = p.1 in let z = p.2 in omega arith) (λ p. omega arith) R.falls

  pub turning_end : n ≤ 4096 → 4096 ≤ v → Late n due asked d leaving arriving ending starting w leave₀ arrive₀ leave arrive
  turning_end few l =
      record {
        leave_long = h.leave_long;
        arrive_long = h.arrive_long;
        keeps = h.keeps;
        fine = λ x k. h.rest x k (K.none l x (omega arith));
      }

-- ---- and one sweep more
module _ {n due asked d : ℕ} {leaving arriving ending starting w leave arrive leave' arrive' out : List ℕ} (P : Prepared n d w leave arrive out) (L : Late n due asked d leaving arriving ending starting w leave arrive leave' arrive') where
  pub late_prepared : Prepared n d w leave' arrive' out
  late_prepared =
      record { ends = P.ends; order = P.order; nodes = P.nodes; leave_long = L.leave_long ∙ P.leave_long; arrive_long = L.arrive_long ∙ P.arrive_long; clear = P.clear }

  pub late_fixed : {free : ℕ} {w' out₁ out' : List ℕ} → Swept d leave' arrive' free w out w' out₁ → out' ≡ replicate n 0 ++ drop n out₁ → Fixed n free due asked d leaving arriving ending starting w leave arrive out 0 w' leave' arrive' out'
  late_fixed {free} {out₁ = out₁} W e =
      let most = P.ends.most in
      record {
        falls = swept_falls late_prepared W;
        leave_long = L.leave_long;
        arrive_long = L.arrive_long;
        out_long =
            ap length e ∙ length-append (replicate n 0) (drop n out₁) ∙ (let a = length-replicate {A = ℕ} n 0 in let b = length-drop n out₁ in let z = W.long in let y = P.nodes in omega arith);
        clear = λ v l. ap (λ (x : List ℕ). get_or x v 0) e ∙ get_or-append (replicate n 0) (drop n out₁) 0 v (let a = length-replicate {A = ℕ} n 0 in omega arith) ∙ nothing_at n v;
        sound = λ from to m T₁ T₂ T₃ apart more a. sound_then from to m (λ i l. refl) (L.keeps free from to m T₁ T₂ T₃ apart more a) (swept_sound most W from to m due more);
        rests = λ z. record {
          within = swept_within late_prepared W;
          held = λ v e l u le h.
              (let o = (L.fine v l).out e h u in
              record {
                at = o.at;
                below = o.below;
                holds = (
                  from_same most W o.at o.below ∙ o.holds.0,
                  held_by most W o.at e o.below o.holds.1 (inr (subst (λ (x : ℕ). Has (get_or leave' x 0) e) (sym o.holds.0) h, o.holds.2)),
                );
              });
          arrived = λ v e l u le h.
              (let o = (L.fine v l).into e h u in
              record {
                at = o.at;
                below = o.below;
                holds = (
                  to_same most W o.at o.below ∙ o.holds.0,
                  held_by most W o.at e o.below o.holds.1 (inr (o.holds.2, subst (λ (x : ℕ). Has (get_or arrive' x 0) e) (sym o.holds.0) h)),
                );
              });
        };
      }
