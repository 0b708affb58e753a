-- Tables by groups of four links: looking a set up, and taking away what it has.
use mathlib.Core.Path.{◌≡◌, refl, subst}
use mathlib.Core.Logic.{◌⊎◌, inl, inr, ⊎_elim}
use mathlib.Core.List.{List}
use Prim.Native.Nat.{ℕ, zero, suc, ◌<◌, ◌+◌, ◌*◌, ◌/◌, ◌%◌, ◌^◌}
use native.Mathlib.Omega.{arith}
use lib.ListN.{get_or}
use lib.Bits.{bit_and, bit_or, bit_xor}
use Rattle.engine.specs.Masks.{Has, Mask, Names}
use Rattle.engine.proofs.MaskBits.{four_say, four_by, mask_or, mask_cast, minus_say, minus_by, none_has}
use Rattle.engine.specs.Sweeping.{Meets, Tabled, LookedUp, Left}

-- the index i of the group q names the members of x in that group
module _ (x q a i u : ℕ) (ha : a ≡ 4 * q) (hi : i ≡ 16 * q + x / 2 ^ a % 16) where
  names_say : Names i u → (u / 4 ≡ q) × Has x u
  names_say n =
      let g = n.group in
      let e : a + u % 4 ≡ u = omega arith in
      let f : i % 16 ≡ x / 2 ^ a % 16 = omega arith in
      ((let z : u / 4 ≡ q = omega arith in z), subst (Has x) e (four_say x a (u % 4) (omega arith) (subst (λ (y : ℕ). Has y (u % 4)) f n.member)))

  names_by : u / 4 ≡ q → Has x u → Names i u
  names_by g h =
      let e : u ≡ a + u % 4 = omega arith in
      let f : x / 2 ^ a % 16 ≡ i % 16 = omega arith in
      record { group = omega arith; member = subst (λ (y : ℕ). Has y (u % 4)) f (four_by x a (u % 4) (omega arith) (subst (Has x) e h)) }

module _ (a b : List ℕ) (m : ℕ) (t : List ℕ) (T : Tabled a b m t) (x : ℕ) where
  abbrev InGroup : ℕ → ℕ → Type 0
  InGroup q k = Meets a b m (λ u. (u / 4 ≡ q) × Has x u) k

  -- a word of the table has the links that meet the members of x in the group q
  entry : (q s i : ℕ) → q < 8 → s ≡ 4 * q → i ≡ 16 * q + x / 2 ^ s % 16 → Mask (InGroup q) (get_or t i 0)
  entry q s i l ha hi =
      mask_cast
      (λ k o. (o.0, record { at = o.1.at; below = o.1.below; holds = (names_say x q s i o.1.at ha hi o.1.holds.0, o.1.holds.1) }))
      (λ k o. (o.0, record { at = o.1.at; below = o.1.below; holds = (names_by x q s i o.1.at ha hi o.1.holds.0.0 o.1.holds.0.1, o.1.holds.1) }))
      (T.each i (omega arith))

  forget : (q k : ℕ) → InGroup q k → Meets a b m (Has x) k
  forget q k o = (o.0, record { at = o.1.at; below = o.1.below; holds = (o.1.holds.0.1, o.1.holds.1) })

  in_group : (k : ℕ) → Meets a b m (Has x) k → (q : ℕ) × (q < 8) × InGroup q k
  in_group k o =
      let s = o.1.below in
      let f = T.few in
      (o.1.at / 4, omega arith, (o.0, record { at = o.1.at; below = s; holds = ((refl, o.1.holds.0), o.1.holds.1) }))

  choose : (A : ℕ → Type 0) (q : ℕ) → q < 8 → A q → ((A 0 ⊎ A 1) ⊎ (A 2 ⊎ A 3)) ⊎ ((A 4 ⊎ A 5) ⊎ (A 6 ⊎ A 7))
  choose A zero l z = inl (inl (inl z))
  choose A (suc zero) l z = inl (inl (inr z))
  choose A (suc (suc zero)) l z = inl (inr (inl z))
  choose A (suc (suc (suc zero))) l z = inl (inr (inr z))
  choose A (suc (suc (suc (suc zero)))) l z = inr (inl (inl z))
  choose A (suc (suc (suc (suc (suc zero))))) l z = inr (inl (inr z))
  choose A (suc (suc (suc (suc (suc (suc zero)))))) l z = inr (inr (inl z))
  choose A (suc (suc (suc (suc (suc (suc (suc zero))))))) l z = inr (inr (inr z))
  choose A (suc (suc (suc (suc (suc (suc (suc (suc q)))))))) l z = absurd (omega arith)

  found : Mask (Meets a b m (Has x))
      (bit_or
      (bit_or (bit_or (get_or t (x % 16) 0) (get_or t (16 + x / 16 % 16) 0)) (bit_or (get_or t (32 + x / 256 % 16) 0) (get_or t (48 + x / 4096 % 16) 0)))
      (bit_or (bit_or (get_or t (64 + x / 65536 % 16) 0) (get_or t (80 + x / 1048576 % 16) 0)) (bit_or (get_or t (96 + x / 16777216 % 16) 0) (get_or t (112 + x / 268435456 % 16) 0))))
  found =
      mask_cast
      (λ k. ⊎_elim (⊎_elim (⊎_elim (forget 0 k) (forget 1 k)) (⊎_elim (forget 2 k) (forget 3 k))) (⊎_elim (⊎_elim (forget 4 k) (forget 5 k)) (⊎_elim (forget 6 k) (forget 7 k))))
      (λ k o. let g = in_group k o in choose (λ q. InGroup q k) g.0 g.1 g.2)
      (mask_or
      (mask_or
      (mask_or (entry 0 0 (x % 16) (omega arith) refl (omega arith)) (entry 1 4 (16 + x / 16 % 16) (omega arith) refl refl))
      (mask_or (entry 2 8 (32 + x / 256 % 16) (omega arith) refl refl) (entry 3 12 (48 + x / 4096 % 16) (omega arith) refl refl)))
      (mask_or
      (mask_or (entry 4 16 (64 + x / 65536 % 16) (omega arith) refl refl) (entry 5 20 (80 + x / 1048576 % 16) (omega arith) refl refl))
      (mask_or (entry 6 24 (96 + x / 16777216 % 16) (omega arith) refl refl) (entry 7 28 (112 + x / 268435456 % 16) (omega arith) refl refl))))

pub looked_up : (t : List ℕ) (x a b c d e f g h : ℕ) → a ≡ x % 16 → b ≡ x / 16 % 16 → c ≡ x / 256 % 16 → d ≡ x / 4096 % 16
    → e ≡ x / 65536 % 16 → f ≡ x / 1048576 % 16 → g ≡ x / 16777216 % 16 → h ≡ x / 268435456 % 16
    → LookedUp t x
    (bit_or
    (bit_or (bit_or (get_or t a 0) (get_or t (16 + b) 0)) (bit_or (get_or t (32 + c) 0) (get_or t (48 + d) 0)))
    (bit_or (bit_or (get_or t (64 + e) 0) (get_or t (80 + f) 0)) (bit_or (get_or t (96 + g) 0) (get_or t (112 + h) 0))))
looked_up t x a b c d e f g h ea eb ec ed ee ef eg eh = rw (ea, eb, ec, ed, ee, ef, eg, eh) (record { is = λ u v m T. found u v m t T x })

-- ---- what is left
pub left_all : (t : List ℕ) (miss x : ℕ) → miss ≡ 0 → Left t miss x x
left_all t miss x z =
    record {
      stays = λ e. refl;
      is = λ a b m T. record { hit = λ k p. p.0; why = λ k h. (h, λ o. none_has o.1.at (subst (λ (y : ℕ). Has y o.1.at) z o.1.holds.0)) };
    }

pub left_some : (t : List ℕ) (miss x gone : ℕ) → (miss ≡ 0 → ⊥) → LookedUp t miss gone → Left t miss x (bit_xor x (bit_and x gone))
left_some t miss x gone n l =
    record {
      stays = λ e. absurd (n e);
      is = λ a b m T.
          (let g = l.is a b m T in
          record {
            hit = λ k p. minus_by x gone k p.0 (λ h. p.1 (g.why k h));
            why = λ k h. (let r = minus_say x gone k h in (r.0, λ o. r.1 (g.hit k o)));
          });
    }
