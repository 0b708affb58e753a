-- The cheapest set: the recursion over undecided views finds the set that covers and that no other that covers is better than.
use mathlib.Core.Path.{◌≡◌, refl, ap, sym, subst, ◌∙◌}
use mathlib.Core.Bool.{Bool, true, false, or-true}
use mathlib.Core.List.{List}
use mathlib.Core.Logic.{◌⊎◌, inl, inr, ⊎_elim}
use Prim.Native.Nat.{ℕ, zero, suc, ◌+◌, ◌-◌, ◌/◌, ◌%◌, ◌^◌, ◌<◌, ◌≤◌}
use native.Mathlib.Nat.{pow-suc, div-one}
use native.Mathlib.Omega.{arith}
use lib.Pow.{pow_pos}
use lib.Dec.{ltb}
use borrow.Author.Tests.{ltb-true, lt-ltb, eqb-true, eq-eqb}
use Rattle.packed.specs.Format.{pick}
use Rattle.packed.proofs.OrderCases.{lt_or_ge, eq_or_ne, trichotomy, or_cases, and_both}
use Rattle.engine.specs.Simulation.{bit}
use Rattle.containment.specs.Choice.{covers_in, chosen}
use Rattle.containment.specs.Cheapest.{weigh, cost, size, turned, Sooner, Less, lesser, Better, better, misses, ahead, foremost, cheapest, IsCheapest}
use Rattle.containment.proofs.SetBits.{test_cases, never, bit_say, bit_by, bit_half}
use Rattle.containment.proofs.ChoiceLaws.{pick_cases, chosen_small, chosen_covers}

-- ---- the foremost of all, for any order that is total on sets below 2 ^ n
module _ (n : ℕ) (first : ℕ → ℕ → Bool)
    (through : (a b c : ℕ) → first a b ≡ true → first b c ≡ true → first a c ≡ true)
    (total : (a b : ℕ) → a < 2 ^ n → b < 2 ^ n → (first a b ≡ true) ⊎ ((first b a ≡ true) ⊎ (a ≡ b))) where
  -- a is b or goes before it
  abbrev pub Upto : ℕ → ℕ → Type 0
  Upto a b = (first a b ≡ true) ⊎ (a ≡ b)

  upto_through : (a b c : ℕ) → Upto a b → Upto b c → Upto a c
  upto_through a b c (inl p) (inl q) = inl (through a b c p q)
  upto_through a b c (inl p) (inr q) = inl (subst (λ z. first a z ≡ true) q p)
  upto_through a b c (inr p) r = subst (λ z. Upto z c) (sym p) r

  front_upto : (a b : ℕ) → a < 2 ^ n → b < 2 ^ n → Upto (pick (first a b) a b) a × Upto (pick (first a b) a b) b
  front_upto a b la lb =
      pick_cases (λ x. Upto x a × Upto x b) (first a b) a b
      (λ h. (inr refl, inl h))
      (λ h. (⊎_elim (λ p. never (sym p ∙ h)) (λ r. ⊎_elim (λ p. inl p) (λ e. inr (sym e)) r) (total a b la lb), inr refl))

  -- it extends what is taken
  pub record Extends (u set x : ℕ) : Type 0 where
    pub from : set ≤ x
    pub upto : x < set + 2 ^ u

  pub foremost_extends : (u set : ℕ) → Extends u set (foremost first u set)
  unfolding foremost
  foremost_extends zero set = record { from = omega arith; upto = omega arith }
  foremost_extends (suc u) set =
      let p = pow-suc 2 u in
      let a = foremost_extends u (set + 2 ^ u) in
      let b = foremost_extends u set in
      pick_cases (Extends (suc u) set) (first (foremost first u (set + 2 ^ u)) (foremost first u set)) (foremost first u (set + 2 ^ u)) (foremost first u set)
      (λ _. record { from = (let x = a.from in omega arith); upto = (let x = a.upto in omega arith) })
      (λ _. record { from = b.from; upto = (let x = b.upto in omega arith) })

  pub foremost_upto : (u set x : ℕ) → set + 2 ^ u ≤ 2 ^ n → Extends u set x → Upto (foremost first u set) x
  unfolding foremost
  foremost_upto zero set x h e = inr (let a = e.from in let b = e.upto in omega arith)
  foremost_upto (suc u) set x h e =
      let p = pow-suc 2 u in
      let q = pow_pos u in
      let a = (foremost_extends u (set + 2 ^ u)).upto in
      let b = (foremost_extends u set).upto in
      let f = front_upto (foremost first u (set + 2 ^ u)) (foremost first u set) (omega arith) (omega arith) in
      let c = e.from in
      let d = e.upto in
      ⊎_elim
      (λ (l : x < set + 2 ^ u). upto_through _ (foremost first u set) x f.1 (foremost_upto u set x (omega arith) (record { from = c; upto = l })))
      (λ (l : set + 2 ^ u ≤ x). upto_through _ (foremost first u (set + 2 ^ u)) x f.0 (foremost_upto u (set + 2 ^ u) x (omega arith) (record { from = l; upto = omega arith })))
      (lt_or_ge x (set + 2 ^ u))

-- ---- one key, then what decides
pub less_say : (x y : ℕ) (r : Bool) → lesser x y r ≡ true → Less x y (r ≡ true)
unfolding lesser
less_say x y r h = ⊎_elim (λ p. inl (ltb-true x y p)) (λ p. let b = and_both _ _ p in inr (eqb-true x y b.0, b.1)) (or_cases _ _ h)

pub less_by : (x y : ℕ) (r : Bool) → Less x y (r ≡ true) → lesser x y r ≡ true
unfolding lesser
less_by x y r (inl l) = rw (lt-ltb x y l) refl
less_by x y r (inr p) = rw (eq-eqb x y p.0, p.1) (or-true (ltb x y))

module _ {R S : Type 0} where
  pub less_map : {x y : ℕ} → (R → S) → Less x y R → Less x y S
  less_map f (inl l) = inl l
  less_map f (inr p) = inr (p.0, f p.1)

  pub less_never : {x y : ℕ} → (R → S → ⊥) → Less x y R → Less y x S → ⊥
  less_never f (inl p) (inl q) = omega arith
  less_never f (inl p) (inr q) = let e = q.0 in omega arith
  less_never f (inr p) (inl q) = let e = p.0 in omega arith
  less_never f (inr p) (inr q) = f p.1 q.1

module _ {R S U : Type 0} where
  less_through : {x y z : ℕ} → (R → S → U) → Less x y R → Less y z S → Less x z U
  less_through f (inl p) (inl q) = inl (omega arith)
  less_through f (inl p) (inr q) = let e = q.0 in inl (omega arith)
  less_through f (inr p) (inl q) = let e = p.0 in inl (omega arith)
  less_through f (inr p) (inr q) = inr (p.0 ∙ q.0, f p.1 q.1)

  less_total : (x y : ℕ) → R ⊎ (S ⊎ U) → Less x y R ⊎ (Less y x S ⊎ U)
  less_total x y r =
      trichotomy x y (λ l. inl (inl l))
      (λ e. ⊎_elim (λ p. inl (inr (e, p))) (λ q. ⊎_elim (λ p. inr (inl (inr (sym e, p)))) (λ u. inr (inr u)) q) r)
      (λ l. inr (inl (inl l)))

-- ---- the lowest view in which two sets differ
sooner_wider : {a b k : ℕ} → Sooner a b k → Sooner a b (suc k)
sooner_wider s = let l = s.below in record { at = s.at; below = omega arith; mine = s.mine; other = s.other; lower = s.lower }

-- the sets have the same members below k
abbrev Alike : ℕ → ℕ → ℕ → Type 0
Alike a b k = (i : ℕ) → i < k → bit a i ≡ bit b i

alike_step : (a b k : ℕ) → Alike a b k → bit a k ≡ bit b k → Alike a b (suc k)
alike_step a b k f e i l = ⊎_elim (λ (p : i < k). f i p) (λ (p : k ≤ i). let q : k ≡ i = omega arith in subst (λ z. bit a z ≡ bit b z) q e) (lt_or_ge i k)

alike_at : (a b k : ℕ) → Alike a b k → Sooner a b (suc k) ⊎ (Sooner b a (suc k) ⊎ Alike a b (suc k))
alike_at a b k f =
    ⊎_elim
    (λ p. ⊎_elim (λ q. inr (inr (alike_step a b k f (p ∙ sym q)))) (λ q. inl (record { at = k; below = omega arith; mine = p; other = q; lower = f })) (test_cases (bit b k)))
    (λ p. ⊎_elim (λ q. inr (inl (record { at = k; below = omega arith; mine = q; other = p; lower = λ i l. sym (f i l) }))) (λ q. inr (inr (alike_step a b k f (p ∙ sym q)))) (test_cases (bit b k)))
    (test_cases (bit a k))

sooner_total : (a b k : ℕ) → Sooner a b k ⊎ (Sooner b a k ⊎ Alike a b k)
sooner_total a b zero = inr (inr (λ i l. absurd (omega arith)))
sooner_total a b (suc k) =
    ⊎_elim (λ s. inl (sooner_wider s)) (λ r. ⊎_elim (λ s. inr (inl (sooner_wider s))) (λ f. alike_at a b k f) r) (sooner_total a b k)

-- sets of k views with the same members are the same number
low_bit : (x : ℕ) → (bit x 0 ≡ true → x % 2 ≡ 1) × (bit x 0 ≡ false → x % 2 ≡ 0)
low_bit x =
    let d = div-one x in
    (λ h. let e = bit_say x 0 h in omega arith, λ h. ⊎_elim (λ (e : x % 2 ≡ 1). never (sym (bit_by x 0 (omega arith)) ∙ h)) (λ n. let z = n in omega arith) (eq_or_ne (x % 2) 1))

low_same : (a b : ℕ) → bit a 0 ≡ bit b 0 → a % 2 ≡ b % 2
low_same a b e =
    ⊎_elim (λ h. (low_bit a).0 h ∙ sym ((low_bit b).0 (sym e ∙ h))) (λ h. (low_bit a).1 h ∙ sym ((low_bit b).1 (sym e ∙ h))) (test_cases (bit a 0))

alike_same : (k a b : ℕ) → a < 2 ^ k → b < 2 ^ k → Alike a b k → a ≡ b
alike_same zero a b la lb f = omega arith
alike_same (suc k) a b la lb f =
    let p = pow-suc 2 k in
    let h : a / 2 ≡ b / 2 = alike_same k (a / 2) (b / 2) (omega arith) (omega arith) (λ i l. sym (bit_half a i) ∙ f (suc i) (omega arith) ∙ bit_half b i) in
    let e = low_same a b (f 0 (omega arith)) in
    omega arith

-- ---- the bits turned round: the set that comes first has the greater number
weigh_alike : (w : ℕ → ℕ) (a b k : ℕ) → Alike a b k → weigh w a k ≡ weigh w b k
unfolding weigh
weigh_alike w a b zero f = refl
weigh_alike w a b (suc k) f = rw (weigh_alike w a b k (λ i l. f i (omega arith)), f k (omega arith)) refl

weigh_mono : (w : ℕ → ℕ) (x i k : ℕ) → i ≤ k → weigh w x i ≤ weigh w x k
unfolding weigh
weigh_mono w x i zero h = let e : i ≡ zero = omega arith in subst (λ z. weigh w x z ≤ 0) (sym e) (omega arith)
weigh_mono w x i (suc k) h =
    ⊎_elim (λ (l : i < suc k). let r = weigh_mono w x i k (omega arith) in omega arith)
    (λ (l : suc k ≤ i). let e : i ≡ suc k = omega arith in subst (λ z. weigh w x z ≤ weigh w x (suc k)) (sym e) (omega arith))
    (lt_or_ge i (suc k))

-- what the views from i on can add is less than the view below i
halves : (k : ℕ) → k < 16 → 2 ^ (16 - k) ≡ 2 ^ (15 - k) + 2 ^ (15 - k)
halves k l = let e : 16 - k ≡ suc (15 - k) = omega arith in ap (λ z. 2 ^ z) e ∙ (let p = pow-suc 2 (15 - k) in omega arith)

at_most : (b : Bool) (x : ℕ) → pick b x 0 ≤ x
at_most true x = omega arith
at_most false x = omega arith

turned_room : (x i k : ℕ) → i ≤ k → k ≤ 16 → turned x k + 2 ^ (16 - k) ≤ turned x i + 2 ^ (16 - i)
unfolding weigh
turned_room x i zero h l = let e : i ≡ zero = omega arith in subst (λ z. turned x zero + 2 ^ (16 - zero) ≤ turned x z + 2 ^ (16 - z)) (sym e) (omega arith)
turned_room x i (suc k) h l =
    ⊎_elim
    (λ (p : i < suc k).
    let r = turned_room x i k (omega arith) (omega arith) in
    let s = at_most (bit x k) (2 ^ (15 - k)) in
    let t = halves k (omega arith) in
    let u : 2 ^ (16 - suc k) ≡ 2 ^ (15 - k) = ap (λ z. 2 ^ z) (omega arith) in
    omega arith)
    (λ (p : suc k ≤ i). let e : i ≡ suc k = omega arith in subst (λ z. turned x (suc k) + 2 ^ (16 - suc k) ≤ turned x z + 2 ^ (16 - z)) (sym e) (omega arith))
    (lt_or_ge i (suc k))

sooner_turned : (a b k : ℕ) → k ≤ 16 → Sooner a b k → turned b k < turned a k
unfolding weigh
sooner_turned a b k l s =
    let i = s.at in
    let h = s.below in
    let r = turned_room b (suc i) k (omega arith) l in
    let m = weigh_mono (λ z. 2 ^ (15 - z)) a (suc i) k (omega arith) in
    let e = weigh_alike (λ z. 2 ^ (15 - z)) a b i s.lower in
    let u : 2 ^ (16 - suc i) ≡ 2 ^ (15 - i) = ap (λ z. 2 ^ z) (omega arith) in
    let p = pow_pos (16 - k) in
    let mine : turned a (suc i) ≡ turned a i + 2 ^ (15 - i) = rw s.mine refl in
    let other : turned b (suc i) ≡ turned b i = rw s.other (omega arith) in
    omega arith

turned_same : (a b k : ℕ) → k ≤ 16 → a < 2 ^ k → b < 2 ^ k → turned a k ≡ turned b k → a ≡ b
turned_same a b k l la lb e =
    ⊎_elim (λ s. absurd (let r = sooner_turned a b k l s in omega arith))
    (λ r. ⊎_elim (λ s. absurd (let r = sooner_turned b a k l s in omega arith)) (λ f. alike_same k a b la lb f) r)
    (sooner_total a b k)

turned_sooner : (a b k : ℕ) → k ≤ 16 → turned b k < turned a k → Sooner a b k
turned_sooner a b k l h =
    ⊎_elim (λ s. s)
    (λ r. absurd (⊎_elim (λ s. let r = sooner_turned b a k l s in omega arith) (λ f. let e = weigh_alike (λ z. 2 ^ (15 - z)) a b k f in omega arith) r))
    (sooner_total a b k)

-- ---- better
module _ (charges : List ℕ) (k : ℕ) (few : k ≤ 16) where
  -- the same by numbers alone
  abbrev Before : ℕ → ℕ → Type 0
  Before a b = Less (cost charges a k) (cost charges b k) (Less (size a k) (size b k) (turned b k < turned a k))

  before_say : (a b : ℕ) → better charges k a b ≡ true → Before a b
  unfolding better
  before_say a b h = less_map (λ p. less_map (ltb-true _ _) (less_say _ _ _ p)) (less_say _ _ _ h)

  before_by : (a b : ℕ) → Before a b → better charges k a b ≡ true
  unfolding better
  before_by a b h = less_by _ _ _ (less_map (λ p. less_by _ _ _ (less_map (lt-ltb _ _) p)) h)

  before_better : (a b : ℕ) → Before a b → Better charges k a b
  before_better a b = less_map (less_map (turned_sooner a b k few))

  better_before : (a b : ℕ) → Better charges k a b → Before a b
  better_before a b = less_map (less_map (sooner_turned a b k few))

  before_through : (a b c : ℕ) → Before a b → Before b c → Before a c
  before_through a b c = less_through (less_through (λ p q. omega arith))

  before_total : (a b : ℕ) → a < 2 ^ k → b < 2 ^ k → Before a b ⊎ (Before b a ⊎ (a ≡ b))
  before_total a b la lb =
      less_total _ _ (less_total _ _ (trichotomy (turned a k) (turned b k) (λ l. inr (inl l)) (λ e. inr (inr (turned_same a b k few la lb e))) (λ l. inl l)))

  -- of two sets one is better
  pub better_total : (a b : ℕ) → a < 2 ^ k → b < 2 ^ k → Better charges k a b ⊎ (Better charges k b a ⊎ (a ≡ b))
  better_total a b la lb =
      ⊎_elim (λ p. inl (before_better a b p)) (λ r. ⊎_elim (λ p. inr (inl (before_better b a p))) (λ e. inr (inr e)) r) (before_total a b la lb)

-- ---- the cheapest
module _ (t : List ℕ) (m : ℕ) (charges : List ℕ) (k : ℕ) (few : k ≤ 16) where
  -- what the order of the search says
  abbrev Ahead : ℕ → ℕ → Type 0
  Ahead a b = Less (misses t m k a) (misses t m k b) (Before charges k few a b)

  ahead_say : (a b : ℕ) → ahead t m charges k a b ≡ true → Ahead a b
  unfolding ahead
  ahead_say a b h = less_map (before_say charges k few a b) (less_say _ _ _ h)

  ahead_by : (a b : ℕ) → Ahead a b → ahead t m charges k a b ≡ true
  unfolding ahead
  ahead_by a b h = less_by _ _ _ (less_map (before_by charges k few a b) h)

  ahead_through : (a b c : ℕ) → ahead t m charges k a b ≡ true → ahead t m charges k b c ≡ true → ahead t m charges k a c ≡ true
  ahead_through a b c p q = ahead_by a c (less_through (before_through charges k few a b c) (ahead_say a b p) (ahead_say b c q))

  ahead_total : (a b : ℕ) → a < 2 ^ k → b < 2 ^ k → (ahead t m charges k a b ≡ true) ⊎ ((ahead t m charges k b a ≡ true) ⊎ (a ≡ b))
  ahead_total a b la lb =
      ⊎_elim (λ p. inl (ahead_by a b p)) (λ r. ⊎_elim (λ p. inr (inl (ahead_by b a p))) (λ e. inr (inr e)) r) (less_total _ _ (before_total charges k few a b la lb))

  misses_none : (set : ℕ) → covers_in t set k m ≡ true → misses t m k set ≡ 0
  unfolding misses
  misses_none set h = rw h refl

  misses_say : (set : ℕ) → misses t m k set ≡ 0 → covers_in t set k m ≡ true
  unfolding misses
  misses_say set h = ⊎_elim (λ c. c) (λ c. absurd (let e : ◌≡◌ {A = ℕ} 1 0 = rw c at h in omega arith)) (test_cases (covers_in t set k m))

  -- it is one of the sets of the k views, and goes before all others
  pub cheapest_small : cheapest t m charges k < 2 ^ k
  unfolding cheapest
  cheapest_small = let e = (foremost_extends k (ahead t m charges k) ahead_through ahead_total k 0).upto in omega arith

  cheapest_first : (set : ℕ) → set < 2 ^ k → Ahead (cheapest t m charges k) set ⊎ (cheapest t m charges k ≡ set)
  unfolding cheapest
  cheapest_first set l =
      ⊎_elim (λ p. inl (ahead_say _ set p)) (λ e. inr e)
      (foremost_upto k (ahead t m charges k) ahead_through ahead_total k 0 set (omega arith) (record { from = omega arith; upto = omega arith }))

  -- where some set covers, it is the cheapest
  pub cheapest_is : (some : ℕ) → some < 2 ^ k → covers_in t some k m ≡ true → IsCheapest t m charges k (cheapest t m charges k)
  cheapest_is some l c = record { small = cheapest_small; covers = covers (cheapest_first some l); least = λ other s d b. never-better other d (better_before charges k few other (cheapest t m charges k) b) (cheapest_first other s) }
    where
      covers : Ahead (cheapest t m charges k) some ⊎ (cheapest t m charges k ≡ some) → covers_in t (cheapest t m charges k) k m ≡ true
      covers (inl (inl p)) = let z = misses_none some c in absurd (omega arith)
      covers (inl (inr p)) = misses_say _ (p.0 ∙ misses_none some c)
      covers (inr e) = subst (λ x. covers_in t x k m ≡ true) (sym e) c

      back : (a b : ℕ) → Before charges k few a b → Before charges k few b a → ⊥
      back a b = less_never (less_never (λ x y. omega arith))

      never-better : (other : ℕ) → covers_in t other k m ≡ true → Before charges k few other (cheapest t m charges k) → Ahead (cheapest t m charges k) other ⊎ (cheapest t m charges k ≡ other) → ⊥
      never-better other d b (inl (inl p)) = let z = misses_none other d in omega arith
      never-better other d b (inl (inr p)) = back other (cheapest t m charges k) b p.1
      never-better other d b (inr e) = let b' = subst (λ x. Before charges k few other x) e b in back other other b' b'

  -- for a query that a set covers it is the cheapest
  pub cheapest_covered : (set : ℕ) → covers_in t set k m ≡ true → IsCheapest t m charges k (cheapest t m charges k)
  cheapest_covered set h = cheapest_is (chosen t set m k) (chosen_small t set m k) (chosen_covers t set m k h)
