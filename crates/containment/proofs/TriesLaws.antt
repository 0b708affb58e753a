-- What the search for the cheapest set carries of each set: the sum, the number and the matched edges are the set's own, and what is left at the end
-- belongs to the cheapest.
use mathlib.Core.Path.{◌≡◌, refl, ap, sym, subst, ◌∙◌}
use mathlib.Core.Bool.{Bool, true, false, not, ◌&&◌, ◌||◌}
use mathlib.Core.List.{List}
use mathlib.Core.Logic.{◌⊎◌, inl, inr, ⊎_elim}
use Prim.Native.Nat.{ℕ, zero, suc, ◌+◌, ◌-◌, ◌^◌, ◌<◌, ◌≤◌}
use native.Mathlib.Omega.{arith}
use lib.ListN.{get_or}
use lib.Pow.{pow_mono}
use lib.Dec.{ltb, eqb}
use Rattle.packed.specs.Format.{pick}
use Rattle.packed.proofs.OrderCases.{lt_or_ge, eq_or_ne}
use Rattle.engine.specs.Simulation.{bit}
use Rattle.engine.proofs.MaskBits.{mask_cast, mask_or, mask_none}
use Rattle.containment.specs.Choice.{matches, matched_in, covers_in}
use Rattle.containment.specs.Cheapest.{weigh, cost, size, turned, lesser, better, misses, ahead, foremost, cheapest}
use Rattle.containment.specs.Masked.{Masked}
use Rattle.containment.specs.Tries.{TriedRoom, taking, is_first, foremost_tried, settled, Tries}
use Rattle.containment.specs.declared.costing.Tried.{Tried}
use Rattle.containment.proofs.SetBits.{never, bit_zero, more_self, more_has, more_other}
use Rattle.containment.proofs.ChoiceLaws.{matched_say, matched_by_lem}
use Rattle.containment.proofs.MaskedLaws.{union_covers}

-- ---- powers
pub power_small : (a : ℕ) → a < 16 → 2 ^ a ≤ 32768
power_small a l = pow_mono {j = 15} (omega arith)

-- ---- room for what is taken, where u views are undecided
module _ (u : ℕ) (x : Tried) (n : u ≡ 0 → ⊥) where
  pub room_here : TriedRoom u x → TriedRoom (u - 1 + 1) x
  room_here r = subst (λ (z : ℕ). TriedRoom z x) (omega arith) r

  module _ (l : u ≤ 16) (r : TriedRoom u x) where
    pub room_less : TriedRoom (u - 1) x
    room_less =
        record {
          set = (let z = r.set in omega arith);
          sum = (let z = r.sum in omega arith);
          number = (let z = r.number in omega arith);
          turned = (let z = r.turned in omega arith);
        }

    room-taking : (charge mask : ℕ) → charge < 4294967296 → TriedRoom (u - 1) (taking (u - 1) charge mask x)
    unfolding taking
    room-taking charge mask h =
        let p = power_small (u - 1) (omega arith) in
        let q = power_small (15 - (u - 1)) (omega arith) in
        record {
          set = (let z = r.set in omega arith);
          sum = (let z = r.sum in omega arith);
          number = (let z = r.number in omega arith);
          turned = (let z = r.turned in omega arith);
        }

    pub room_after : (charge mask : ℕ) (y : Tried) → charge < 4294967296 → y ≡ taking (u - 1) charge mask x → TriedRoom (u - 1) y
    room_after charge mask y h e = subst (TriedRoom (u - 1)) (sym e) (room-taking charge mask h)

-- ---- a view taken
module _ (w : ℕ → ℕ) (x a : ℕ) (out : bit x a ≡ false) where
  weigh_below : (k : ℕ) → k ≤ a → weigh w (x + 2 ^ a) k ≡ weigh w x k
  unfolding weigh
  weigh_below zero h = refl
  weigh_below (suc k) h = rw (weigh_below k (omega arith), more_other x a out k (λ e. omega arith)) refl

  -- it adds its weight
  pub weigh_taken : (k : ℕ) → a < k → weigh w (x + 2 ^ a) k ≡ weigh w x k + w a
  unfolding weigh
  weigh_taken zero h = absurd (omega arith)
  weigh_taken (suc k) h =
      ⊎_elim (λ (l : a < k). let i = weigh_taken k l in rw (i, more_other x a out k (λ e. omega arith)) (omega arith))
      (λ (l : k ≤ a). let q : k ≡ a = omega arith in rw q (let i = weigh_below a (omega arith) in rw (i, more_self x a out, out) (omega arith)))
      (lt_or_ge a k)

weigh_none : (w : ℕ → ℕ) (k : ℕ) → weigh w 0 k ≡ 0
unfolding weigh
weigh_none w zero = refl
weigh_none w (suc k) = rw (weigh_none w k, bit_zero k) refl

module _ (t : List ℕ) (x a : ℕ) (out : bit x a ≡ false) (e k : ℕ) (l : a < k) where
  -- .. and the edges that it matches
  taken_say : matched_in t (x + 2 ^ a) e k ≡ true → (matched_in t x e k ≡ true) ⊎ (matches t e a ≡ true)
  taken_say h =
      let o = matched_say t (x + 2 ^ a) e k h in
      ⊎_elim
      (λ q. inr (ap (λ (b : ℕ). matches t e b) q ∙ o.holds.1))
      (λ n. inl (matched_by_lem t x e k (record { at = o.at; below = o.below; holds = (sym (more_other x a out o.at n) ∙ o.holds.0, o.holds.1) })))
      (eq_or_ne a o.at)

  taken_by : (matched_in t x e k ≡ true) ⊎ (matches t e a ≡ true) → matched_in t (x + 2 ^ a) e k ≡ true
  taken_by (inl h) = let o = matched_say t x e k h in matched_by_lem t (x + 2 ^ a) e k (record { at = o.at; below = o.below; holds = (more_has x a out o.at o.holds.0, o.holds.1) })
  taken_by (inr g) = matched_by_lem t (x + 2 ^ a) e k (record { at = a; below = l; holds = (more_self x a out, g) })

-- what matches all edges goes first
pub by_misses : (p q r : Bool) → ((p && not q) || ((p || not q) && r)) ≡ lesser (pick p 0 1) (pick q 0 1) r
unfolding lesser
by_misses true true r = refl
by_misses true false r = refl
by_misses false true r = refl
by_misses false false r = refl

-- ---- what is carried

-- of the set without views
abbrev pub none : Tried
none = record { set = 0; sum = 0; number = 0; turned = 0; matched = 0 }

module _ (t : List ℕ) (m : ℕ) (charges : List ℕ) (k : ℕ) (masks : List ℕ) (each : Masked t k m masks) where
  tries_taking : (a set : ℕ) (x : Tried) → a < k → bit set a ≡ false → Tries t m charges k set x → Tries t m charges k (set + 2 ^ a) (taking a (get_or charges a 0) (get_or masks a 0) x)
  unfolding taking
  tries_taking a set x l out h =
      record {
        is = ap (λ (y : ℕ). y + 2 ^ a) h.is;
        costs = ap (λ (y : ℕ). y + get_or charges a 0) h.costs ∙ sym (weigh_taken (λ b. get_or charges b 0) set a out k l);
        counts = ap (λ (y : ℕ). y + 1) h.counts ∙ sym (weigh_taken (λ _. 1) set a out k l);
        turns = ap (λ (y : ℕ). y + 2 ^ (15 - a)) h.turns ∙ sym (weigh_taken (λ b. 2 ^ (15 - b)) set a out k l);
        edges =
            mask_cast
            (λ e. ⊎_elim (λ z. (z.0, taken_by t set a out e k l (inl z.1))) (λ z. (z.0, taken_by t set a out e k l (inr z.1))))
            (λ e z. ⊎_elim (λ p. inl (z.0, p)) (λ p. inr (z.0, p)) (taken_say t set a out e k l z.1))
            (mask_or h.edges (each a l));
      }

  -- all edges are matched exactly if the mask is that of all edges
  pub tries_covers : (set : ℕ) (x : Tried) → Tries t m charges k set x → eqb x.matched (2 ^ m - 1) ≡ covers_in t set k m
  tries_covers set x h = union_covers t m set k h.edges

  tries_first : (a b : ℕ) (x y : Tried) → Tries t m charges k a x → Tries t m charges k b y → is_first (2 ^ m - 1) x y ≡ ahead t m charges k a b
  unfolding is_first ahead better misses
  tries_first a b x y h g =
      rw (tries_covers a x h, tries_covers b y g, h.costs, g.costs, h.counts, g.counts, h.turns, g.turns)
      (by_misses (covers_in t a k m) (covers_in t b k m) (lesser (cost charges a k) (cost charges b k) (lesser (size a k) (size b k) (ltb (turned b k) (turned a k)))))

  -- none of the views below u is in the set
  abbrev Free : ℕ → ℕ → Type 0
  Free u set = (i : ℕ) → i < u → bit set i ≡ false

  settled_tries : (u set : ℕ) (x : Tried) → u ≤ k → Free u set → Tries t m charges k set x
      → Tries t m charges k (foremost (ahead t m charges k) u set) (settled masks charges (2 ^ m - 1) u x)
  unfolding foremost settled foremost_tried
  settled_tries zero set x l f h = h
  settled_tries (suc u) set x l f h =
      let out = f u (omega arith) in
      let p = settled_tries u (set + 2 ^ u) (taking u (get_or charges u 0) (get_or masks u 0) x) (omega arith) (λ i q. more_other set u out i (λ e. omega arith) ∙ f i (omega arith)) (tries_taking u set x (omega arith) out h) in
      let q = settled_tries u set x (omega arith) (λ i z. f i (omega arith)) h in
      rw (tries_first _ _ _ _ p q)
      (picked (ahead t m charges k (foremost (ahead t m charges k) u (set + 2 ^ u)) (foremost (ahead t m charges k) u set)) p q)
    where
      picked : (c : Bool) {a b : ℕ} {y z : Tried} → Tries t m charges k a y → Tries t m charges k b z → Tries t m charges k (pick c a b) (pick c y z)
      picked true p q = p
      picked false p q = q

  tries_none : Tries t m charges k 0 none
  tries_none =
      record {
        is = refl;
        costs = sym (weigh_none _ k);
        counts = sym (weigh_none _ k);
        turns = sym (weigh_none _ k);
        edges = mask_none (λ e z. let o = matched_say t 0 e k z.1 in never (sym o.holds.0 ∙ bit_zero o.at));
      }

  -- what is left once all views are settled belongs to the cheapest set
  pub settled_cheapest : (all : ℕ) (r : Tried) → all ≡ 2 ^ m - 1 → r ≡ settled masks charges all k none → Tries t m charges k (cheapest t m charges k) r
  unfolding cheapest
  settled_cheapest all r e q = rw (q, e) (settled_tries k 0 none (omega arith) (λ i _. bit_zero i) tries_none)
