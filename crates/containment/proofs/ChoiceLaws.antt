-- Coverage and the chosen views: what their definitions say.
use mathlib.Core.Path.{◌≡◌, refl, ap, sym, ◌∙◌}
use mathlib.Core.Bool.{Bool, true, false, ◌&&◌, or-true}
use mathlib.Core.List.{List}
use mathlib.Core.Logic.{⊎_elim, ◌↔◌}
use Prim.Native.Nat.{ℕ, zero, suc, ◌+◌, ◌-◌, ◌^◌, ◌<◌, ◌≤◌}
use native.Mathlib.Nat.{pow-suc}
use native.Mathlib.Omega.{arith}
use native.Mathlib.Numerals.{add-one}
use lib.Pow.{pow_pos}
use lib.Dec.{ltb}
use borrow.Author.Tests.{ltb-true, ltb-false}
use Rattle.packed.specs.Format.{pick}
use Rattle.packed.proofs.OrderCases.{lt_or_ge, trichotomy, or_cases, and_both, and_cases}
use Rattle.engine.specs.Simulation.{bit}
use Rattle.engine.specs.Masks.{OneOf}
use Rattle.containment.specs.Choice.{matches, matched_in, covers_in, lowest_unmatched, adds_to, taken, kept, chosen, used}
use Rattle.containment.proofs.SetBits.{test_cases, never, bit_lt, bit_over, bit_zero, more_self, more_has, more_other, less_self, less_say, less_by}

-- by the two cases of a test
pub pick_cases : {A : Type 0} (P : A → Type 0) (b : Bool) (x y : A) → (b ≡ true → P x) → (b ≡ false → P y) → P (pick b x y)
pick_cases P true x y f g = f refl
pick_cases P false x y f g = g refl

-- one of the first k views that are in the set matches the edge e
abbrev pub MatchedBy : List ℕ → ℕ → ℕ → ℕ → Type 0
MatchedBy t set e k = OneOf k (λ a. (bit set a ≡ true) × (matches t e a ≡ true))

module _ (t : List ℕ) where
  -- ---- coverage
  pub matched_say : (set e k : ℕ) → matched_in t set e k ≡ true → MatchedBy t set e k
  unfolding matched_in
  matched_say set e zero h = never (sym h)
  matched_say set e (suc k) h =
      ⊎_elim
      (λ p. let o = matched_say set e k p in let l = o.below in record { at = o.at; below = omega arith; holds = o.holds })
      (λ p. record { at = k; below = omega arith; holds = and_both _ _ p })
      (or_cases _ _ h)

  pub matched_by_lem : (set e k : ℕ) → MatchedBy t set e k → matched_in t set e k ≡ true
  unfolding matched_in
  matched_by_lem set e zero o = absurd (let l = o.below in omega arith)
  matched_by_lem set e (suc k) o =
      let l = o.below in
      ⊎_elim
      (λ (p : o.at < k). let i = matched_by_lem set e k (record { at = o.at; below = p; holds = o.holds }) in rw i)
      (λ (p : k ≤ o.at).
      let q : o.at ≡ k = omega arith in
      let h : bit set k ≡ true = rw q at o.holds.0 in
      let g : matches t e k ≡ true = rw q at o.holds.1 in
      rw (h, g) (or-true (matched_in t set e k)))
      (lt_or_ge o.at k)

  pub covers_say : (set k m : ℕ) → covers_in t set k m ≡ true → (e : ℕ) → e < m → MatchedBy t set e k
  unfolding covers_in
  covers_say set k zero h e l = absurd (omega arith)
  covers_say set k (suc m) h e l =
      let b = and_both _ _ h in
      ⊎_elim (λ p. covers_say set k m b.0 e p)
      (λ (p : m ≤ e). let q : m ≡ e = omega arith in matched_say set e k (rw q at b.1))
      (lt_or_ge e m)

  pub covers_by : (set k m : ℕ) → ((e : ℕ) → e < m → MatchedBy t set e k) → covers_in t set k m ≡ true
  unfolding covers_in
  covers_by set k zero h = refl
  covers_by set k (suc m) h =
      let i = covers_by set k m (λ e l. h e (omega arith)) in
      let j = matched_by_lem set m k (h m (omega arith)) in
      rw (i, j)

  -- the set covers exactly if each edge is matched by a view in it
  pub covers_exactly : (set k m : ℕ) → (covers_in t set k m ≡ true) ↔ ((e : ℕ) → e < m → MatchedBy t set e k)
  covers_exactly set k m = (covers_say set k m, covers_by set k m)

  -- a greater set covers what a smaller one does
  covers_more : (set more k m : ℕ) → ((a : ℕ) → bit set a ≡ true → bit more a ≡ true) → covers_in t set k m ≡ true → covers_in t more k m ≡ true
  covers_more set more k m f h =
      covers_by more k m (λ e l. let o = covers_say set k m h e l in record { at = o.at; below = o.below; holds = (f o.at o.holds.0, o.holds.1) })

  -- ---- sets that have the same of k views
  module _ (set set' : ℕ) where
    pub matched_alike : (k : ℕ) → ((a : ℕ) → a < k → bit set a ≡ bit set' a) → (e : ℕ) → matched_in t set e k ≡ matched_in t set' e k
    unfolding matched_in
    matched_alike zero f e = refl
    matched_alike (suc k) f e = rw (matched_alike k (λ a l. f a (omega arith)) e, f k (omega arith))

    module _ (k : ℕ) (f : (a : ℕ) → a < k → bit set a ≡ bit set' a) where
      pub covers_alike : (m : ℕ) → covers_in t set k m ≡ covers_in t set' k m
      unfolding covers_in
      covers_alike zero = refl
      covers_alike (suc m) = rw (covers_alike m, matched_alike k f m)

      pub lowest_alike : (m : ℕ) → lowest_unmatched t set k m ≡ lowest_unmatched t set' k m
      unfolding lowest_unmatched
      lowest_alike zero = refl
      lowest_alike (suc m) = rw (lowest_alike m, matched_alike k f m)

  -- ---- the views taken
  pub adds_by : (set a m e : ℕ) → e < m → matches t e a ≡ true → matched_in t set e a ≡ false → adds_to t set a m ≡ true
  unfolding adds_to
  adds_by set a zero e l h n = absurd (omega arith)
  adds_by set a (suc m) e l h n =
      ⊎_elim (λ p. let i = adds_by set a m e p h n in rw i)
      (λ (p : m ≤ e).
      let q : e ≡ m = omega arith in
      let f : matches t m a ≡ true = rw q at h in
      let g : matched_in t set m a ≡ false = rw q at n in
      rw (f, g) (or-true (adds_to t set a m)))
      (lt_or_ge e m)

  -- ---- from a set
  module _ (set m : ℕ) where
    -- whether the view a is taken
    abbrev takes : ℕ → Bool
    takes a = bit set a && adds_to t (taken t set m a) a m

    -- the views taken after a turn, by cases: with a, or as before
    taken_step : (P : ℕ → Type 0) (a : ℕ) → (takes a ≡ true → P (taken t set m a + 2 ^ a)) → (takes a ≡ false → P (taken t set m a)) → P (taken t set m (suc a))
    unfolding taken
    taken_step P a f g = pick_cases P (takes a) (taken t set m a + 2 ^ a) (taken t set m a) f g

    taken-small : (a : ℕ) → taken t set m a < 2 ^ a
    unfolding taken
    taken-small zero = omega arith
    taken-small (suc a) =
        let i = taken-small a in
        let p = pow-suc 2 a in
        taken_step (λ (x : ℕ). x < 2 ^ suc a) a (λ h. omega arith) (λ h. omega arith)

    -- all are of the set
    pub taken_within : (a b : ℕ) → bit (taken t set m a) b ≡ true → bit set b ≡ true
    unfolding taken
    taken_within zero b h = never (sym h ∙ bit_zero b)
    taken_within (suc a) b h =
        taken_step (λ (x : ℕ). bit x b ≡ true → bit set b ≡ true) a
        (λ d i.
        let from : (a ≡ b → ⊥) → bit set b ≡ true = λ n. taken_within a b (sym (more_other (taken t set m a) a (bit_over _ a (taken-small a)) b n) ∙ i) in
        trichotomy a b (λ l. from (λ e. omega arith)) (λ e. sym (ap (bit set) e) ∙ (and_both (bit set a) _ d).0) (λ l. from (λ e. omega arith)))
        (λ _. taken_within a b) h

    -- a turn: the view a is taken, or left
    pub taken_adds : (a first : ℕ) → first ≡ taken t set m a → (bit set a && adds_to t first a m) ≡ true → first + 2 ^ a ≡ taken t set m (a + 1)
    unfolding taken
    taken_adds a first e h = let g = rw e at h in rw (e, add-one a, g)

    pub taken_skips : (a first : ℕ) → first ≡ taken t set m a → (bit set a && adds_to t first a m) ≡ false → first ≡ taken t set m (a + 1)
    unfolding taken
    taken_skips a first e h = let g = rw e at h in rw (e, add-one a, g)

    taken_more : (a b : ℕ) → bit (taken t set m a) b ≡ true → bit (taken t set m (suc a)) b ≡ true
    taken_more a b h = taken_step (λ (x : ℕ). bit x b ≡ true) a (λ _. more_has (taken t set m a) a (bit_over _ a (taken-small a)) b h) (λ _. h)

    taken-added : (a : ℕ) → bit set a ≡ true → adds_to t (taken t set m a) a m ≡ true → bit (taken t set m (suc a)) a ≡ true
    unfolding taken
    taken-added a s h = rw (s, h) (more_self (taken t set m a) a (bit_over _ a (taken-small a)))

    -- an edge matched by the taken views stays matched
    taken-still : (k e : ℕ) → matched_in t (taken t set m k) e k ≡ true → MatchedBy t (taken t set m (suc k)) e (suc k)
    taken-still k e h =
        let o = matched_say (taken t set m k) e k h in
        let l = o.below in
        record { at = o.at; below = omega arith; holds = (taken_more k o.at o.holds.0, o.holds.1) }

    -- an edge matched by a view of the set is matched by a taken view
    taken-matches : (k e a : ℕ) → e < m → a < k → bit set a ≡ true → matches t e a ≡ true → matched_in t (taken t set m k) e k ≡ true
    taken-matches zero e a l p s h = absurd (omega arith)
    taken-matches (suc k) e a l p s h =
        matched_by_lem (taken t set m (suc k)) e (suc k)
        (⊎_elim (λ (q : a < k). taken-still k e (taken-matches k e a l q s h))
        (λ (q : k ≤ a).
        let z : a ≡ k = omega arith in
        let f : bit set k ≡ true = rw z at s in
        let g : matches t e k ≡ true = rw z at h in
        ⊎_elim (taken-still k e)
        (λ n. record { at = k; below = omega arith; holds = (taken-added k f (adds_by (taken t set m k) k m e l g n), g) })
        (test_cases (matched_in t (taken t set m k) e k)))
        (lt_or_ge a k))

    taken-covers : (k : ℕ) → covers_in t set k m ≡ true → covers_in t (taken t set m k) k m ≡ true
    taken-covers k h =
        covers_by (taken t set m k) k m
        (λ e l. let o = covers_say set k m h e l in matched_say (taken t set m k) e k (taken-matches k e o.at l o.below o.holds.0 o.holds.1))

  -- ---- the views kept
  module _ (m k set : ℕ) where
    -- whether the view a is dropped
    abbrev drops : ℕ → Bool
    drops a = bit (kept t m k set a) a && covers_in t (kept t m k set a - 2 ^ a) k m

    -- the set after a turn, by cases: without a, or as before
    kept_step : (P : ℕ → Type 0) (a : ℕ) → (drops a ≡ true → P (kept t m k set a - 2 ^ a)) → (drops a ≡ false → P (kept t m k set a)) → P (kept t m k set (suc a))
    unfolding kept
    kept_step P a f g = pick_cases P (drops a) (kept t m k set a - 2 ^ a) (kept t m k set a) f g

    pub kept_le : (a : ℕ) → kept t m k set a ≤ set
    unfolding kept
    kept_le zero = omega arith
    kept_le (suc a) = let i = kept_le a in kept_step (λ (x : ℕ). x ≤ set) a (λ _. omega arith) (λ _. i)

    -- a turn: the view a is dropped, was not in the set, or is needed
    module _ (a r : ℕ) (e : r ≡ kept t m k set a) where
      pub turn_drops : (two : ℕ) → two ≡ 2 ^ a → bit r a ≡ true → covers_in t (r - two) k m ≡ true → r - two ≡ kept t m k set (a + 1)
      unfolding kept
      turn_drops two p h g = let h' = rw e at h in let g' = rw (p, e) at g in rw (p, e, add-one a, h', g')

      pub turn_lacks : bit r a ≡ false → r ≡ kept t m k set (a + 1)
      unfolding kept
      turn_lacks h = let h' = rw e at h in rw (e, add-one a, h')

      pub turn_needs : (two : ℕ) → two ≡ 2 ^ a → bit r a ≡ true → covers_in t (r - two) k m ≡ false → r ≡ kept t m k set (a + 1)
      unfolding kept
      turn_needs two p h g = let h' = rw e at h in let g' = rw (p, e) at g in rw (e, add-one a, h', g')

    kept-covers : covers_in t set k m ≡ true → (a : ℕ) → covers_in t (kept t m k set a) k m ≡ true
    unfolding kept
    kept-covers h zero = h
    kept-covers h (suc a) = kept_step (λ (x : ℕ). covers_in t x k m ≡ true) a (λ d. (and_both (bit (kept t m k set a) a) _ d).1) (λ _. kept-covers h a)

    kept-part : (a b : ℕ) → bit (kept t m k set (suc a)) b ≡ true → bit (kept t m k set a) b ≡ true
    kept-part a b =
        kept_step (λ (x : ℕ). bit x b ≡ true → bit (kept t m k set a) b ≡ true) a
        (λ d h. (less_say (kept t m k set a) a (and_both _ _ d).0 b h).0) (λ _ h. h)

    pub kept_later : (a c b : ℕ) → a ≤ c → bit (kept t m k set c) b ≡ true → bit (kept t m k set a) b ≡ true
    kept_later a zero b l h = let q : zero ≡ a = omega arith in rw q at h
    kept_later a (suc c) b l h =
        ⊎_elim (λ (p : a < suc c). kept_later a c b (omega arith) (kept-part c b h))
        (λ (p : suc c ≤ a). let q : suc c ≡ a = omega arith in rw q at h)
        (lt_or_ge a (suc c))

    -- a view that its own turn keeps can't be spared then
    kept-held : (a : ℕ) → bit (kept t m k set (suc a)) a ≡ true → (bit (kept t m k set a) a ≡ true) × (covers_in t (kept t m k set a - 2 ^ a) k m ≡ false)
    kept-held a =
        kept_step (λ (x : ℕ). bit x a ≡ true → (bit (kept t m k set a) a ≡ true) × (covers_in t (kept t m k set a - 2 ^ a) k m ≡ false)) a
        (λ d h. never (sym h ∙ less_self (kept t m k set a) a (and_both _ _ d).0))
        (λ d h. (h, ⊎_elim (λ n. never (sym h ∙ n)) (λ n. n) (and_cases _ _ d)))

    -- and not after the later turns
    kept-needed : (c a : ℕ) → a < c → bit (kept t m k set c) a ≡ true → covers_in t (kept t m k set c - 2 ^ a) k m ≡ false
    kept-needed c a l h =
        let held = kept-held a (kept_later (suc a) c a l h) in
        let part : (b : ℕ) → bit (kept t m k set c - 2 ^ a) b ≡ true → bit (kept t m k set a - 2 ^ a) b ≡ true =
        λ b i. (let s = less_say (kept t m k set c) a h b i in less_by (kept t m k set a) a held.0 b (kept_later a c b (omega arith) s.0) s.1) in
        ⊎_elim (λ y. never (sym (covers_more (kept t m k set c - 2 ^ a) (kept t m k set a - 2 ^ a) k m part y) ∙ held.1)) (λ n. n)
        (test_cases (covers_in t (kept t m k set c - 2 ^ a) k m))

  -- ---- the chosen views
  module _ (set m k : ℕ) where
    chosen-covered : covers_in t set k m ≡ true → chosen t set m k ≡ kept t m k (taken t set m k) k
    unfolding chosen
    chosen-covered h = rw h

    -- in two passes
    pub chosen_by : (first r : ℕ) → covers_in t set k m ≡ true → first ≡ taken t set m k → r ≡ kept t m k first k → r ≡ chosen t set m k
    chosen_by first r h p q = let c = chosen-covered h in let q' = rw p at q in cc

    -- none from a set that doesn't cover the query
    pub chosen_none : covers_in t set k m ≡ false → chosen t set m k ≡ 0
    unfolding chosen
    chosen_none h = rw h

    -- they are among the k views
    pub chosen_small : chosen t set m k < 2 ^ k
    unfolding chosen
    chosen_small =
        let l = kept_le m k (taken t set m k) k in
        let s = taken-small set m k in
        let p = pow_pos k in
        pick_cases (λ (x : ℕ). x < 2 ^ k) (covers_in t set k m) (kept t m k (taken t set m k) k) 0 (λ _. omega arith) (λ _. p)

    -- and all of the set
    pub chosen_within : (a : ℕ) → bit (chosen t set m k) a ≡ true → bit set a ≡ true
    unfolding kept
    chosen_within a h =
        ⊎_elim
        (λ y. taken_within set m k a (kept_later m k (taken t set m k) 0 k a (omega arith) (rw (chosen-covered y) at h)))
        (λ n. never (sym h ∙ ap (λ (x : ℕ). bit x a) (chosen_none n) ∙ bit_zero a))
        (test_cases (covers_in t set k m))

    -- they cover a query that the set covers
    pub chosen_covers : covers_in t set k m ≡ true → covers_in t (chosen t set m k) k m ≡ true
    chosen_covers h = rw (chosen-covered h) (kept-covers m k (taken t set m k) (taken-covers set m k h) k)

    -- and none of them can be dropped
    pub chosen_needed : (a : ℕ) → bit (chosen t set m k) a ≡ true → covers_in t (chosen t set m k - 2 ^ a) k m ≡ false
    chosen_needed a h =
        ⊎_elim
        (λ y. let e = chosen-covered y in rw e (kept-needed m k (taken t set m k) k a (bit_lt (chosen t set m k) a k h chosen_small) (rw e at h)))
        (λ n. never (sym h ∙ ap (λ (x : ℕ). bit x a) (chosen_none n) ∙ bit_zero a))
        (test_cases (covers_in t set k m))

    -- ---- the views that answer
    pub used_covered : covers_in t set k m ≡ true → used t set m k ≡ chosen t set m k
    unfolding used
    used_covered h = rw h

    pub used_uncovered : covers_in t set k m ≡ false → used t set m k ≡ set
    unfolding used
    used_uncovered h = rw h

-- ---- the lowest unmatched edge
-- r is the lowest of m edges that no view of the set matches, or m
pub record Lowest (t : List ℕ) (set k m r : ℕ) : Type 0 where
  pub within : r ≤ m
  pub lower : (e : ℕ) → e < r → matched_in t set e k ≡ true
  pub here : r < m → matched_in t set r k ≡ false

module _ (t : List ℕ) (set k : ℕ) where
  pub lowest_is : (m : ℕ) → Lowest t set k m (lowest_unmatched t set k m)
  unfolding lowest_unmatched
  lowest_is zero = record { within = omega arith; lower = λ e l. absurd (omega arith); here = λ l. absurd (omega arith) }
  lowest_is (suc m) = step (lowest_unmatched t set k m) (lowest_is m)
    where
      step : (r : ℕ) → Lowest t set k m r → Lowest t set k (suc m) (pick (ltb r m) r (pick (matched_in t set m k) (suc m) m))
      step r i =
          let w = i.within in
          pick_cases (Lowest t set k (suc m)) (ltb r m) r (pick (matched_in t set m k) (suc m) m)
          (λ h. let l = ltb-true r m h in record { within = omega arith; lower = i.lower; here = λ _. i.here l })
          (λ h.
          let l = ltb-false r m h in
          let q : r ≡ m = omega arith in
          let lower : (e : ℕ) → e < m → matched_in t set e k ≡ true = λ e p. i.lower e (omega arith) in
          pick_cases (Lowest t set k (suc m)) (matched_in t set m k) (suc m) m
          (λ y. record {
            within = omega arith;
            lower = λ e p. ⊎_elim (lower e) (λ (g : m ≤ e). let s : e ≡ m = omega arith in rw s y) (lt_or_ge e m);
            here = λ p. absurd (omega arith);
          })
          (λ n. record { within = omega arith; lower = lower; here = λ _. n }))

  not_below : (m r s : ℕ) → Lowest t set k m r → Lowest t set k m s → r < s → ⊥
  not_below m r s f g l = let w = g.within in never (sym (g.lower r l) ∙ f.here (omega arith))

  pub lowest_by : (m r : ℕ) → Lowest t set k m r → r ≡ lowest_unmatched t set k m
  lowest_by m r f =
      let i = lowest_is m in
      trichotomy r (lowest_unmatched t set k m) (λ l. absurd (not_below m _ _ f i l)) (λ e. e) (λ l. absurd (not_below m _ _ i f l))

  -- one is unmatched exactly if the set doesn't cover the query
  pub lowest_below : (m : ℕ) → (lowest_unmatched t set k m < m) ↔ (covers_in t set k m ≡ false)
  lowest_below m =
      let i = lowest_is m in
      let w = i.within in (
        λ l. ⊎_elim (λ y. never (sym (matched_by_lem t set _ k (covers_say t set k m y _ l)) ∙ i.here l)) (λ n. n) (test_cases (covers_in t set k m)),
        λ n. ⊎_elim (λ l. l)
            (λ (g : m ≤ lowest_unmatched t set k m). never (sym (covers_by t set k m (λ e l. matched_say t set e k (i.lower e (omega arith)))) ∙ n))
            (lt_or_ge (lowest_unmatched t set k m) m),
      )

  pub lowest_whole : (m : ℕ) → covers_in t set k m ≡ true → m ≡ lowest_unmatched t set k m
  lowest_whole m y =
      let i = (lowest_is m).within in
      ⊎_elim (λ (l : lowest_unmatched t set k m < m). never (sym y ∙ (lowest_below m).0 l)) (λ (g : m ≤ lowest_unmatched t set k m). omega arith) (lt_or_ge (lowest_unmatched t set k m) m)

  module _ (m : ℕ) {r : ℕ} (e : r ≡ lowest_unmatched t set k m) where
    pub lowest_leaves : r < m → covers_in t set k m ≡ false
    lowest_leaves l = (lowest_below m).0 (omega (arith, e))

    pub lowest_covers : m ≤ r → covers_in t set k m ≡ true
    lowest_covers h = ⊎_elim (λ y. y) (λ n. absurd (let l = (lowest_below m).1 n in omega (arith, e))) (test_cases (covers_in t set k m))

-- the views that answer leave unmatched what the set leaves
pub lowest_used : (t : List ℕ) (set k m : ℕ) → lowest_unmatched t (used t set m k) k m ≡ lowest_unmatched t set k m
lowest_used t set k m =
    ⊎_elim
    (λ y.
    let c : covers_in t (used t set m k) k m ≡ true = rw (used_covered t set m k y) (chosen_covers t set m k y) in
    sym (lowest_whole t (used t set m k) k m c) ∙ lowest_whole t set k m y)
    (λ n. ap (λ (s : ℕ). lowest_unmatched t s k m) (used_uncovered t set m k n))
    (test_cases (covers_in t set k m))
