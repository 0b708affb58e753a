-- Terms: what is judged of them, which views are in force, and that coverage begins on a from-day only, so that the first day on which a query is
-- covered is the given day or a from-day.
use Prim.Native.Nat.{ℕ, zero, suc, ◌+◌, ◌^◌, ◌<◌, ◌≤◌}
use mathlib.Core.Path.{◌≡◌, refl, sym, ap, subst, ◌∙◌}
use mathlib.Core.Bool.{Bool, true, false, ◌&&◌}
use mathlib.Core.Logic.{◌⊎◌, inl, inr, ⊎_elim, ◌↔◌}
use mathlib.Core.List.{List, [], ◌∷◌}
use lib.ListN.{length}
use lib.Dec.{ltb, leb}
use native.Mathlib.Nat.{pow-suc}
use native.Mathlib.Numerals.{add-one}
use native.Mathlib.Omega.{arith}
use borrow.Author.Tests.{ltb-true, ltb-false, lt-ltb, le-ltb, leb-true, le-leb, lt-leb, eq-eqb, ne_eqb}
use Rattle.std.specs.Prelude.{Option, None}
use Rattle.packed.specs.Format.{pick}
use Rattle.packed.specs.Contents.{edges_of}
use Rattle.packed.specs.Calls.{Outcome, give, refuse, told_of, fronts, outputs_of, Fulfils, accepted, rejected, judged}
use Rattle.packed.specs.Refusals.{told}
use Rattle.packed.proofs.CallLaws.{judged_accepted}
use Rattle.packed.proofs.OrderCases.{lt_or_ge, eq_or_ne, trichotomy, and_both}
use Rattle.engine.specs.Simulation.{bit}
use Rattle.engine.specs.Masks.{OneOf}
use Rattle.matching.specs.Offered.{Brought, offers, view_patterns, judge_set, with_set}
use Rattle.matching.proofs.OfferedLaws.{judged_rejected}
use Rattle.containment.specs.Choice.{covers_in}
use Rattle.containment.specs.Quote.{Quoted, quoted, quoted_in, table_of}
use Rattle.containment.specs.Steps.{Query, Views, ViewCounts, quoted_as}
use Rattle.containment.specs.Terms.{InForce, from_day, to_day, first_turned, judge_terms, is_in_force, in_force, judge_day, usable_for, offered_for, quoted_for, sooner, earliest, day_values, first_day_for}
use Rattle.containment.specs.declared.terms.Terms.{Terms}
use Rattle.packed.specs.declared.by_value.Pattern.{Pattern as Given}
use Rattle.containment.proofs.SetBits.{test_cases, never, bit_over, more_self, more_other}
use Rattle.containment.proofs.ChoiceLaws.{pick_cases, covers_say, covers_by}
use Rattle.containment.proofs.NotingLaws.{views_many as contents-many}
use Rattle.containment.proofs.AnswerLaws.{views_many}

-- ---- the first entry that is turned round
-- r is the first of k entries whose from-day isn't below its to-day, or k
pub record Turned (t : Terms) (k r : ℕ) : Type 0 where
  pub within : r ≤ k
  pub lower : (a : ℕ) → a < r → from_day t a < to_day t a
  pub here : r < k → from_day t r < to_day t r → ⊥

module _ (t : Terms) where
  pub turned_is : (k : ℕ) → Turned t k (first_turned t k)
  unfolding first_turned
  turned_is zero = record { within = omega arith; lower = λ a l. absurd (omega arith); here = λ l. absurd (omega arith) }
  turned_is (suc k) = step (first_turned t k) (turned_is k)
    where
      step : (r : ℕ) → Turned t k r → Turned t (suc k) (pick (ltb r k) r (pick (ltb (from_day t k) (to_day t k)) (suc k) k))
      step r i =
          let w = i.within in
          pick_cases (Turned t (suc k)) (ltb r k) r (pick (ltb (from_day t k) (to_day t k)) (suc k) k)
          (λ h. let l = ltb-true r k h in record { within = omega arith; lower = i.lower; here = λ _. i.here l })
          (λ h.
          let l = ltb-false r k h in
          let lower : (a : ℕ) → a < k → from_day t a < to_day t a = λ a p. i.lower a (omega arith) in
          pick_cases (Turned t (suc k)) (ltb (from_day t k) (to_day t k)) (suc k) k
          (λ y. record {
            within = omega arith;
            lower = λ a p. ⊎_elim (lower a) (λ (g : k ≤ a). let s : k ≡ a = omega arith in subst (λ (b : ℕ). from_day t b < to_day t b) s (ltb-true _ _ y)) (lt_or_ge a k);
            here = λ p. absurd (omega arith);
          })
          (λ n. record { within = omega arith; lower = lower; here = λ _ z. let g = ltb-false (from_day t k) (to_day t k) n in omega arith }))

  not_below : (k r s : ℕ) → Turned t k r → Turned t k s → r < s → ⊥
  not_below k r s f g l = let w = g.within in f.here (omega arith) (g.lower r l)

  pub turned_by : (k r : ℕ) → Turned t k r → r ≡ first_turned t k
  turned_by k r f =
      let i = turned_is k in
      trichotomy r (first_turned t k) (λ l. absurd (not_below k _ _ f i l)) (λ e. e) (λ l. absurd (not_below k _ _ i f l))

-- ---- what is judged
module _ (t : Terms) (k : ℕ) where
  pub terms_number : (t.number ≡ k → ⊥) → judge_terms t k ≡ rejected 18 t.number
  unfolding judge_terms
  terms_number n = rw (ne_eqb t.number k n)

  pub terms_turned : t.number ≡ k → first_turned t k < k → judge_terms t k ≡ rejected 18 (first_turned t k)
  unfolding judge_terms
  terms_turned e l = rw (eq-eqb t.number k e, lt-ltb (first_turned t k) k l)

  pub terms_right : t.number ≡ k → k ≤ first_turned t k → judge_terms t k ≡ accepted []
  unfolding judge_terms
  terms_right e l = rw (eq-eqb t.number k e, le-ltb (first_turned t k) k l)

-- what is handed on beside k accepted views, for a day or for none, or refused
module _ (qs : List ℕ) (c : Brought) (day : Option (Terms × ℕ)) {k : ℕ} (v : Views c.file k) where
  pub terms_refused : {n d : ℕ} → judge_day day k ≡ rejected n d → (f : Quoted → Outcome) → offered_for day qs c f ≡ refuse n d
  terms_refused e f = judged_accepted _ v.is ∙ judged_rejected _ (ap (judge_day day) (contents-many v) ∙ e)

  module _ (right : judge_day day k ≡ accepted []) where
    to_set : (f : Quoted → Outcome) → offered_for day qs c f ≡ with_set c.one_way v.content (λ o. f (quoted_in (usable_for day (length (view_patterns o))) qs o))
    to_set f = judged_accepted _ v.is ∙ judged_accepted _ (ap (judge_day day) (contents-many v) ∙ right)

    pub set_refused : {n d : ℕ} → judge_set c.one_way k ≡ rejected n d → (f : Quoted → Outcome) → offered_for day qs c f ≡ refuse n d
    set_refused e f = to_set f ∙ judged_rejected _ (ap (judge_set c.one_way) (contents-many v) ∙ e)

    pub terms_handed : judge_set c.one_way k ≡ accepted []
        → (f : Quoted → Outcome) → offered_for day qs c f ≡ f (quoted_in (usable_for day k) qs (offers v.content c.one_way))
    terms_handed e f =
        to_set f ∙ judged_accepted _ (ap (judge_set c.one_way) (contents-many v) ∙ e)
        ∙ ap (λ (n : ℕ). f (quoted_in (usable_for day n) qs (offers v.content c.one_way))) (views_many v c.one_way)

-- for no day every view may be used
pub quoted_none : (q : List ℕ) (c : Brought) (f : Quoted → Outcome) → quoted q c f ≡ quoted_for None q c f
unfolding judged
quoted_none q c f = refl

-- ---- the views in force
-- one number more: its bit, and the bits below
add_small : (s k : ℕ) (b : Bool) → s < 2 ^ k → s + pick b (2 ^ k) 0 < 2 ^ suc k
add_small s k true l = let p = pow-suc 2 k in omega arith
add_small s k false l = let p = pow-suc 2 k in omega arith

add_top : (s k : ℕ) (b : Bool) → s < 2 ^ k → bit (s + pick b (2 ^ k) 0) k ≡ b
add_top s k true l = more_self s k (bit_over s k l)
add_top s k false l = bit_over (s + 0) k (omega arith)

add_low : (s k a : ℕ) (b : Bool) → s < 2 ^ k → a < k → bit (s + pick b (2 ^ k) 0) a ≡ bit s a
add_low s k a true l h = more_other s k (bit_over s k l) a (λ e. omega arith)
add_low s k a false l h = ap (λ (x : ℕ). bit x a) (omega arith)

module _ (t : Terms) (day : ℕ) where
  pub force_say : (a : ℕ) → is_in_force (from_day t a) (to_day t a) day ≡ true → InForce t day a
  unfolding is_in_force
  force_say a h = let b = and_both _ _ h in (leb-true (from_day t a) day b.0, ltb-true day (to_day t a) b.1)

  pub force_by : (a : ℕ) → InForce t day a → is_in_force (from_day t a) (to_day t a) day ≡ true
  unfolding is_in_force
  force_by a f = rw (le-leb (from_day t a) day f.0, lt-ltb day (to_day t a) f.1)

  pub force_small : (k : ℕ) → in_force t day k < 2 ^ k
  unfolding in_force
  force_small zero = omega arith
  force_small (suc k) = add_small (in_force t day k) k (is_in_force (from_day t k) (to_day t k) day) (force_small k)

  -- the set has the numbers below k that are in force, and no others
  pub force_bit : (k a : ℕ) → a < k → bit (in_force t day k) a ≡ is_in_force (from_day t a) (to_day t a) day
  unfolding in_force
  force_bit zero a l = absurd (omega arith)
  force_bit (suc k) a l =
      ⊎_elim
      (λ (h : a < k). add_low (in_force t day k) k a (is_in_force (from_day t k) (to_day t k) day) (force_small k) h ∙ force_bit k a h)
      (λ (h : k ≤ a).
      let q : k ≡ a = omega arith in
      subst (λ (x : ℕ). bit (in_force t day k + pick (is_in_force (from_day t k) (to_day t k) day) (2 ^ k) 0) x ≡ is_in_force (from_day t x) (to_day t x) day) q
      (add_top (in_force t day k) k (is_in_force (from_day t k) (to_day t k) day) (force_small k)))
      (lt_or_ge a k)

  pub force_exactly : (k a : ℕ) → a < k → (bit (in_force t day k) a ≡ true) ↔ InForce t day a
  force_exactly k a l = (λ h. force_say a (sym (force_bit k a l) ∙ h), λ f. force_bit k a l ∙ force_by a f)

  -- a turn: the view a is in force, or not
  pub force_adds : (a s : ℕ) → s ≡ in_force t day a → is_in_force (from_day t a) (to_day t a) day ≡ true → s + 2 ^ a ≡ in_force t day (a + 1)
  unfolding in_force
  force_adds a s e h = rw (e, add-one a, h)

  pub force_skips : (a s : ℕ) → s ≡ in_force t day a → is_in_force (from_day t a) (to_day t a) day ≡ false → s ≡ in_force t day (a + 1)
  unfolding in_force
  force_skips a s e h = rw (e, add-one a, h) (omega arith)

-- ---- when coverage begins
module _ (T : Terms) (t : List ℕ) (k m : ℕ) where
  -- the views in force on the day, of k, cover m edges
  abbrev pub CoveredOn : ℕ → Type 0
  CoveredOn day = covers_in t (in_force T day k) k m ≡ true

  abbrev pub FromDay : ℕ → Type 0
  FromDay x = OneOf k (λ a. from_day T a ≡ x)

  -- on a from-day only
  covered_before : (day : ℕ) → (FromDay (suc day) → ⊥) → CoveredOn (suc day) → CoveredOn day
  covered_before day n c =
      covers_by t (in_force T day k) k m
      (λ e l.
      let o = covers_say t (in_force T (suc day) k) k m c e l in
      let f = (force_exactly T (suc day) k o.at o.below).0 o.holds.0 in
      let x = f.0 in
      let y = f.1 in
      let earlier : from_day T o.at ≤ day =
      ⊎_elim (λ q. absurd (n (record { at = o.at; below = o.below; holds = q }))) (λ q. let z = q in omega arith) (eq_or_ne (from_day T o.at) (suc day)) in
      record { at = o.at; below = o.below; holds = ((force_exactly T day k o.at o.below).1 (earlier, omega arith), o.holds.1) })

  from_day_lem : (j x : ℕ) → OneOf j (λ a. from_day T a ≡ x) ⊎ (OneOf j (λ a. from_day T a ≡ x) → ⊥)
  from_day_lem zero x = inr (λ o. let l = o.below in omega arith)
  from_day_lem (suc j) x =
      ⊎_elim (λ o. inl (let l = o.below in record { at = o.at; below = omega arith; holds = o.holds }))
      (λ n. ⊎_elim (λ q. inl (record { at = j; below = omega arith; holds = q }))
      (λ q. inr (λ o. let l = o.below in ⊎_elim (λ (h : o.at < j). n (record { at = o.at; below = h; holds = o.holds }))
      (λ (h : j ≤ o.at). let e : o.at ≡ j = omega arith in q (subst (λ (z : ℕ). from_day T z ≡ x) e o.holds)) (lt_or_ge o.at j)))
      (eq_or_ne (from_day T j) x))
      (from_day_lem j x)

  -- a from-day after the given day, not after the day found, on which the query is covered
  pub record Begins (day found : ℕ) : Type 0 where
    pub at : ℕ
    pub below : at < k
    pub after : day < from_day T at
    pub upto : from_day T at ≤ found
    pub covered : CoveredOn (from_day T at)

  -- a query that is covered on some day not before the given one is so on the given day or on a from-day not after that day
  pub covered_begins : (more day : ℕ) → CoveredOn (more + day) → CoveredOn day ⊎ Begins day (more + day)
  covered_begins zero day c = inl (subst CoveredOn (omega arith) c)
  covered_begins (suc more) day c =
      let q : suc more + day ≡ suc (more + day) = omega arith in
      let c' = subst CoveredOn q c in
      ⊎_elim
      (λ o. inr (let h = o.holds in record { at = o.at; below = o.below; after = omega arith; upto = omega arith; covered = subst CoveredOn (sym h) c' }))
      (λ n. ⊎_elim (λ i. inl i) (λ b. inr (let u = b.upto in record { at = b.at; below = b.below; after = b.after; upto = omega arith; covered = b.covered }))
      (covered_begins more day (covered_before (more + day) n c')))
      (from_day_lem k (suc (more + day)))

-- ---- the first of the days that are tried
left_out : (b : Bool) (x y : ℕ) → pick (b && false) x y ≡ y
left_out true x y = refl
left_out false x y = refl

left_out_too : (a b : Bool) (x y : ℕ) → pick (a && (b && false)) x y ≡ y
left_out_too true b x y = left_out b x y
left_out_too false b x y = refl

module _ (covered : ℕ → Bool) (T : Terms) (day : ℕ) where
  -- r is the day after the last, or a day on which the test holds, not before the given one
  abbrev Fair : ℕ → Type 0
  Fair r = (r ≡ 65536) ⊎ ((day ≤ r) × (r < 65536) × (covered r ≡ true))

  -- the day d, if it can be, else the one found
  pub sooner_takes : (d r : ℕ) → day ≤ d → d < r → covered d ≡ true → sooner covered day d r ≡ d
  unfolding sooner
  sooner_takes d r l h y = rw (le-leb day d l, lt-ltb d r h, y)

  pub sooner_leaves : (d r : ℕ) → (d < day) ⊎ ((r ≤ d) ⊎ (covered d ≡ false)) → sooner covered day d r ≡ r
  unfolding sooner
  sooner_leaves d r (inl l) = rw (lt-leb day d l)
  sooner_leaves d r (inr (inl l)) = rw (le-ltb d r l) (left_out (leb day d) d r)
  sooner_leaves d r (inr (inr n)) = rw n (left_out_too (leb day d) (ltb d r) d r)

  sooner_by : (P : ℕ → Type 0) (d r : ℕ) → (day ≤ d → d < r → covered d ≡ true → P d) → P r → P (sooner covered day d r)
  sooner_by P d r f p =
      ⊎_elim (λ (l : d < day). subst P (sym (sooner_leaves d r (inl l))) p)
      (λ (l : day ≤ d). ⊎_elim (λ (h : d < r). ⊎_elim (λ y. subst P (sym (sooner_takes d r l h y)) (f l h y)) (λ n. subst P (sym (sooner_leaves d r (inr (inr n)))) p) (test_cases (covered d)))
      (λ (h : r ≤ d). subst P (sym (sooner_leaves d r (inr (inl h)))) p) (lt_or_ge d r))
      (lt_or_ge d day)

  -- it is not after the day found, nor after d, if the test holds on d
  sooner_upto : (d r : ℕ) → (sooner covered day d r ≤ r) × (day ≤ d → covered d ≡ true → sooner covered day d r ≤ d)
  sooner_upto d r =
      ⊎_elim (λ (l : d < day). let e = sooner_leaves d r (inl l) in (omega arith, λ l' y. absurd (omega arith)))
      (λ (l : day ≤ d). ⊎_elim (λ (h : d < r). ⊎_elim (λ y. let e = sooner_takes d r l h y in (omega arith, λ _ _. omega arith)) (λ n. let e = sooner_leaves d r (inr (inr n)) in (omega arith, λ _ y. never (sym y ∙ n))) (test_cases (covered d)))
      (λ (h : r ≤ d). let e = sooner_leaves d r (inr (inl h)) in (omega arith, λ _ _. omega arith)) (lt_or_ge d r))
      (lt_or_ge d day)

  pub earliest_fair : (k : ℕ)
      → (earliest covered T day k ≡ 65536) ⊎ ((day ≤ earliest covered T day k) × (earliest covered T day k < 65536) × (covered (earliest covered T day k) ≡ true))
  unfolding earliest
  earliest_fair zero = sooner_by Fair day 65536 (λ _ h y. inr (omega arith, h, y)) (inl refl)
  earliest_fair (suc k) =
      let f = earliest_fair k in
      sooner_by Fair (from_day T k) (earliest covered T day k)
      (λ h l y. inr (h, ⊎_elim (λ e. omega arith) (λ (x : (day ≤ earliest covered T day k) × (earliest covered T day k < 65536) × (covered (earliest covered T day k) ≡ true)). let z = x.1 in omega arith) f, y)) f

  pub earliest_given : (k : ℕ) → covered day ≡ true → earliest covered T day k ≤ day
  unfolding earliest
  earliest_given zero y = (sooner_upto day 65536).1 (omega arith) y
  earliest_given (suc k) y = let i = earliest_given k y in let u = (sooner_upto (from_day T k) (earliest covered T day k)).0 in omega arith

  pub earliest_from : (k a : ℕ) → a < k → day ≤ from_day T a → covered (from_day T a) ≡ true → earliest covered T day k ≤ from_day T a
  unfolding earliest
  earliest_from zero a l h y = absurd (omega arith)
  earliest_from (suc k) a l h y =
      let u = sooner_upto (from_day T k) (earliest covered T day k) in
      ⊎_elim (λ (b : a < k). let i = earliest_from k a b h y in let v = u.0 in omega arith)
      (λ (b : k ≤ a). let e : k ≡ a = omega arith in let s = ap (from_day T) e in let v = u.1 (omega arith) (ap covered s ∙ y) in omega arith)
      (lt_or_ge a k)

-- ---- what the call for the first day answers
module _ {q : Given} (x : Query q) {counts : List ℕ} {k : ℕ} (v : ViewCounts counts k) (usable : ℕ) {table : List ℕ} (is : table ≡ table_of (quoted_as x v usable)) (T : Terms) (day : ℕ)
    {d : ℕ} (found : d ≡ earliest (λ i. covers_in table (in_force T i k) k q.edges) T day k) where
  first_day_is : first_day_for T day (quoted_as x v usable) ≡ give (day_values d) []
  unfolding first_day_for
  first_day_is =
      ap (λ (y : ℕ). give (day_values y) [])
      (sym
      (found
      ∙ ap (λ (t : List ℕ). earliest (λ i. covers_in t (in_force T i k) k q.edges) T day k) is
      ∙ ap (λ (m : ℕ). earliest (λ i. covers_in (table_of (quoted_as x v usable)) (in_force T i k) k m) T day k) x.holds.edges
      ∙ ap (λ (n : ℕ). earliest (λ i. covers_in (table_of (quoted_as x v usable)) (in_force T i n) n (edges_of x.content)) T day n) (sym (views_many v.views v.one_way))))

  pub day_told : d < 65536 → Fulfils [] (first_day_for T day (quoted_as x v usable)) (told 0 (1 ∷ d ∷ [])) [] []
  unfolding day_values told_of outputs_of fronts
  day_told l = rw (first_day_is, lt-ltb d 65536 l) (record { result = refl; outputs = refl })

  pub never_told : 65536 ≤ d → Fulfils [] (first_day_for T day (quoted_as x v usable)) (told 0 (0 ∷ 0 ∷ [])) [] []
  unfolding day_values told_of outputs_of fronts
  never_told l = rw (first_day_is, le-ltb d 65536 l) (record { result = refl; outputs = refl })
