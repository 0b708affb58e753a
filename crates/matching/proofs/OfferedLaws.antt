-- A catalogue with the set of those of its views that are matched one-way: its views one by one, and what is judged of the set.
use Prim.Native.Nat.{ℕ, zero, suc, ◌<◌, ◌≤◌}
use mathlib.Core.Path.{◌≡◌, refl, sym, ap, subst, ◌∙◌}
use mathlib.Core.Bool.{Bool, true, false, not, cond, ◌&&◌}
use mathlib.Core.Logic.{◌⊎◌, inl, inr, ⊎_elim}
use mathlib.Core.List.{List, []}
use lib.ListN.{length, get_or}
use lib.Dec.{T, leb, ltb}
use native.Mathlib.Omega.{arith}
use borrow.Author.Tests.{ltb-true, ltb-false, lt-ltb, le-ltb, leb-true, leb-false}
use Rattle.packed.specs.Format.{pick}
use Rattle.packed.specs.Contents.{views_of}
use Rattle.packed.specs.Plain.{PlainPattern}
use Rattle.packed.specs.Calls.{Outcome, refuse, Verdict, accepted, rejected, judged, read_catalogue}
use Rattle.packed.specs.Accepting.{Held, HoldsViews}
use Rattle.packed.proofs.AcceptedBounds.{catalogue_views}
use Rattle.packed.proofs.CallLaws.{judged_accepted}
use Rattle.packed.proofs.OrderCases.{lt_or_ge, trichotomy}
use Rattle.engine.specs.Lists.{In, up_to}
use Rattle.engine.specs.Simulation.{bit, one_way, both_ways, Pattern, Graph, view_sheet, sound}
use Rattle.engine.specs.Masks.{Has, OneOf}
use Rattle.engine.specs.Matched.{rule_of}
use Rattle.matching.specs.Offered.{Brought, brings, Offered, offers, rule_in, view_at, view_patterns, first_stray, judge_set, RightSet, WrongSet, offered, OfferTaken}
use Rattle.matching.specs.Search.{view_sheets}
use Rattle.engine.proofs.ListLaws.{in_at}
use Rattle.engine.proofs.UpToLaws.{length_up_to, get_d_up_to, up_to_in, each_up_to}
use Rattle.engine.proofs.ViewLaws.{all_ahead, in_follow}
use Rattle.matching.proofs.PatternLaws.{sound_of}

-- ---- the views
module _ (o : Offered) where
  pub views_number : length (view_patterns o) ≡ length (views_of o.content)
  unfolding view_patterns
  views_number = length_up_to (view_at o) (length (views_of o.content))

  pub view_is : (a : ℕ) (d : Pattern) → a < length (views_of o.content) → get_or (view_patterns o) a d ≡ view_at o a
  unfolding view_patterns
  view_is a d h = get_d_up_to (view_at o) (length (views_of o.content)) a d h

  pub view_of_lem : {P : Pattern} → In P (view_patterns o) → OneOf (length (views_of o.content)) (λ a. P ≡ view_at o a)
  unfolding view_patterns
  view_of_lem i = up_to_in (view_at o) (length (views_of o.content)) i

  -- their sheets
  pub sheets_are : (G : Graph) → view_sheets o G ≡ up_to (λ a. view_sheet (view_at o a) G) (length (views_of o.content))
  unfolding view_sheets view_patterns
  sheets_are G = each_up_to (λ P. view_sheet P G) (view_at o) (length (views_of o.content))

-- those of an accepted catalogue
module _ (c cs : List ℕ) (e : read_catalogue c ≡ accepted cs) (a : ℕ) (h : a < length (views_of cs)) where
  pub view_plain : (body : List Bool) × PlainPattern (get_or (views_of cs) a []) body
  view_plain = in_follow (all_ahead c cs e).follow (in_at (views_of cs) a [] h)

  pub view_sound : (set : ℕ) → T (sound (view_at (offers cs set) a))
  unfolding sound
  view_sound set = sound_of view_plain.1

-- ---- what is judged right or wrong: it is accepted, or the number falls to it with a detail
pub record Judges (number : ℕ) (v : Verdict) (Right : Type 0) (Wrong : ℕ → Type 0) : Type 0 where
  pub either : Right ⊎ ((d : ℕ) × Wrong d)
  pub right : Right → v ≡ accepted []
  pub wrong : (d : ℕ) → Wrong d → v ≡ rejected number d

never_both : {ws : List ℕ} {n d : ℕ} → accepted ws ≡ rejected n d → ⊥
never_both e = let z : ◌≡◌ {A = ℕ} 0 1 = cc in omega arith

same_number : {m n d e : ℕ} → rejected m d ≡ rejected n e → n ≡ m
same_number e = cc

module _ {number : ℕ} {v : Verdict} {Right : Type 0} {Wrong : ℕ → Type 0} (j : Judges number v Right Wrong) where
  pub not_both : (d : ℕ) → Right → Wrong d → ⊥
  not_both d r w = never_both (sym (j.right r) ∙ j.wrong d w)

  pub judged_right : {ws : List ℕ} → v ≡ accepted ws → Right
  judged_right e = ⊎_elim (λ r. r) (λ x. absurd (never_both (sym e ∙ j.wrong x.0 x.1))) j.either

  pub judged_wrong : {n d : ℕ} → v ≡ rejected n d → n ≡ number
  judged_wrong e = ⊎_elim (λ r. absurd (never_both (sym (j.right r) ∙ e))) (λ x. same_number (sym (j.wrong x.0 x.1) ∙ e)) j.either

-- ---- the lowest number that is no view
-- r is the lowest number below n that is in the set and not below k, or n
pub record Stray (set k n r : ℕ) : Type 0 where
  pub within : r ≤ n
  pub lower : (a : ℕ) → a < r → Has set a → a < k
  pub here : r < n → Has set r × (k ≤ r)

module _ (set k : ℕ) where
  stray_step : (n r : ℕ) → Stray set k n r → (s l b : Bool) → ltb r n ≡ s → leb k n ≡ l → bit set n ≡ b → Stray set k (suc n) (pick s r (pick (l && b) n (suc n)))
  stray_step n r i true l b p q e = record { within = omega (arith, i.within); lower = i.lower; here = λ _. i.here (ltb-true r n p) }
  stray_step n r i false true true p q e =
      record { within = omega arith; lower = λ a h. i.lower a (omega (arith, ltb-false r n p)); here = λ _. (subst T (sym e) tt, leb-true k n q) }
  stray_step n r i false true false p q e =
      record {
        within = omega arith;
        lower = λ a h t. ⊎_elim (λ (m : a < n). i.lower a (omega (arith, ltb-false r n p)) t) (λ (m : n ≤ a). let z : a ≡ n = omega arith in absurd (subst T (ap (bit set) z ∙ e) t)) (lt_or_ge a n);
        here = λ h. absurd (omega arith);
      }
  stray_step n r i false false b p q e =
      record { within = omega arith; lower = λ a h t. omega (arith, leb-false k n q); here = λ h. absurd (omega arith) }

  pub stray_is : (n : ℕ) → Stray set k n (first_stray set k n)
  unfolding first_stray
  stray_is zero = record { within = omega arith; lower = λ a h. absurd (omega arith); here = λ h. absurd (omega arith) }
  stray_is (suc n) = stray_step n (first_stray set k n) (stray_is n) _ _ _ refl refl refl

  not_lower : (n r s : ℕ) → Stray set k n r → Stray set k n s → r < s → ⊥
  not_lower n r s f g l = let h = f.here (omega (arith, g.within)) in omega (arith, g.lower r l h.0, h.1)

  pub stray_by : (n r : ℕ) → Stray set k n r → r ≡ first_stray set k n
  stray_by n r f =
      let i = stray_is n in
      trichotomy r (first_stray set k n) (λ l. absurd (not_lower n _ _ f i l)) (λ e. e) (λ l. absurd (not_lower n _ _ i f l))

  -- ---- what is judged
  pub set_stray : first_stray set k 16 < 16 → judge_set set k ≡ rejected 19 (first_stray set k 16)
  unfolding judge_set
  set_stray l = rw (lt-ltb (first_stray set k 16) 16 l)

  pub set_named : 16 ≤ first_stray set k 16 → judge_set set k ≡ accepted []
  unfolding judge_set
  set_named l = rw (le-ltb (first_stray set k 16) 16 l)

  -- it is right, or 19 falls to it
  pub set_judges : Judges 19 (judge_set set k) (RightSet set k) (WrongSet set k)
  set_judges =
      let r = first_stray set k 16 in
      let i = stray_is 16 in
      record {
        either = ⊎_elim
            (λ (l : r < 16). inr (r, record { below = l; named = (i.here l).0; beyond = (i.here l).1; before = i.lower }))
            (λ (l : 16 ≤ r). inl (λ a h. i.lower a (omega arith)))
            (lt_or_ge r 16);
        right = λ f. set_named (⊎_elim (λ (l : r < 16). let h = i.here l in absurd (omega (arith, f r l h.0, h.1))) (λ l. l) (lt_or_ge r 16));
        wrong = λ d x.
            let e : d ≡ r = stray_by 16 d (record { within = omega (arith, x.below); lower = x.before; here = λ _. (x.named, x.beyond) }) in
            set_stray (omega (arith, x.below)) ∙ ap (rejected 19) (sym e);
      }

-- ---- what is handed on, or refused
pub judged_rejected : {v : Verdict} {n d : ℕ} (k : List ℕ → Outcome) → v ≡ rejected n d → judged v k ≡ refuse n d
unfolding judged
judged_rejected k e = rw e

pub offered_on : {c : Brought} {k : ℕ} {counts : List ℕ} (t : OfferTaken c k counts) (f : Offered → Outcome) → offered c f ≡ f (offers t.fields c.one_way)
offered_on t f = judged_accepted _ t.is ∙ judged_accepted _ t.named

-- the catalogue was accepted, and the set is judged beside its views
module _ (c : List ℕ) {k n : ℕ} {counts w : List ℕ} (q : Held (λ ws. HoldsViews ws k counts) (read_catalogue c) n w) (set : ℕ) where
  beside : judge_set set (length (views_of q.fields)) ≡ judge_set set k
  beside = ap (judge_set set) ((catalogue_views c q.fields q.is).many ∙ sym q.holds.number)

  pub set_refused : {m d : ℕ} → judge_set set k ≡ rejected m d → (f : Offered → Outcome) → offered (brings c set) f ≡ refuse m d
  set_refused e f = judged_accepted _ q.is ∙ judged_rejected _ (beside ∙ e)

  pub set_taken : judge_set set k ≡ accepted [] → OfferTaken (brings c set) k counts
  set_taken e = record { fields = q.fields; is = q.is; holds = q.holds; named = beside ∙ e }

-- ---- the rule by which the code is asked to match the view a
pub rule_by : (set a : ℕ) {b : Bool} → b ≡ bit set a → rule_of (not b) ≡ rule_in set a
unfolding rule_in
rule_by set a {b} e = turned b ∙ ap (λ (t : Bool). cond t one_way both_ways) e
  where
    turned : (t : Bool) → rule_of (not t) ≡ cond t one_way both_ways
    turned true = refl
    turned false = refl
