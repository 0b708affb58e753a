-- What the call for the cheapest set answers, from the table of a quote.
use Prim.Native.Nat.{ℕ, ◌-◌, ◌^◌, ◌<◌, ◌≤◌}
use mathlib.Core.Path.{◌≡◌, refl, ◌∙◌}
use mathlib.Core.Bool.{true, false}
use mathlib.Core.List.{List, [], ◌∷◌}
use lib.ListN.{length}
use lib.Pow.{pow_mono}
use native.Mathlib.Omega.{arith}
use borrow.Author.Tests.{eq-eqb, ne_eqb}
use Rattle.packed.specs.Refusals.{Told, told}
use Rattle.packed.specs.Calls.{told_of, fronts, outputs_of, Fulfils}
use Rattle.packed.specs.declared.by_value.Pattern.{Pattern as Given}
use Rattle.packed.proofs.CallLaws.{refusal_answered}
use Rattle.containment.specs.Choice.{covers_in, columns_in, lowest_unmatched, chosen}
use Rattle.containment.specs.Quote.{table_of}
use Rattle.containment.specs.Cheapest.{cheapest, cheapest_from, cheapest_for}
use Rattle.containment.specs.Steps.{Query, ViewCounts, quoted_as}
use Rattle.containment.specs.Masked.{Masked}
use Rattle.containment.specs.Tries.{settled, best_of, Tries}
use Rattle.containment.specs.declared.costing.Tried.{Tried}
use Rattle.containment.proofs.ChoiceLaws.{pick_cases, chosen_small}
use Rattle.containment.proofs.ColumnLaws.{columns_agree, covers_same}
use Rattle.containment.proofs.CheapestLaws.{cheapest_small}
use Rattle.containment.proofs.TriesLaws.{none}
use Rattle.containment.proofs.BoundedLaws.{best_cheapest}
use Rattle.containment.proofs.AnswerLaws.{views_many}

module _ (t : List ℕ) (usable m : ℕ) (charges : List ℕ) (k : ℕ) where
  pub found_told : (x : Tried) (c : ℕ) → covers_in t usable k m ≡ true → Tries (columns_in usable t) m charges k (cheapest (columns_in usable t) m charges k) x → c ≡ chosen t usable m k
      → told 0 (x.set ∷ x.sum ∷ c ∷ []) ≡ told_of [] (cheapest_from t usable m charges k)
  unfolding cheapest_from told_of
  found_told x c h e q = rw (h, e.is, e.costs, q)

  pub lacking_told : (n : ℕ) → covers_in t usable k m ≡ false → n ≡ lowest_unmatched t usable k m → told 11 (n ∷ []) ≡ told_of [] (cheapest_from t usable m charges k)
  unfolding cheapest_from told_of
  lacking_told n h q = rw (h, q)

  -- what the search leaves belongs to the cheapest set
  pub found_cheapest : (masks : List ℕ) (all : ℕ) (r : Tried) → k ≤ 16 → covers_in t usable k m ≡ true → Masked (columns_in usable t) k m masks → all ≡ 2 ^ m - 1
      → r ≡ best_of all none (settled masks charges all k none) → Tries (columns_in usable t) m charges k (cheapest (columns_in usable t) m charges k) r
  found_cheapest masks all r few h each edges e =
      best_cheapest (columns_in usable t) m k masks each all edges charges usable r few (covers_same (columns_in usable t) t usable k m (columns_agree usable t k few m) usable (λ a i. i) ∙ h) e

  -- the sets fit 16 bits
  pub found_small : (x : Tried) → k ≤ 16 → Tries (columns_in usable t) m charges k (cheapest (columns_in usable t) m charges k) x → x.set < 65536
  found_small x l e = let s = cheapest_small (columns_in usable t) m charges k l in let p = pow_mono {j = 16} l in omega (arith, e.is)

  pub chosen_fits : k ≤ 16 → chosen t usable m k < 65536
  chosen_fits l = let s = chosen_small t usable m k in let p = pow_mono {j = 16} l in omega arith

  -- and nothing is written
  no_outputs : [] ≡ outputs_of (cheapest_from t usable m charges k) []
  unfolding cheapest_from outputs_of fronts
  no_outputs = pick_cases (λ a. [] ≡ outputs_of a []) (covers_in t usable k m) _ _ (λ _. refl) (λ _. refl)

module _ {q : Given} (t : Query q) {counts : List ℕ} {k : ℕ} (v : ViewCounts counts k) (usable : ℕ) (charges : List ℕ) where
  pub wrong_charges : {r : Told} → (length charges ≡ k → ⊥) → r ≡ told 15 (length charges ∷ []) → Fulfils [] (cheapest_for charges (quoted_as t v usable)) r [] []
  unfolding cheapest_for
  wrong_charges n h = refusal_answered [] (rw (views_many v.views v.one_way, ne_eqb (length charges) k n)) h

  pub cheapest_given : {table : List ℕ} {r : Told} → table ≡ table_of (quoted_as t v usable) → length charges ≡ k
      → r ≡ told_of [] (cheapest_from table usable q.edges charges k) → Fulfils [] (cheapest_for charges (quoted_as t v usable)) r [] []
  unfolding cheapest_for
  cheapest_given {table} e n h =
      let b = eq-eqb (length charges) k n in
      let a : cheapest_for charges (quoted_as t v usable) ≡ cheapest_from table usable q.edges charges k = rw (e, views_many v.views v.one_way, b, ← t.holds.edges) in
      record { result = rw a h; outputs = rw a (no_outputs table usable q.edges charges k) }
