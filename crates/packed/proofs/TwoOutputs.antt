-- What a call with two outputs answers, by what fits.
use Prim.Native.Nat.{ℕ, ◌<◌, ◌≤◌}
use mathlib.Core.Path.{◌≡◌, ◌∙◌}
use mathlib.Core.Bool.{false}
use mathlib.Core.List.{List, [], ◌∷◌}
use lib.ListN.{length}
use lib.Seq.{sets}
use lib.Dec.{ltb}
use native.Mathlib.Omega.{arith}
use borrow.Author.Tests.{lt-ltb, le-ltb}
use Rattle.packed.specs.Refusals.{told}
use Rattle.packed.specs.Calls.{told_of, fronts, outputs_of, Fulfils, fit_both}
use Rattle.packed.proofs.Sets.{sets_front}

module _ (first second A B : List ℕ) {a : ℕ} (na : a ≡ length A) where
  -- the first doesn't fit
  pub first_tight : {first' second' : List ℕ} → length first < a → first' ≡ first → second' ≡ second
      → Fulfils [] (fit_both (length first) (length second) A B) (told 12 (a ∷ [])) (first ∷ second ∷ []) (first' ∷ second' ∷ [])
  unfolding fit_both told_of outputs_of
  first_tight h p q = let e = lt-ltb (length first) (length A) (omega (arith, na)) in record { result = rw (e, na); outputs = rw (e, p, q) }

  fits_first : a ≤ length first → ltb (length first) (length A) ≡ false
  fits_first fits = le-ltb (length first) (length A) (omega (arith, na))

  module _ {b : ℕ} (nb : b ≡ length B) (fits : a ≤ length first) where
    -- the second doesn't fit
    pub second_tight : {first' second' : List ℕ} → length second < b → first' ≡ first → second' ≡ second
        → Fulfils [] (fit_both (length first) (length second) A B) (told 12 (b ∷ [])) (first ∷ second ∷ []) (first' ∷ second' ∷ [])
    unfolding fit_both told_of outputs_of
    second_tight h p q =
        let d = fits_first fits in
        let e = lt-ltb (length second) (length B) (omega (arith, nb)) in
        record { result = rw (d, e, nb); outputs = rw (d, e, p, q) }

    -- both are given
    pub both_given : {first' second' : List ℕ} → b ≤ length second → first' ≡ sets first 0 A → second' ≡ sets second 0 B
        → Fulfils [] (fit_both (length first) (length second) A B) (told 0 (a ∷ b ∷ [])) (first ∷ second ∷ []) (first' ∷ second' ∷ [])
    unfolding fit_both told_of outputs_of fronts
    both_given h p q =
        let d = fits_first fits in
        let e = le-ltb (length second) (length B) (omega (arith, nb)) in
        let x = p ∙ sets_front first A (omega (arith, na)) in
        let y = q ∙ sets_front second B (omega (arith, nb)) in
        record { result = rw (d, e, na, nb); outputs = rw (d, e, x, y) }
