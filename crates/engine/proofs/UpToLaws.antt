-- Laws of `up_to`, the values of a function at the numbers below n.
use mathlib.Core.Path.{◌≡◌, refl, ap, ap₂}
use mathlib.Core.Logic.{⊎_elim}
use mathlib.Core.List.{List, [], ◌∷◌, ◌++◌}
use Prim.Native.Nat.{ℕ, zero, suc, ◌<◌, zero-le, suc-le-suc}
use native.Mathlib.Nat.{le_of_suc-le-suc, not-suc-le-zero}
use lib.ListN.{length, get_or}
use Rattle.engine.specs.Lists.{In, here, there, each, up_to}
use Rattle.engine.specs.Masks.{OneOf}
use Rattle.engine.proofs.ListLaws.{not_in_none, in_cases}

module _ {A : Type 0} where
  pub length_up_to : (f : ℕ → A) (n : ℕ) → length (up_to f n) ≡ n
  unfolding up_to
  length_up_to f zero = refl
  length_up_to f (suc n) = ap suc (length_up_to (λ j. f (suc j)) n)

  pub get_d_up_to : (f : ℕ → A) (n i : ℕ) (d : A) → i < n → get_or (up_to f n) i d ≡ f i
  unfolding up_to
  get_d_up_to f zero i d h = absurd (not-suc-le-zero h)
  get_d_up_to f (suc n) zero d h = refl
  get_d_up_to f (suc n) (suc i) d h = get_d_up_to (λ j. f (suc j)) n i d (le_of_suc-le-suc h)

  pub in_up_to : (f : ℕ → A) (n i : ℕ) → i < n → In (f i) (up_to f n)
  unfolding up_to
  in_up_to f zero i h = absurd (not-suc-le-zero h)
  in_up_to f (suc n) zero h = here refl
  in_up_to f (suc n) (suc i) h = there (in_up_to (λ j. f (suc j)) n i (le_of_suc-le-suc h))

  pub up_to_in : (f : ℕ → A) (n : ℕ) {x : A} → In x (up_to f n) → OneOf n (λ i. x ≡ f i)
  unfolding up_to
  up_to_in f zero i = absurd (not_in_none i)
  up_to_in f (suc n) {x} i =
      ⊎_elim
      (λ e. record { at = 0; below = suc-le-suc zero-le; holds = e })
      (λ j. let r = up_to_in (λ k. f (suc k)) n {x = x} j in record { at = suc r.at; below = suc-le-suc r.below; holds = r.holds })
      (in_cases i)

  -- one number more
  pub up_to_more : (f : ℕ → A) (n : ℕ) → up_to f (suc n) ≡ up_to f n ++ (f n ∷ [])
  unfolding up_to
  up_to_more f zero = refl
  up_to_more f (suc n) = ap (λ (l : List A). f 0 ∷ l) (up_to_more (λ j. f (suc j)) n)

  pub up_to_same : (f g : ℕ → A) (n : ℕ) → ((i : ℕ) → i < n → f i ≡ g i) → up_to f n ≡ up_to g n
  unfolding up_to
  up_to_same f g zero h = refl
  up_to_same f g (suc n) h = ap₂ (λ (x : A) (l : List A). x ∷ l) (h 0 (suc-le-suc zero-le)) (up_to_same (λ j. f (suc j)) (λ j. g (suc j)) n (λ i l. h (suc i) (suc-le-suc l)))

-- a function of the values
pub each_up_to : {A B : Type 0} (g : A → B) (f : ℕ → A) (n : ℕ) → each g (up_to f n) ≡ up_to (λ j. g (f j)) n
unfolding each up_to
each_up_to g f zero = refl
each_up_to {B = B} g f (suc n) = ap (λ (l : List B). g (f 0) ∷ l) (each_up_to g (λ j. f (suc j)) n)
