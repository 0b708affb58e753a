-- The three laws of `greatest`: it is a part, it supports itself, and it holds every part that supports itself.
use mathlib.Core.Bool.{Bool}
use mathlib.Core.List.{List, [], ◌∷◌}
use Prim.Native.Nat.{ℕ, zero, suc, ◌≤◌}
use native.Mathlib.Nat.{le_refl, not-suc-le-zero}
use native.Mathlib.Omega.{arith}
use lib.ListN.{length}
use lib.Dec.{T}
use Rattle.engine.specs.Lists.{In, every, keep}
use Rattle.engine.specs.Greatest.{settle, greatest}
use Rattle.engine.proofs.ListLaws.{cond_case, not_in_none, every_in, in_every, keep_in, in_keep, keep_shorter}

module _ {A : Type 0} (ok : List A → A → Bool) where
  settle_part : (n : ℕ) (l : List A) (x : A) → In x (settle ok n l) → In x l
  unfolding settle
  settle_part zero l x = λ i. i
  settle_part (suc n) l x =
      cond_case (λ k. In x k → In x l) (every (ok l) l) l (settle ok n (keep (ok l) l))
      (λ t i. i)
      (λ t i. (keep_in (ok l) l (settle_part n (keep (ok l) l) x i)).0)

  settle_ok : (n : ℕ) (l : List A) → length l ≤ n → T (every (ok (settle ok n l)) (settle ok n l))
  unfolding settle
  settle_ok zero [] h = in_every _ [] λ x i. absurd (not_in_none i)
  settle_ok zero (x ∷ l) h = absurd (not-suc-le-zero h)
  settle_ok (suc n) l h =
      cond_case (λ k. T (every (ok k) k)) (every (ok l) l) l (settle ok n (keep (ok l) l))
      (λ t. t)
      (λ t. settle_ok n (keep (ok l) l) (omega (arith, keep_shorter (ok l) l t)))

  -- S supports itself: some list that has every of S supports each of S
  abbrev pub Closed : (A → Type 0) → Type 0
  Closed S = (l : List A) → ((x : A) → S x → In x l) → (x : A) → S x → T (ok l x)

  settle_all : (S : A → Type 0) → Closed S → (n : ℕ) (l : List A) → ((x : A) → S x → In x l) → (x : A) → S x → In x (settle ok n l)
  unfolding settle
  settle_all S c zero l f x s = f x s
  settle_all S c (suc n) l f x s =
      cond_case (λ k. In x k) (every (ok l) l) l (settle ok n (keep (ok l) l))
      (λ t. f x s)
      (λ t. settle_all S c n (keep (ok l) l) (λ y r. in_keep (ok l) (f y r) (c l f y r)) x s)

  pub greatest_part : (l : List A) (x : A) → In x (greatest ok l) → In x l
  unfolding greatest
  greatest_part l x i = settle_part (length l) l x i

  pub greatest_ok : (l : List A) (x : A) → In x (greatest ok l) → T (ok (greatest ok l) x)
  unfolding greatest
  greatest_ok l x i = every_in (ok (greatest ok l)) (settle_ok (length l) l (le_refl (length l))) i

  pub greatest_all : (S : A → Type 0) → Closed S → (l : List A) → ((x : A) → S x → In x l) → (x : A) → S x → In x (greatest ok l)
  unfolding greatest
  greatest_all S c l f x s = settle_all S c (length l) l f x s
