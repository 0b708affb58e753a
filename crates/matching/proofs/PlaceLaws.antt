-- The members of a list whose positions pass a test, and the number that each of these positions has among them.
use mathlib.Core.Path.{◌≡◌, refl, sym, ap, ap₂, subst, ◌∙◌}
use mathlib.Core.Logic.{⊎_elim}
use mathlib.Core.Bool.{Bool, true, false}
use mathlib.Core.List.{List, [], ◌∷◌, ◌++◌}
use Prim.Native.Nat.{ℕ, zero, suc, ◌+◌, ◌≤◌, ◌<◌}
use native.Mathlib.Nat.{le_of_suc-le-suc, not-suc-le-zero, zero-add}
use native.Mathlib.Numerals.{one-add}
use native.Mathlib.Omega.{arith}
use lib.ListN.{length, get_or}
use lib.Dec.{T}
use Rattle.packed.specs.Bits.{one}
use Rattle.packed.proofs.OrderCases.{lt_or_ge}
use Rattle.engine.specs.Lists.{put, keep, each}
use Rattle.matching.specs.Part.{rank, at_places}
use Rattle.engine.proofs.ListLaws.{put_all}

pub one_of : (b : Bool) → T b → one b ≡ 1
one_of true h = refl
one_of false h = absurd h

one_most : (b : Bool) → one b ≤ 1
one_most true = omega arith
one_most false = omega arith

length_put : {A : Type 0} (b : Bool) (x : A) (l : List A) → length (put b x l) ≡ one b + length l
length_put true x l = omega arith
length_put false x l = omega arith

-- one number more
pub rank_more : (t : ℕ → Bool) (v : ℕ) → rank t (suc v) ≡ rank t v + one (t v)
unfolding rank
rank_more t zero = omega arith
rank_more t (suc v) = omega (arith, rank_more (λ i. t (suc i)) v)

pub rank_most : (t : ℕ → Bool) (v : ℕ) → rank t v ≤ v
unfolding rank
rank_most t zero = omega arith
rank_most t (suc v) = omega (arith, one_most (t 0), rank_most (λ i. t (suc i)) v)

pub rank_same : (t s : ℕ → Bool) (v : ℕ) → ((i : ℕ) → i < v → t i ≡ s i) → rank t v ≡ rank s v
unfolding rank
rank_same t s zero h = refl
rank_same t s (suc v) h = ap₂ (λ b n. one b + n) (h 0 (omega arith)) (rank_same (λ i. t (suc i)) (λ i. s (suc i)) v λ i l. h (suc i) (omega arith))

pub rank_rises : (t : ℕ → Bool) (v w : ℕ) → T (t v) → v < w → rank t v < rank t w
unfolding rank
rank_rises t v zero p h = absurd (not-suc-le-zero h)
rank_rises t zero (suc w) p h = omega (arith, one_of (t 0) p)
rank_rises t (suc v) (suc w) p h = omega (arith, rank_rises (λ i. t (suc i)) v w p (le_of_suc-le-suc h))

pub rank_apart : (t : ℕ → Bool) (v w : ℕ) → T (t v) → T (t w) → rank t v ≡ rank t w → v ≡ w
rank_apart t v w p q e =
    ⊎_elim
    (λ h. absurd (omega (arith, rank_rises t v w p h)))
    (λ n. ⊎_elim (λ h. absurd (omega (arith, rank_rises t w v q h))) (λ m. omega arith) (lt_or_ge w v))
    (lt_or_ge v w)

-- where all pass, each has its own number
pub rank_all : (t : ℕ → Bool) (v : ℕ) → ((w : ℕ) → w < v → T (t w)) → rank t v ≡ v
unfolding rank
rank_all t zero h = refl
rank_all t (suc v) h = omega (arith, one_of (t 0) (h 0 (omega arith)), rank_all (λ i. t (suc i)) v λ w k. h (suc w) (omega arith))

module _ {A : Type 0} where
  pub places_length : (t : ℕ → Bool) (l : List A) → length (at_places t l) ≡ rank t (length l)
  unfolding rank at_places
  places_length t [] = refl
  places_length t (x ∷ l) = length_put (t 0) x _ ∙ ap (λ n. one (t 0) + n) (places_length (λ i. t (suc i)) l)

  pub rank_below : (t : ℕ → Bool) (l : List A) (v : ℕ) → T (t v) → v < length l → rank t v < length (at_places t l)
  rank_below t l v p h = subst (λ n. rank t v < n) (sym (places_length t l)) (rank_rises t v (length l) p h)

  pub places_fewer : (t : ℕ → Bool) (l : List A) → length (at_places t l) ≤ length l
  unfolding at_places
  places_fewer t [] = omega arith
  places_fewer t (x ∷ l) = omega (arith, length_put (t 0) x (at_places (λ i. t (suc i)) l), one_most (t 0), places_fewer (λ i. t (suc i)) l)

  pub places_same : (t s : ℕ → Bool) (l : List A) → ((i : ℕ) → i < length l → t i ≡ s i) → at_places t l ≡ at_places s l
  unfolding at_places
  places_same t s [] h = refl
  places_same t s (x ∷ l) h = ap₂ (λ b m. put b x m) (h 0 (omega arith)) (places_same (λ i. t (suc i)) (λ i. s (suc i)) l λ i k. h (suc i) (omega arith))

  -- one member more
  put_append : (b : Bool) (x : A) (l m : List A) → put b x (l ++ m) ≡ put b x l ++ m
  put_append true x l m = refl
  put_append false x l m = refl

  pub places_more : (t : ℕ → Bool) (l : List A) (x : A) → at_places t (l ++ (x ∷ [])) ≡ at_places t l ++ put (t (length l)) x []
  unfolding at_places
  places_more t [] x = refl
  places_more t (y ∷ l) x = ap (put (t 0) y) (places_more (λ i. t (suc i)) l x) ∙ put_append (t 0) y _ _

  put_past : (b : Bool) (x : A) (l : List A) (i : ℕ) (d : A) → get_or (put b x l) (one b + i) d ≡ get_or l i d
  put_past true x l i d = ap (λ j. get_or (x ∷ l) j d) (one-add i)
  put_past false x l i d = ap (λ j. get_or l j d) (zero-add i)

  pub places_at : (t : ℕ → Bool) (l : List A) (v : ℕ) (d : A) → T (t v) → v < length l → get_or (at_places t l) (rank t v) d ≡ get_or l v d
  unfolding rank at_places
  places_at t [] v d p h = absurd (not-suc-le-zero h)
  places_at t (x ∷ l) zero d p h = ap (λ m. get_or m 0 d) (put_all (t 0) x _ p)
  places_at t (x ∷ l) (suc v) d p h = put_past (t 0) x _ _ d ∙ places_at (λ i. t (suc i)) l v d p (le_of_suc-le-suc h)

  -- each position among them is the number of one that passes
  pub places_from : (t : ℕ → Bool) (l : List A) (u : ℕ) → u < length (at_places t l) → (v : ℕ) × (v < length l) × T (t v) × (rank t v ≡ u)
  unfolding rank at_places
  places_from t [] u h = absurd (not-suc-le-zero h)
  places_from t (x ∷ l) u h = step (λ w k. places_from (λ i. t (suc i)) l w k) (t 0) refl u h
    where
      step : ((w : ℕ) → w < length (at_places (λ i. t (suc i)) l) → (v : ℕ) × (v < length l) × T (t (suc v)) × (rank (λ i. t (suc i)) v ≡ w))
          → (b : Bool) → t 0 ≡ b → (w : ℕ) → w < length (put b x (at_places (λ i. t (suc i)) l)) → (v : ℕ) × (v < suc (length l)) × T (t v) × (rank t v ≡ w)
      step more true q zero k = (0, omega arith, subst T (sym q) tt, refl)
      step more true q (suc w) k = let r = more w (le_of_suc-le-suc k) in (suc r.0, omega (arith, r.1), r.2, ap (λ b. one b + rank (λ i. t (suc i)) r.0) q ∙ one-add _ ∙ ap suc r.3)
      step more false q w k = let r = more w k in (suc r.0, omega (arith, r.1), r.2, ap (λ b. one b + rank (λ i. t (suc i)) r.0) q ∙ zero-add _ ∙ r.3)

  -- where all pass, nothing is left out
  pub places_all : (t : ℕ → Bool) (l : List A) → ((w : ℕ) → w < length l → T (t w)) → at_places t l ≡ l
  unfolding at_places
  places_all t [] h = refl
  places_all t (x ∷ l) h = put_all (t 0) x _ (h 0 (omega arith)) ∙ ap (λ m. x ∷ m) (places_all (λ i. t (suc i)) l λ w k. h (suc w) (omega arith))

  -- what a test of members keeps, by position
  pub keep_places : (p : A → Bool) (l : List A) (d : A) → keep p l ≡ at_places (λ i. p (get_or l i d)) l
  unfolding keep at_places
  keep_places p [] d = refl
  keep_places p (x ∷ l) d = ap (put (p x) x) (keep_places p l d)

pub places_each : {A B : Type 0} (g : A → B) (t : ℕ → Bool) (l : List A) → at_places t (each g l) ≡ each g (at_places t l)
unfolding at_places each
places_each g t [] = refl
places_each g t (x ∷ l) = ap (put (t 0) (g x)) (places_each g (λ i. t (suc i)) l) ∙ step (t 0) (at_places (λ i. t (suc i)) l)
  where
    step : (b : Bool) (c : List _) → put b (g x) (each g c) ≡ each g (put b x c)
    step true c = refl
    step false c = refl
