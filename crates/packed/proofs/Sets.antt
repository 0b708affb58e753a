-- Laws of `sets`: a run of stores, of which those beyond the end of the list are dropped.
use Prim.Native.Nat.{ℕ, suc, ◌+◌, ◌<◌, ◌≤◌}
use mathlib.Core.Path.{◌≡◌, refl, ap, sym, ◌∙◌}
use mathlib.Core.List.{List, [], ◌∷◌, ◌++◌, append_assoc}
use lib.ListN.{length, take, drop, set, length-set, length-append, take-append-drop}
use lib.Seq.{sets, sets-eq, set_out, set_comm, set-append_left, take-set-le, drop-set-add, take_at, drop_at}
use native.Mathlib.Nat.{zero-add, add-zero, add-suc}
use native.Mathlib.Omega.{arith}

module _ {ℓ} {A : Type ℓ} where
  -- two runs, one after the other
  pub sets_append : (l : List A) (i : ℕ) (a b : List A) → sets (sets l i a) (i + length a) b ≡ sets l i (a ++ b)
  sets_append l i [] b = ap (λ (k : ℕ). sets l k b) (add-zero i)
  sets_append l i (x ∷ a) b =
      let e : i + suc (length a) ≡ suc i + length a = omega arith in
      ap (λ (k : ℕ). sets (sets (set l i x) (suc i) a) k b) e ∙ sets_append (set l i x) (suc i) a b

  pub sets_beyond : (l : List A) (i : ℕ) (vs : List A) → length l ≤ i → sets l i vs ≡ l
  sets_beyond l i [] h = refl
  sets_beyond l i (v ∷ vs) h = sets_beyond (set l i v) (suc i) vs (omega (arith, length-set l i v)) ∙ set_out l i v h

  pub sets_front : (l vs : List A) → length vs ≤ length l → sets l 0 vs ≡ vs ++ drop (length vs) l
  sets_front l vs h = sets-eq vs l 0 (omega arith) ∙ ap (λ (k : ℕ). vs ++ drop k l) (zero-add (length vs))

  -- a run that starts behind the first k leaves these alone
  pub sets_drop : (l : List A) (k i : ℕ) (vs : List A) → k ≤ length l → sets l (k + i) vs ≡ take k l ++ sets (drop k l) i vs
  sets_drop l k i [] h = sym (take-append-drop k l)
  sets_drop l k i (v ∷ vs) h =
      let e : take k (set l (k + i) v) ≡ take k l = take-set-le k l (k + i) v (omega arith) in
      ap (λ (j : ℕ). sets (set l (k + i) v) j vs) (sym (add-suc k i))
      ∙ sets_drop (set l (k + i) v) k (suc i) vs (omega (arith, length-set l (k + i) v))
      ∙ rw (e, drop-set-add k l i v)

  -- a run that ends within the first of two lists
  pub sets_left : (l r : List A) (i : ℕ) (vs : List A) → i + length vs ≤ length l → sets (l ++ r) i vs ≡ sets l i vs ++ r
  sets_left l r i [] h = refl
  sets_left l r i (v ∷ vs) h =
      ap (λ (t : List A). sets t (suc i) vs) (set-append_left l r i v (omega arith))
      ∙ sets_left (set l i v) r (suc i) vs (omega (arith, length-set l i v))

  -- a run in the place of one as long
  pub sets_at : (p a b c : List A) (i : ℕ) → length p ≡ i → length c ≡ length a → sets (p ++ (a ++ b)) i c ≡ p ++ (c ++ b)
  sets_at p a b c i e f =
      sets-eq c (p ++ (a ++ b)) i (omega (arith, length-append p (a ++ b), length-append a b))
      ∙ rw (take_at p (a ++ b) i e, ← append_assoc p a b, drop_at (p ++ a) b (i + length c) (omega (arith, length-append p a)), append_assoc p c b)

  -- a run that ends before another one starts may be stored after it
  set_before : (l : List A) (i : ℕ) (v : A) (j : ℕ) (b : List A) → i < j → set (sets l j b) i v ≡ sets (set l i v) j b
  set_before l i v j [] h = refl
  set_before l i v j (y ∷ b) h =
      set_before (set l j y) i v (suc j) b (omega arith) ∙ ap (λ (t : List A). sets t (suc j) b) (set_comm l j i y v (λ e. omega arith))

  pub sets_swap : (l : List A) (i : ℕ) (a : List A) (j : ℕ) (b : List A) → i + length a ≤ j → sets (sets l j b) i a ≡ sets (sets l i a) j b
  sets_swap l i [] j b h = refl
  sets_swap l i (x ∷ a) j b h = ap (λ (t : List A). sets t (suc i) a) (set_before l i x j b (omega arith)) ∙ sets_swap (set l i x) (suc i) a j b (omega arith)
