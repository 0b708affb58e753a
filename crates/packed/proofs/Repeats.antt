-- Repeats among the words of a list of numbers: what the repeat check says of the list.
use mathlib.Core.Path.{◌≡◌, refl, ap, ap₂, ◌∙◌, sym}
use mathlib.Core.Bool.{Bool, true, false, not, ◌&&◌, ◌||◌, or-false, or_assoc}
use mathlib.Core.Logic.{⊎_elim}
use mathlib.Core.List.{List, [], ◌∷◌, ◌++◌}
use Prim.Native.Nat.{ℕ, zero, suc, ◌≤◌, ◌<◌}
use native.Mathlib.Omega.{arith}
use lib.Dec.{eqb, ltb}
use lib.ListN.{length, take, get_or}
use lib.Seq.{take-suc, take-length}
use borrow.Author.Tests.{eqb-true, eqb-false, lt-ltb, le-ltb, not-true, not-false}
use Rattle.packed.specs.Order.{occurrences, word, Repeats, TellsRepeat, all_different}
use Rattle.packed.specs.Contents.{member}
use Rattle.packed.proofs.OrderCases.{eq_or_ne, eqb_sym, or_cases, or_neither, and_both, and_cases}
use Rattle.packed.proofs.Places.{times_hit, times_miss, times_le}

-- ---- one more number at the end
pub member_snoc : (z : ℕ) (xs : List ℕ) (x : ℕ) → member z (xs ++ (x ∷ [])) ≡ (member z xs || eqb x z)
unfolding member
member_snoc z [] x = or-false (eqb x z)
member_snoc z (y ∷ ys) x = ap (λ b. eqb y z || b) (member_snoc z ys x) ∙ sym (or_assoc (eqb y z) (member z ys) (eqb x z))

regroup : (a b c d : Bool) → (not (a || b) && (c && not d)) ≡ ((not a && c) && not (b || d))
regroup true b c d = refl
regroup false true true d = refl
regroup false true false d = refl
regroup false false c d = refl

pub different_snoc : (xs : List ℕ) (x : ℕ) → all_different (xs ++ (x ∷ [])) ≡ (all_different xs && not (member x xs))
unfolding all_different member
different_snoc [] x = refl
different_snoc (y ∷ ys) x =
    ap₂ (λ a b. not a && b) (member_snoc y ys x ∙ ap (λ b. member y ys || b) (eqb_sym x y)) (different_snoc ys x)
    ∙ regroup (member y ys) (eqb y x) (all_different ys) (member x ys)

-- ---- the first n words against the first n numbers of the list
module _ (codes : List ℕ) (f : ℕ → ℕ) (at : (j : ℕ) → j < length codes → f j ≡ get_or codes j 0) where
  front_more : (n : ℕ) → n < length codes → take (suc n) codes ≡ take n codes ++ (f n ∷ [])
  front_more n l = take-suc codes n 0 l ∙ ap (λ x. take n codes ++ (x ∷ [])) (sym (at n l))

  member_yes : (x n : ℕ) → n ≤ length codes → member x (take n codes) ≡ true → 0 < occurrences x n f
  member_yes x zero l h = absurd (let z : ◌≡◌ {A = ℕ} 0 1 = (unfold member in cc) in omega arith)
  member_yes x (suc n) l h =
      ⊎_elim
      (λ m. let r = member_yes x n (omega arith) m in let g = times_le f x n (suc n) (omega arith) in omega arith)
      (λ e. let t = times_hit f x n (eqb-true (f n) x e) in omega arith)
      (or_cases _ _ (sym (member_snoc x (take n codes) (f n)) ∙ ap (member x) (sym (front_more n l)) ∙ h))

  member_no : (x n : ℕ) → n ≤ length codes → member x (take n codes) ≡ false → occurrences x n f ≡ 0
  member_no x zero l h = unfold occurrences in refl
  member_no x (suc n) l h =
      let b = or_neither _ _ (sym (member_snoc x (take n codes) (f n)) ∙ ap (member x) (sym (front_more n l)) ∙ h) in
      times_miss f x n (eqb-false (f n) x b.1) ∙ member_no x n (omega arith) b.0

  -- whether a number is in the list, by how often it stands among the words
  pub member_count : (x : ℕ) → member x codes ≡ ltb 0 (occurrences x (length codes) f)
  member_count x = settle (member x codes) refl
    where
      whole : member x (take (length codes) codes) ≡ member x codes
      whole = ap (member x) (take-length codes)

      settle : (b : Bool) → member x codes ≡ b → b ≡ ltb 0 (occurrences x (length codes) f)
      settle true e = sym (lt-ltb 0 (occurrences x (length codes) f) (member_yes x (length codes) (omega arith) (whole ∙ e)))
      settle false e = sym (le-ltb 0 (occurrences x (length codes) f) (let z = member_no x (length codes) (omega arith) (whole ∙ e) in omega arith))

  front_different : (n : ℕ) → n < length codes → all_different (take (suc n) codes) ≡ (all_different (take n codes) && not (member (f n) (take n codes)))
  front_different n l = ap all_different (front_more n l) ∙ different_snoc (take n codes) (f n)

  different_yes : (n : ℕ) → n ≤ length codes → all_different (take n codes) ≡ true → Repeats n f → ⊥
  unfolding Repeats
  different_yes zero l h r = let z = r.1 in unfold occurrences in omega arith
  different_yes (suc n) l h r =
      let b = and_both _ _ (sym (front_different n l) ∙ h) in
      ⊎_elim
      (λ (e : f n ≡ r.0).
      let z = member_no (f n) n (omega arith) (not-true _ b.1) in
      let t = times_hit f (f n) n refl in
      let y = ap (λ x. occurrences x (suc n) f) e in
      let u = r.1 in
      omega arith)
      (λ e. different_yes n (omega arith) b.0 (r.0, let t = times_miss f r.0 n e in let u = r.1 in omega arith))
      (eq_or_ne (f n) r.0)

  different_no : (n : ℕ) → n ≤ length codes → all_different (take n codes) ≡ false → Repeats n f
  unfolding Repeats
  different_no zero l h = absurd (let z : ◌≡◌ {A = ℕ} 0 1 = (unfold all_different in cc) in omega arith)
  different_no (suc n) l h =
      ⊎_elim
      (λ d. let r = different_no n (omega arith) d in (r.0, let t = times_le f r.0 n (suc n) (omega arith) in let u = r.1 in omega arith))
      (λ m. (f n, let t = times_hit f (f n) n refl in let u = member_yes (f n) n (omega arith) (not-false _ m) in omega arith))
      (and_cases _ _ (sym (front_different n l) ∙ h))

-- what the repeat check says of words that are the numbers of a list
pub repeats_told : (w codes : List ℕ) (m : ℕ) (r : Bool) → m ≡ length codes → ((j : ℕ) → j < length codes → word w 0 j ≡ get_or codes j 0)
    → TellsRepeat m (word w 0) r → r ≡ not (all_different codes)
repeats_told w codes m r e at t = settle r (all_different codes) t refl
  where
    whole : take (length codes) codes ≡ codes
    whole = take-length codes

    settle : (r b : Bool) → TellsRepeat m (word w 0) r → all_different codes ≡ b → r ≡ not b
    settle true false t h = refl
    settle false true t h = refl
    settle true true t h = absurd (different_yes codes (word w 0) at (length codes) (omega arith) (ap all_different whole ∙ h) (rw (sym e) (t.yes refl)))
    settle false false t h = absurd (t.no refl (rw e (different_no codes (word w 0) at (length codes) (omega arith) (ap all_different whole ∙ h))))
