-- Pairs by their codes: what stands in `ascending l`, and what settles it.
use mathlib.Core.Path.{◌≡◌, refl, sym, ap, subst, ◌∙◌}
use mathlib.Core.Logic.{◌⊎◌, inl, inr, ⊎_elim}
use mathlib.Core.Bool.{Bool, true, false, ◌||◌, or-true}
use mathlib.Core.List.{List, [], ◌∷◌}
use Prim.Native.Nat.{ℕ, suc, ◌≤◌, ◌<◌}
use native.Mathlib.Omega.{arith}
use lib.ListN.{length}
use lib.Dec.{eqb}
use borrow.Author.Tests.{eqb-true, eq-eqb}
use Rattle.packed.specs.Formats.{code}
use Rattle.packed.specs.Contents.{member, insert, distinct}
use Rattle.packed.specs.Distinct.{BelowHead, Increasing}
use Rattle.packed.proofs.OrderCases.{trichotomy, or_cases}
use Rattle.packed.proofs.DistinctLaws.{insert_lt, insert_eq, insert_gt, member_distinct, distinct_increasing, distinct_same, increasing_tail}
use Rattle.engine.specs.Lists.{In, here, there, each}
use Rattle.engine.specs.Simulation.{Pair, ascending}
use Rattle.engine.proofs.ListLaws.{not_in_none, in_cases, each_in, in_each, length_each}

-- ---- members
pub in_member : {x : ℕ} {l : List ℕ} → In x l → member x l ≡ true
unfolding member
in_member {x} (here {x = y} {l = l} e) = rw (eq-eqb y x (sym e))
in_member {x} (there {x = y} i) = ap (λ b. eqb y x || b) (in_member i) ∙ or-true (eqb y x)

pub member_in : {x : ℕ} (l : List ℕ) → member x l ≡ true → In x l
unfolding member
member_in [] h = absurd (let z : ◌≡◌ {A = ℕ} 0 1 = cc in omega arith)
member_in {x} (y ∷ l) h = ⊎_elim (λ e. here (sym (eqb-true y x e))) (λ e. there (member_in l e)) (or_cases _ _ h)

-- ---- codes
-- the pair of a code can be read off it where the second number has 12 bits
pub code_same : {f g : Pair} → f.1 < 4096 → g.1 < 4096 → code f.0 f.1 ≡ code g.0 g.1 → f ≡ g
code_same {f} {g} p q e = pair_same (omega arith) (omega arith)
  where
    pair_same : f.0 ≡ g.0 → f.1 ≡ g.1 → f ≡ g
    pair_same a b = λ i. (a i, b i)

-- ---- the codes of pairs, ascending
pub ascending_say : (l : List Pair) {c : ℕ} → In c (ascending l) → (f : Pair) × In f l × (c ≡ code f.0 f.1)
unfolding ascending
ascending_say l {c} i = each_in _ l (member_in _ (sym (member_distinct c _) ∙ in_member i))

pub ascending_by : {l : List Pair} {f : Pair} → In f l → In (code f.0 f.1) (ascending l)
unfolding ascending
ascending_by {l} {f} i = member_in _ (member_distinct (code f.0 f.1) _ ∙ in_member (in_each (λ g. code g.0 g.1) i))

pub ascending_none : ascending [] ≡ []
unfolding ascending distinct each
ascending_none = refl

-- lists with the same members have the same codes
pub ascending_same : (l m : List Pair) → ((f : Pair) → In f l → In f m) → ((f : Pair) → In f m → In f l) → ascending l ≡ ascending m
unfolding ascending
ascending_same l m p q = distinct_same _ _ λ z. implied_same (over l m p z) (over m l q z)
  where
    over : (a b : List Pair) → ((f : Pair) → In f a → In f b) → (z : ℕ) → member z (each (λ f. code f.0 f.1) a) ≡ true → member z (each (λ f. code f.0 f.1) b) ≡ true
    over a b h z t = let r = each_in (λ f. code f.0 f.1) a (member_in _ t) in in_member (subst (λ c. In c (each (λ f. code f.0 f.1) b)) (sym r.2) (in_each (λ f. code f.0 f.1) (h r.0 r.1)))

    implied_same : {b c : Bool} → (b ≡ true → c ≡ true) → (c ≡ true → b ≡ true) → b ≡ c
    implied_same {b = true} f g = sym (f refl)
    implied_same {b = false} {c = true} f g = g refl
    implied_same {b = false} {c = false} f g = refl

-- ---- order and length
pub ascending_increasing : (l : List Pair) → Increasing (ascending l)
unfolding ascending
ascending_increasing l = distinct_increasing _

length_insert : (x : ℕ) (l : List ℕ) → length (insert x l) ≤ suc (length l)
length_insert x [] = unfold insert in omega arith
length_insert x (y ∷ l) =
    trichotomy x y
    (λ h. rw (insert_lt x y l h) (omega arith))
    (λ h. rw (insert_eq x y l h) (omega arith))
    (λ h. rw (insert_gt x y l h) (omega (arith, length_insert x l)))

length_distinct : (l : List ℕ) → length (distinct l) ≤ length l
unfolding distinct
length_distinct [] = omega arith
length_distinct (x ∷ l) = omega (arith, length_insert x (distinct l), length_distinct l)

pub ascending_length : (l : List Pair) → length (ascending l) ≤ length l
unfolding ascending
ascending_length l = omega (arith, length_distinct (each (λ f. code f.0 f.1) l), length_each (λ f. code f.0 f.1) l)

-- ---- a list that rises has at most as many numbers as a list that has each of them
above : (x : ℕ) (l : List ℕ) → Increasing (x ∷ l) → {z : ℕ} → In z l → x < z
unfolding Increasing
above x [] n i = absurd (not_in_none i)
above x (y ∷ l) n {z} i =
    let b : x < y = (unfold BelowHead in n.0) in
    ⊎_elim (λ e. omega arith) (λ j. omega (arith, above y l n.1 j)) (in_cases i)

increasing_fewer : (a b : List ℕ) → Increasing a → Increasing b → ((z : ℕ) → In z a → In z b) → length a ≤ length b
increasing_fewer [] b n m f = omega arith
increasing_fewer (x ∷ a) [] n m f = absurd (not_in_none (f x (here refl)))
increasing_fewer (x ∷ a) (y ∷ b) n m f =
    ⊎_elim
    (λ e. omega (arith, increasing_fewer a b (increasing_tail x a n) (increasing_tail y b m) (λ z i. later z (omega (arith, above x a n i)) (f z (there i)))))
    (λ j. omega (arith, increasing_fewer (x ∷ a) b n (increasing_tail y b m) (λ z i. later z (over (above y b m j) z (in_cases i)) (f z i))))
    (in_cases (f x (here refl)))
  where
    later : (z : ℕ) → y < z → In z (y ∷ b) → In z b
    later z h i = ⊎_elim (λ e. absurd (omega arith)) (λ j. j) (in_cases i)

    over : y < x → (z : ℕ) → (z ≡ x) ⊎ In z a → y < z
    over h z (inl e) = omega arith
    over h z (inr i) = omega (arith, above x a n i)

pub distinct_fewer : (l pool : List ℕ) → ((c : ℕ) → In c l → In c pool) → length (distinct l) ≤ length pool
distinct_fewer l pool f =
    omega (arith, length_distinct pool, increasing_fewer (distinct l) (distinct pool) (distinct_increasing l) (distinct_increasing pool) over)
  where
    over : (c : ℕ) → In c (distinct l) → In c (distinct pool)
    over c i = member_in _ (member_distinct c pool ∙ in_member (f c (member_in l (sym (member_distinct c l) ∙ in_member i))))
