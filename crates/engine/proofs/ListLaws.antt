-- What each test on a list means for the list's members.
use mathlib.Core.Path.{◌≡◌, refl, sym, ap, subst, ◌∙◌}
use mathlib.Core.Logic.{◌⊎◌, inl, inr}
use mathlib.Core.Bool.{Bool, true, false, cond}
use mathlib.Core.List.{List, [], ◌∷◌, ◌++◌}
use Prim.Native.Nat.{ℕ, zero, suc, ◌≤◌, ◌<◌}
use native.Mathlib.Nat.{eq-or-lt_of_le, le_of_suc-le-suc, not-suc-le-zero}
use native.Mathlib.Omega.{arith}
use lib.ListN.{length, get_or, drop}
use lib.Dec.{T, eqb, eqb_refl}
use Rattle.engine.specs.Lists.{◌and◌, ◌or◌, ◌implies◌, In, here, there, every, some, put, keep, gather, each, below}

pub and_left : (a b : Bool) → T (a and b) → T a
unfolding ◌and◌
and_left true b h = tt
and_left false b h = h

pub and_right : (a b : Bool) → T (a and b) → T b
unfolding ◌and◌
and_right true b h = h
and_right false b h = absurd h

pub both : (a b : Bool) → T a → T b → T (a and b)
unfolding ◌and◌
both true b x y = y
both false b x y = x

pub or_left : (a b : Bool) → T a → T (a or b)
unfolding ◌or◌
or_left true b h = tt
or_left false b h = absurd h

pub or_right : (a b : Bool) → T b → T (a or b)
unfolding ◌or◌
or_right true b h = tt
or_right false b h = h

pub or_cases : (a b : Bool) → T (a or b) → T a ⊎ T b
unfolding ◌or◌
or_cases true b h = inl tt
or_cases false b h = inr h

pub use_if : (a b : Bool) → T (a implies b) → T a → T b
unfolding ◌implies◌
use_if true b h x = h
use_if false b h x = absurd x

pub make_if : (a b : Bool) → (T a → T b) → T (a implies b)
unfolding ◌implies◌
make_if true b f = f tt
make_if false b f = tt

pub decide : (b : Bool) → T b ⊎ (T b → ⊥)
decide true = inl tt
decide false = inr (λ x. x)

pub equal_test : (a : ℕ) {b : ℕ} → a ≡ b → T (eqb a b)
equal_test a q = subst (λ z. T (eqb a z)) q (eqb_refl a)

-- two tests that imply each other are equal
pub same_test : (a b : Bool) → (T a → T b) → (T b → T a) → a ≡ b
same_test true true f g = refl
same_test true false f g = absurd (f tt)
same_test false true f g = absurd (g tt)
same_test false false f g = refl

module _ {A : Type 0} where
  pub cond_case : (P : A → Type 0) (b : Bool) (x y : A) → (T b → P x) → ((T b → ⊥) → P y) → P (cond b x y)
  cond_case P true x y f g = f tt
  cond_case P false x y f g = g (λ h. h)

  pub cond_same : (b c : Bool) (x y z : A) → b ≡ c → (T b → x ≡ y) → cond b x z ≡ cond c y z
  cond_same true true x y z e f = f tt
  cond_same true false x y z e f = absurd (subst T e tt)
  cond_same false true x y z e f = absurd (subst T (sym e) tt)
  cond_same false false x y z e f = refl

  pub not_in_none : {x : A} → In x [] → ⊥
  not_in_none i = elim i [ ]

  pub in_cases : {x y : A} {l : List A} → In x (y ∷ l) → (x ≡ y) ⊎ In x l
  in_cases (here e) = inl e
  in_cases (there i) = inr i

  pub in_cast : {x y : A} {l : List A} → x ≡ y → In x l → In y l
  in_cast {l} e i = subst (λ z. In z l) e i

  pub in_at : (l : List A) (i : ℕ) (d : A) → i < length l → In (get_or l i d) l
  in_at [] i d h = absurd (not-suc-le-zero h)
  in_at (x ∷ l) zero d h = here refl
  in_at (x ∷ l) (suc i) d h = there (in_at l i d (le_of_suc-le-suc h))

  pub in_length : {x : A} {l : List A} → In x l → 0 < length l
  in_length (here e) = omega arith
  in_length (there i) = omega arith

  -- a list that is not empty has a member
  pub first_in : (l : List A) → 0 < length l → (x : A) × In x l
  first_in [] h = absurd (not-suc-le-zero h)
  first_in (x ∷ l) h = (x, here refl)

  pub every_in : (p : A → Bool) {x : A} {l : List A} → T (every p l) → In x l → T (p x)
  unfolding every
  every_in p h (here {x = y} e) = subst (λ z. T (p z)) (sym e) (and_left _ _ h)
  every_in p h (there {x = y} i) = every_in p (and_right (p y) _ h) i

  pub in_every : (p : A → Bool) (l : List A) → ((x : A) → In x l → T (p x)) → T (every p l)
  unfolding every
  in_every p [] f = tt
  in_every p (y ∷ l) f = both _ _ (f y (here refl)) (in_every p l (λ x i. f x (there i)))

  any_step : (p : A → Bool) (y : A) (l : List A) (b : Bool) → (T b → T (p y)) → (T (some p l) → (x : A) × In x l × T (p x)) → T (b or some p l) → (x : A) × In x (y ∷ l) × T (p x)
  unfolding ◌or◌
  any_step p y l true e f h = (y, here refl, e tt)
  any_step p y l false e f h = let r = f h in (r.0, there r.1, r.2)

  fails_step : (p : A → Bool) (x : A) (l : List A) → (T (p x) → (y : A) × In y l × (T (p y) → ⊥)) → T (p x) ⊎ (T (p x) → ⊥) → (y : A) × In y (x ∷ l) × (T (p y) → ⊥)
  fails_step p x l f (inl t) = let r = f t in (r.0, there r.1, r.2)
  fails_step p x l f (inr n) = (x, here refl, n)

  pub every_fails : (p : A → Bool) (l : List A) → (T (every p l) → ⊥) → (x : A) × In x l × (T (p x) → ⊥)
  unfolding every
  every_fails p [] h = absurd (h tt)
  every_fails p (x ∷ l) h = fails_step p x l (λ t. every_fails p l (λ u. h (both (p x) (every p l) t u))) (decide (p x))

  pub some_in : (p : A → Bool) (l : List A) → T (some p l) → (x : A) × In x l × T (p x)
  unfolding some
  some_in p [] h = absurd h
  some_in p (y ∷ l) h = any_step p y l (p y) (λ t. t) (some_in p l) h

  pub in_some : (p : A → Bool) {x : A} {l : List A} → In x l → T (p x) → T (some p l)
  unfolding some
  in_some p (here e) h = or_left _ _ (subst (λ z. T (p z)) e h)
  in_some p (there {x = y} i) h = or_right (p y) _ (in_some p i h)

  put_in : (b : Bool) (y : A) (l : List A) (x : A) → In x (put b y l) → ((x ≡ y) × T b) ⊎ In x l
  put_in true y l x i = step (in_cases i)
    where
      step : (x ≡ y) ⊎ In x l → ((x ≡ y) × Unit {0}) ⊎ In x l
      step (inl e) = inl (e, tt)
      step (inr j) = inr j
  put_in false y l x i = inr i

  in_put : (b : Bool) (y : A) (l : List A) → T b → In y (put b y l)
  in_put true y l h = here refl
  in_put false y l h = absurd h

  in_put_rest : (b : Bool) (y : A) (l : List A) (x : A) → In x l → In x (put b y l)
  in_put_rest true y l x i = there i
  in_put_rest false y l x i = i

  pub keep_in : (p : A → Bool) (l : List A) {x : A} → In x (keep p l) → In x l × T (p x)
  unfolding keep
  keep_in p [] i = absurd (not_in_none i)
  keep_in p (y ∷ l) {x} i = step (λ j. keep_in p l {x = x} j) (put_in (p y) y (keep p l) x i)
    where
      step : (In x (keep p l) → In x l × T (p x)) → ((x ≡ y) × T (p y)) ⊎ In x (keep p l) → In x (y ∷ l) × T (p x)
      step rest (inl e) = (here e.0, subst (λ z. T (p z)) (sym e.0) e.1)
      step rest (inr j) = (there (rest j).0, (rest j).1)

  pub in_keep : (p : A → Bool) {x : A} {l : List A} → In x l → T (p x) → In x (keep p l)
  unfolding keep
  in_keep p (here {x = y} {l = l} e) h = in_cast (sym e) (in_put (p y) y (keep p l) (subst (λ z. T (p z)) e h))
  in_keep p {x = x} (there {x = y} {l = l} i) h = in_put_rest (p y) y (keep p l) x (in_keep p i h)

  put_length : (b : Bool) (x : A) (l : List A) → length (put b x l) ≤ suc (length l)
  put_length true x l = omega arith
  put_length false x l = omega arith

  pub keep_length : (p : A → Bool) (l : List A) → length (keep p l) ≤ length l
  unfolding keep
  keep_length p [] = omega arith
  keep_length p (x ∷ l) = omega (arith, put_length (p x) x (keep p l), keep_length p l)

  -- a member that fails makes the list shorter
  put_shorter : (b : Bool) (x : A) (l : List A) (rest : Bool) (k : List A) → (T (b and rest) → ⊥) → length k ≤ length l → ((T rest → ⊥) → length k < length l)
      → length (put b x k) < suc (length l)
  unfolding ◌and◌
  put_shorter true x l rest k h le f = omega (arith, f h)
  put_shorter false x l rest k h le f = omega arith

  pub keep_shorter : (p : A → Bool) (l : List A) → (T (every p l) → ⊥) → length (keep p l) < length l
  unfolding keep every
  keep_shorter p [] h = absurd (h tt)
  keep_shorter p (x ∷ l) h = put_shorter (p x) x l (every p l) (keep p l) h (keep_length p l) (keep_shorter p l)

  -- two tests that agree on the members keep the same
  pub keep_same : (p q : A → Bool) (l : List A) → ((x : A) → In x l → p x ≡ q x) → keep p l ≡ keep q l
  unfolding keep
  keep_same p q [] f = refl
  keep_same p q (x ∷ l) f = λ i. put (f x (here refl) i) x (keep_same p q l (λ y j. f y (there j)) i)

  -- a test that all members pass keeps all
  pub put_all : (b : Bool) (x : A) (l : List A) → T b → put b x l ≡ x ∷ l
  put_all true x l h = refl
  put_all false x l h = absurd h

  pub keep_all : (p : A → Bool) (l : List A) → ((x : A) → In x l → T (p x)) → keep p l ≡ l
  unfolding keep
  keep_all p [] h = refl
  keep_all p (x ∷ l) h = put_all (p x) x (keep p l) (h x (here refl)) ∙ ap (λ m. x ∷ m) (keep_all p l (λ y i. h y (there i)))

  -- a test that a second one weakens keeps the same after it
  keep_put : (p : A → Bool) (y : A) (l : List A) (b : Bool) → (T (p y) → T b) → keep p (put b y l) ≡ keep p (y ∷ l)
  unfolding keep
  keep_put p y l true f = refl
  keep_put p y l false f = drop (p y) f
    where
      drop : (c : Bool) → (T c → ⊥) → keep p l ≡ put c y (keep p l)
      drop true g = absurd (g tt)
      drop false g = refl

  pub keep_keep : (p q : A → Bool) (l : List A) → ((x : A) → In x l → T (p x) → T (q x)) → keep p (keep q l) ≡ keep p l
  unfolding keep
  keep_keep p q [] f = refl
  keep_keep p q (x ∷ l) f = keep_put p x (keep q l) (q x) (f x (here refl)) ∙ ap (put (p x) x) (keep_keep p q l (λ y i. f y (there i)))

  pub append_in : (l : List A) {m : List A} {x : A} → In x (l ++ m) → In x l ⊎ In x m
  append_in [] i = inr i
  append_in (y ∷ l) {m} {x} i = step (λ j. append_in l {m = m} {x = x} j) (in_cases i)
    where
      lift : In x l ⊎ In x m → In x (y ∷ l) ⊎ In x m
      lift (inl j) = inl (there j)
      lift (inr j) = inr j

      step : (In x (l ++ m) → In x l ⊎ In x m) → (x ≡ y) ⊎ In x (l ++ m) → In x (y ∷ l) ⊎ In x m
      step rest (inl e) = inl (here e)
      step rest (inr j) = lift (rest j)

  pub in_append_left : {x : A} {l : List A} (m : List A) → In x l → In x (l ++ m)
  in_append_left m (here e) = here e
  in_append_left m (there i) = there (in_append_left m i)

  pub in_append_right : (l : List A) {m : List A} {x : A} → In x m → In x (l ++ m)
  in_append_right [] i = i
  in_append_right (y ∷ l) i = there (in_append_right l i)

module _ {A B : Type 0} where
  pub gather_in : (f : A → List B) (l : List A) {y : B} → In y (gather f l) → (x : A) × In x l × In y (f x)
  unfolding gather
  gather_in f [] i = absurd (not_in_none i)
  gather_in f (x ∷ l) {y} i = step (λ j. gather_in f l {y = y} j) (append_in (f x) i)
    where
      step : (In y (gather f l) → (z : A) × In z l × In y (f z)) → In y (f x) ⊎ In y (gather f l) → (z : A) × In z (x ∷ l) × In y (f z)
      step rest (inl j) = (x, here refl, j)
      step rest (inr j) = let r = rest j in (r.0, there r.1, r.2)

  pub in_gather : (f : A → List B) {x : A} {l : List A} {y : B} → In x l → In y (f x) → In y (gather f l)
  unfolding gather
  in_gather f {y = y} (here {l = l} e) j = in_append_left (gather f l) (subst (λ w. In y (f w)) e j)
  in_gather f (there {x = z} i) j = in_append_right (f z) (in_gather f i j)

  pub each_in : (f : A → B) (l : List A) {y : B} → In y (each f l) → (x : A) × In x l × (y ≡ f x)
  unfolding each
  each_in f [] i = absurd (not_in_none i)
  each_in f (x ∷ l) {y} i = step (λ j. each_in f l {y = y} j) (in_cases i)
    where
      step : (In y (each f l) → (z : A) × In z l × (y ≡ f z)) → (y ≡ f x) ⊎ In y (each f l) → (z : A) × In z (x ∷ l) × (y ≡ f z)
      step rest (inl e) = (x, here refl, e)
      step rest (inr j) = let r = rest j in (r.0, there r.1, r.2)

  pub in_each : (f : A → B) {x : A} {l : List A} → In x l → In (f x) (each f l)
  unfolding each
  in_each f (here e) = here (ap f e)
  in_each f (there i) = there (in_each f i)

  pub each_same : (f g : A → B) (l : List A) → ((x : A) → In x l → f x ≡ g x) → each f l ≡ each g l
  unfolding each
  each_same f g [] h = refl
  each_same f g (x ∷ l) h = λ i. h x (here refl) i ∷ each_same f g l (λ y j. h y (there j)) i

  -- and the other way
  pub each_agree : (f g : A → B) {x : A} {l : List A} → each f l ≡ each g l → In x l → f x ≡ g x
  unfolding each
  each_agree f g q (here {x = y} e) = ap f e ∙ ap (λ m. get_or m 0 (f y)) q ∙ sym (ap g e)
  each_agree f g q (there i) = each_agree f g (ap (drop 1) q) i

  pub each_append : (f : A → B) (l m : List A) → each f (l ++ m) ≡ each f l ++ each f m
  unfolding each
  each_append f [] m = refl
  each_append f (x ∷ l) m = ap (λ k. f x ∷ k) (each_append f l m)

  pub length_each : (f : A → B) (l : List A) → length (each f l) ≡ length l
  unfolding each
  length_each f [] = refl
  length_each f (x ∷ l) = ap suc (length_each f l)

  pub get_d_each : (f : A → B) (l : List A) (i : ℕ) (a : A) (b : B) → i < length l → get_or (each f l) i b ≡ f (get_or l i a)
  unfolding each
  get_d_each f [] i a b h = absurd (not-suc-le-zero h)
  get_d_each f (x ∷ l) zero a b h = refl
  get_d_each f (x ∷ l) (suc i) a b h = get_d_each f l i a b (le_of_suc-le-suc h)

-- a function that changes no member changes nothing
pub each_all : {A : Type 0} (f : A → A) (l : List A) → ((x : A) → In x l → f x ≡ x) → each f l ≡ l
unfolding each
each_all f [] h = refl
each_all f (x ∷ l) h = λ i. h x (here refl) i ∷ each_all f l (λ y j. h y (there j)) i

pub below_in : (n : ℕ) {x : ℕ} → In x (below n) → x < n
unfolding below
below_in zero i = absurd (not_in_none i)
below_in (suc n) {x} i = step (λ j. below_in n {x = x} j) (in_cases i)
  where
    step : (In x (below n) → x < n) → (x ≡ n) ⊎ In x (below n) → x < suc n
    step rest (inl e) = omega arith
    step rest (inr j) = omega (arith, rest j)

pub in_below : (n x : ℕ) → x < n → In x (below n)
unfolding below
in_below zero x h = absurd (not-suc-le-zero h)
in_below (suc n) x h = step (in_below n x) (eq-or-lt_of_le (le_of_suc-le-suc h))
  where
    step : (x < n → In x (below n)) → (x ≡ n) ⊎ (x < n) → In x (n ∷ below n)
    step rest (inl e) = here e
    step rest (inr l) = there (rest l)
