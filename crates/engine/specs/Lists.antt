-- Tests on lists that compute. Each is shut: its laws are in proofs/ListLaws.antt, so that `_` is found from a fact that names it.
use Rattle.std.specs.Prelude.{◌≡◌, Bool, true, false, List, [], ◌∷◌, ◌++◌, ℕ, zero, suc}

infixr 35 ◌and◌
infixr 30 ◌or◌
infixr 25 ◌implies◌
unfoldable pub ◌and◌ : Bool → Bool → Bool
◌and◌ true b = b
◌and◌ false b = false

unfoldable pub ◌or◌ : Bool → Bool → Bool
◌or◌ true b = true
◌or◌ false b = b

-- if a then b, as a test
unfoldable pub ◌implies◌ : Bool → Bool → Bool
◌implies◌ true b = b
◌implies◌ false b = true

module _ {A : Type 0} where
  -- a is a member of the list
  pub data In (a : A) : List A → Type 0 where
    here : {x : A} {l : List A} → a ≡ x → In a (x ∷ l)
    there : {x : A} {l : List A} → In a l → In a (x ∷ l)

  unfoldable pub every : (A → Bool) → List A → Bool
  every p [] = true
  every p (x ∷ l) = p x and every p l

  unfoldable pub some : (A → Bool) → List A → Bool
  some p [] = false
  some p (x ∷ l) = p x or some p l

  abbrev pub put : Bool → A → List A → List A
  put true x l = x ∷ l
  put false x l = l

  -- the members that pass the test, in order
  unfoldable pub keep : (A → Bool) → List A → List A
  keep p [] = []
  keep p (x ∷ l) = put (p x) x (keep p l)

module _ {A B : Type 0} where
  -- the lists of the members, one after the other
  unfoldable pub gather : (A → List B) → List A → List B
  gather f [] = []
  gather f (x ∷ l) = f x ++ gather f l

  unfoldable pub each : (A → B) → List A → List B
  each f [] = []
  each f (x ∷ l) = f x ∷ each f l

-- the numbers below n, from the top
unfoldable pub below : ℕ → List ℕ
below zero = []
below (suc n) = n ∷ below n

-- f of the numbers below n, in order
unfoldable pub up_to : {A : Type 0} → (ℕ → A) → ℕ → List A
up_to f zero = []
up_to f (suc n) = f 0 ∷ up_to (λ j. f (suc j)) n
