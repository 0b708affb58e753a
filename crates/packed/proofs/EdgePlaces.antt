-- The fields of edges by their places.
use Prim.Native.Nat.{ℕ, zero, suc, ◌+◌, ◌*◌, ◌<◌}
use mathlib.Core.Path.{◌≡◌, refl, ap, ap₂, sym, ◌∙◌, subst}
use mathlib.Core.List.{List, [], ◌∷◌, ◌++◌}
use lib.ListN.{length, take, get_or, set}
use lib.Seq.{sets, take-suc, length-take-le}
use native.Mathlib.Omega.{arith}
use native.Mathlib.Numerals.{add-one}
use Rattle.packed.specs.Contents.{each_edge}
use Rattle.packed.specs.Plain.{from_at, to_at, kind_at, EdgesAmong}
use Rattle.packed.proofs.Sets.{sets_append}

module _ (x y z : ℕ) (l : List ℕ) (i : ℕ) where
  pub from_cons : from_at (x ∷ y ∷ z ∷ l) (suc i) ≡ from_at l i
  from_cons = ap (λ (n : ℕ). get_or (x ∷ y ∷ z ∷ l) n 0) (let e : 3 * suc i ≡ suc (suc (suc (3 * i))) = omega arith in e)

  pub to_cons : to_at (x ∷ y ∷ z ∷ l) (suc i) ≡ to_at l i
  to_cons = ap (λ (n : ℕ). get_or (x ∷ y ∷ z ∷ l) n 0) (let e : 3 * suc i + 1 ≡ suc (suc (suc (3 * i + 1))) = omega arith in e)

  pub kind_cons : kind_at (x ∷ y ∷ z ∷ l) (suc i) ≡ kind_at l i
  kind_cons = ap (λ (n : ℕ). get_or (x ∷ y ∷ z ∷ l) n 0) (let e : 3 * suc i + 2 ≡ suc (suc (suc (3 * i + 2))) = omega arith in e)

-- ---- edges among nodes: one, and the others
module _ {nodes kinds n a b k : ℕ} {l : List ℕ} where
  pub among_cons : a < nodes → b < nodes → k < kinds → EdgesAmong nodes kinds n l → EdgesAmong nodes kinds (suc n) (a ∷ b ∷ k ∷ l)
  among_cons x y z r = record { three_each = let e = r.three_each in omega arith; from_node = from_each; to_node = to-each; is_kind = kind-each }
    where
      from_each : (i : ℕ) → i < suc n → from_at (a ∷ b ∷ k ∷ l) i < nodes
      from_each zero h = x
      from_each (suc i) h = rw (from_cons a b k l i) (r.from_node i (omega arith))

      to-each : (i : ℕ) → i < suc n → to_at (a ∷ b ∷ k ∷ l) i < nodes
      to-each zero h = y
      to-each (suc i) h = rw (to_cons a b k l i) (r.to_node i (omega arith))

      kind-each : (i : ℕ) → i < suc n → kind_at (a ∷ b ∷ k ∷ l) i < kinds
      kind-each zero h = z
      kind-each (suc i) h = rw (kind_cons a b k l i) (r.is_kind i (omega arith))

  pub among_tail : EdgesAmong nodes kinds (suc n) (a ∷ b ∷ k ∷ l) → EdgesAmong nodes kinds n l
  among_tail r =
      record {
        three_each = let e = r.three_each in omega arith;
        from_node = λ i h. subst (λ (v : ℕ). v < nodes) (from_cons a b k l i) (r.from_node (suc i) (omega arith));
        to_node = λ i h. subst (λ (v : ℕ). v < nodes) (to_cons a b k l i) (r.to_node (suc i) (omega arith));
        is_kind = λ i h. subst (λ (v : ℕ). v < kinds) (kind_cons a b k l i) (r.is_kind (suc i) (omega arith));
      }

-- ---- what is made of each edge
module _ (f : ℕ → ℕ → ℕ → ℕ) where
  pub each_length : (m : ℕ) (es : List ℕ) → length es ≡ 3 * m → length (each_edge f es) ≡ m
  unfolding each_edge
  each_length zero [] e = refl
  each_length (suc m) [] e = absurd (omega arith)
  each_length m (a ∷ []) e = absurd (omega arith)
  each_length m (a ∷ b ∷ []) e = absurd (omega arith)
  each_length zero (a ∷ b ∷ k ∷ es) e = absurd (omega arith)
  each_length (suc m) (a ∷ b ∷ k ∷ es) e = ap suc (each_length m es (omega arith))

  pub each_at : (es : List ℕ) (j : ℕ) → j < length (each_edge f es) → get_or (each_edge f es) j 0 ≡ f (from_at es j) (to_at es j) (kind_at es j)
  unfolding each_edge
  each_at [] j h = absurd (omega arith)
  each_at (a ∷ []) j h = absurd (omega arith)
  each_at (a ∷ b ∷ []) j h = absurd (omega arith)
  each_at (a ∷ b ∷ k ∷ es) zero h = refl
  each_at (a ∷ b ∷ k ∷ es) (suc j) h =
      each_at es j (omega arith)
      ∙ sym (ap (λ (u : ℕ). f u (to_at (a ∷ b ∷ k ∷ es) (suc j)) (kind_at (a ∷ b ∷ k ∷ es) (suc j))) (from_cons a b k es j)
      ∙ ap (λ (u : ℕ). f (from_at es j) u (kind_at (a ∷ b ∷ k ∷ es) (suc j))) (to_cons a b k es j)
      ∙ ap (λ (u : ℕ). f (from_at es j) (to_at es j) u) (kind_cons a b k es j))

  -- one edge more, after whole ones
  pub each_more : (m : ℕ) (es : List ℕ) (a b k : ℕ) → length es ≡ 3 * m → each_edge f (es ++ (a ∷ b ∷ k ∷ [])) ≡ each_edge f es ++ (f a b k ∷ [])
  unfolding each_edge
  each_more zero [] a b k e = refl
  each_more (suc m) [] a b k e = absurd (omega arith)
  each_more m (x ∷ []) a b k e = absurd (omega arith)
  each_more m (x ∷ y ∷ []) a b k e = absurd (omega arith)
  each_more zero (x ∷ y ∷ z ∷ es) a b k e = absurd (omega arith)
  each_more (suc m) (x ∷ y ∷ z ∷ es) a b k e = ap (λ (l : List ℕ). f x y z ∷ l) (each_more m es a b k (omega arith))

-- ---- edges made of numbers: the fields x c, y c and z c for each number c
module _ (x y z : ℕ → ℕ) where
  unfoldable pub threes : List ℕ → List ℕ
  threes [] = []
  threes (c ∷ l) = x c ∷ y c ∷ z c ∷ threes l

  pub threes_length : (l : List ℕ) → length (threes l) ≡ 3 * length l
  unfolding threes
  threes_length [] = refl
  threes_length (c ∷ l) = let q = threes_length l in omega arith

  pub threes_from : (l : List ℕ) (i : ℕ) → i < length l → from_at (threes l) i ≡ x (get_or l i 0)
  unfolding threes
  threes_from [] i h = absurd (omega arith)
  threes_from (c ∷ l) zero h = refl
  threes_from (c ∷ l) (suc i) h = from_cons (x c) (y c) (z c) (threes l) i ∙ threes_from l i (omega arith)

  pub threes_to : (l : List ℕ) (i : ℕ) → i < length l → to_at (threes l) i ≡ y (get_or l i 0)
  unfolding threes
  threes_to [] i h = absurd (omega arith)
  threes_to (c ∷ l) zero h = refl
  threes_to (c ∷ l) (suc i) h = to_cons (x c) (y c) (z c) (threes l) i ∙ threes_to l i (omega arith)

  pub threes_kind : (l : List ℕ) (i : ℕ) → i < length l → kind_at (threes l) i ≡ z (get_or l i 0)
  unfolding threes
  threes_kind [] i h = absurd (omega arith)
  threes_kind (c ∷ l) zero h = refl
  threes_kind (c ∷ l) (suc i) h = kind_cons (x c) (y c) (z c) (threes l) i ∙ threes_kind l i (omega arith)

  -- from the number of each edge back to its fields, and from its fields to the number
  pub threes_each : (f : ℕ → ℕ → ℕ → ℕ) {nodes kinds : ℕ}
      → ((a b k : ℕ) → a < nodes → b < nodes → k < kinds → (x (f a b k) ≡ a) × (y (f a b k) ≡ b) × (z (f a b k) ≡ k))
      → (m : ℕ) (es : List ℕ) → EdgesAmong nodes kinds m es → threes (each_edge f es) ≡ es
  unfolding threes each_edge
  threes_each f h m [] g = refl
  threes_each f h m (a ∷ []) g = absurd (let e = g.three_each in omega arith)
  threes_each f h m (a ∷ b ∷ []) g = absurd (let e = g.three_each in omega arith)
  threes_each f h zero (a ∷ b ∷ k ∷ es) g = absurd (let e = g.three_each in omega arith)
  threes_each f h (suc m) (a ∷ b ∷ k ∷ es) g =
      let q = h a b k (g.from_node 0 (omega arith)) (g.to_node 0 (omega arith)) (g.is_kind 0 (omega arith)) in
      rw (q.0, q.1, q.2, threes_each f h m es (among_tail g))

  pub each_threes : (f : ℕ → ℕ → ℕ → ℕ) → ((c : ℕ) → f (x c) (y c) (z c) ≡ c) → (l : List ℕ) → each_edge f (threes l) ≡ l
  unfolding threes each_edge
  each_threes f h [] = refl
  each_threes f h (c ∷ l) = ap₂ (λ (v : ℕ) (t : List ℕ). v ∷ t) (h c) (each_threes f h l)

  -- one number more, after those at the front of a list
  threes_snoc : (l : List ℕ) (c : ℕ) → threes (l ++ (c ∷ [])) ≡ threes l ++ (x c ∷ y c ∷ z c ∷ [])
  unfolding threes
  threes_snoc [] c = refl
  threes_snoc (d ∷ l) c = ap (λ (t : List ℕ). x d ∷ y d ∷ z d ∷ t) (threes_snoc l c)

  pub threes_start : (out w : List ℕ) (at : ℕ) → out ≡ sets out at (threes (take 0 w))
  unfolding threes
  threes_start out w at = refl

  pub threes_more : (out w : List ℕ) (at k : ℕ) → k < length w
      → set (set (set (sets out at (threes (take k w))) (at + 3 * k) (x (get_or w k 0))) (at + 3 * k + 1) (y (get_or w k 0))) (at + 3 * k + 2) (z (get_or w k 0))
      ≡ sets out at (threes (take (k + 1) w))
  threes_more out w at k h =
      let c : ℕ = get_or w k 0 in
      let l : List ℕ = threes (take k w) in
      let n : at + 3 * k ≡ at + length l = omega (arith, threes_length (take k w), length-take-le k w (omega arith)) in
      let p : at + 3 * k + 1 ≡ suc (at + 3 * k) = omega arith in
      let q : at + 3 * k + 2 ≡ suc (suc (at + 3 * k)) = omega arith in
      ap₂ (λ (i j : ℕ). set (set (set (sets out at l) (at + 3 * k) (x c)) i (y c)) j (z c)) p q
      ∙ ap (λ (i : ℕ). sets (sets out at l) i (x c ∷ y c ∷ z c ∷ [])) n
      ∙ sets_append out at l (x c ∷ y c ∷ z c ∷ [])
      ∙ ap (sets out at) (sym (threes_snoc (take k w) c) ∙ ap threes (sym (take-suc w k 0 h) ∙ ap (λ (i : ℕ). take i w) (sym (add-one k))))
