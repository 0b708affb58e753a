-- A table with the columns of the views in a set alone; and tables that agree on these columns, or sets that have the same of k views: the same views cover,
-- and the same are chosen.
use Prim.Native.Nat.{ℕ, zero, suc, ◌+◌, ◌-◌, ◌*◌, ◌%◌, ◌^◌, ◌<◌, ◌≤◌}
use mathlib.Core.Path.{◌≡◌, refl, sym, ap, ap₂, subst, ◌∙◌}
use mathlib.Core.Bool.{Bool, true, false, not, ◌&&◌, ◌||◌}
use mathlib.Core.Logic.{◌⊎◌, inl, ⊎_elim}
use mathlib.Core.List.{List, [], ◌∷◌}
use lib.ListN.{length, get_or, set, replicate, length-set, length-replicate}
use lib.Seq.{ext_get_or, get_or-set_same, get_or-set_other}
use lib.Dec.{eqb}
use native.Mathlib.Omega.{arith}
use Rattle.packed.specs.Format.{pick}
use Rattle.packed.proofs.ByValueLaws.{nothing_at}
use Rattle.packed.proofs.OrderCases.{lt_or_ge}
use Rattle.engine.specs.Simulation.{bit}
use Rattle.containment.specs.Choice.{matches, matched_in, covers_in, every_view, columns_from, columns_in, adds_to, taken, kept, chosen}
use Rattle.containment.proofs.SetBits.{test_cases, bit_every, less_say}
use Rattle.containment.proofs.ChoiceLaws.{covers_alike, taken_within, kept_later}

-- ---- the columns
columns_from_long : (set k : ℕ) (t : List ℕ) → length (columns_from set k t) ≡ length t
unfolding columns_from
columns_from_long set k [] = refl
columns_from_long set k (x ∷ t) = ap suc (columns_from_long set (suc k) t)

pub pick_zero : (b : Bool) → ◌≡◌ {A = ℕ} 0 (pick b 0 0)
pick_zero true = refl
pick_zero false = refl

columns_from_lem : (set k i : ℕ) (t : List ℕ) → get_or (columns_from set k t) i 0 ≡ pick (bit set ((k + i) % 16)) (get_or t i 0) 0
unfolding columns_from
columns_from_lem set k i [] = pick_zero (bit set ((k + i) % 16))
columns_from_lem set k zero (x ∷ t) = let z : k ≡ k + 0 = omega arith in ap (λ (n : ℕ). pick (bit set (n % 16)) x 0) z
columns_from_lem set k (suc i) (x ∷ t) = let z : suc k + i ≡ k + suc i = omega arith in columns_from_lem set (suc k) i t ∙ ap (λ (n : ℕ). pick (bit set (n % 16)) (get_or t i 0) 0) z

module _ (set : ℕ) (t : List ℕ) where
  pub columns_long : length (columns_in set t) ≡ length t
  columns_long = columns_from_long set 0 t

  pub columns_at : (i : ℕ) → get_or (columns_in set t) i 0 ≡ pick (bit set (i % 16)) (get_or t i 0) 0
  columns_at i = let z : 0 + i ≡ i = omega arith in columns_from_lem set 0 i t ∙ ap (λ (n : ℕ). pick (bit set (n % 16)) (get_or t i 0) 0) z

  pub column_in : (i : ℕ) → bit set (i % 16) ≡ true → get_or (columns_in set t) i 0 ≡ get_or t i 0
  column_in i h = columns_at i ∙ rw h

  pub column_out : (i : ℕ) → bit set (i % 16) ≡ false → get_or (columns_in set t) i 0 ≡ 0
  column_out i h = columns_at i ∙ rw h

  -- nothing is lost where the others are zero anyway
  pub columns_whole : ((i : ℕ) → i < length t → (bit set (i % 16) ≡ true) ⊎ (get_or t i 0 ≡ 0)) → columns_in set t ≡ t
  columns_whole f =
      ext_get_or 0 (columns_in set t) t columns_long
      (λ i l. ⊎_elim (column_in i) (λ z. columns_at i ∙ ap (λ (x : ℕ). pick (bit set (i % 16)) x 0) z ∙ sym (pick_zero (bit set (i % 16))) ∙ sym z) (f i (omega (arith, columns_long))))

  module _ (e a : ℕ) (l : a < 16) where
    place : (16 * e + a) % 16 ≡ a
    place = omega arith

    pub columns_match : bit set a ≡ true → matches (columns_in set t) e a ≡ matches t e a
    unfolding matches
    columns_match h = ap (λ (x : ℕ). not (eqb x 0)) (column_in (16 * e + a) (ap (bit set) place ∙ h))

    pub columns_miss : bit set a ≡ false → matches (columns_in set t) e a ≡ false
    unfolding matches
    columns_miss h = ap (λ (x : ℕ). not (eqb x 0)) (column_out (16 * e + a) (ap (bit set) place ∙ h))

pub columns_every : (t : List ℕ) → columns_in every_view t ≡ t
columns_every t = columns_whole every_view t (λ i l. inl (bit_every (i % 16) (omega arith)))

-- ---- two tables that agree on the columns of k views in a set, for m edges
module _ (t t' : List ℕ) (set k m : ℕ) (same : (e a : ℕ) → e < m → a < k → bit set a ≡ true → matches t e a ≡ matches t' e a) where
  -- views of the set alone
  abbrev Within : ℕ → Type 0
  Within s = (a : ℕ) → bit s a ≡ true → bit set a ≡ true

  one_same : (s a e : ℕ) → Within s → a < k → e < m → (bit s a && matches t e a) ≡ (bit s a && matches t' e a)
  one_same s a e w l n = ⊎_elim (λ h. ap (λ (b : Bool). bit s a && b) (same e a n l (w a h))) (λ h. rw h) (test_cases (bit s a))

  matched_same : (s : ℕ) → Within s → (n : ℕ) → n ≤ k → (e : ℕ) → e < m → matched_in t s e n ≡ matched_in t' s e n
  unfolding matched_in
  matched_same s w zero h e l = refl
  matched_same s w (suc n) h e l = ap₂ (λ (x y : Bool). x || y) (matched_same s w n (omega arith) e l) (one_same s n e w (omega arith) l)

  covers_upto : (s : ℕ) → Within s → (n : ℕ) → n ≤ m → covers_in t s k n ≡ covers_in t' s k n
  unfolding covers_in
  covers_upto s w zero h = refl
  covers_upto s w (suc n) h = ap₂ (λ (x y : Bool). x && y) (covers_upto s w n (omega arith)) (matched_same s w k (omega arith) n (omega arith))

  pub covers_same : (s : ℕ) → ((a : ℕ) → bit s a ≡ true → bit set a ≡ true) → covers_in t s k m ≡ covers_in t' s k m
  covers_same s w = covers_upto s w m (omega arith)

  adds_same : (s a : ℕ) → Within s → a < k → bit set a ≡ true → (n : ℕ) → n ≤ m → adds_to t s a n ≡ adds_to t' s a n
  unfolding adds_to
  adds_same s a w l i zero h = refl
  adds_same s a w l i (suc n) h =
      ap₂ (λ (x y : Bool). x || y) (adds_same s a w l i n (omega arith))
      (ap₂ (λ (x y : Bool). x && not y) (same n a (omega arith) l i) (matched_same s w a (omega arith) n (omega arith)))

  taken_same : (a : ℕ) → a ≤ k → taken t set m a ≡ taken t' set m a
  unfolding taken
  taken_same zero h = refl
  taken_same (suc a) h =
      let i = taken_same a (omega arith) in
      ⊎_elim
      (λ y. ap₂ (λ (b : Bool) (x : ℕ). pick (bit set a && b) (x + 2 ^ a) x)
      (adds_same (taken t set m a) a (taken_within t set m a) (omega arith) y m (omega arith) ∙ ap (λ (x : ℕ). adds_to t' x a m) i) i)
      (λ n. rw n i)
      (test_cases (bit set a))

  kept_same : (s : ℕ) → Within s → (a : ℕ) → kept t m k s a ≡ kept t' m k s a
  unfolding kept
  kept_same s w zero = refl
  kept_same s w (suc a) =
      let i = kept_same s w a in
      ⊎_elim
      (λ y. ap₂ (λ (b : Bool) (x : ℕ). pick (bit x a && b) (x - 2 ^ a) x)
      (covers_same (kept t m k s a - 2 ^ a) (λ b z. w b (kept_later t m k s 0 a b (omega arith) (less_say (kept t m k s a) a y b z).0))
      ∙ ap (λ (x : ℕ). covers_in t' (x - 2 ^ a) k m) i) i)
      (λ n. let n' : bit (kept t' m k s a) a ≡ false = sym (ap (λ (x : ℕ). bit x a) i) ∙ n in rw (n, n') i)
      (test_cases (bit (kept t m k s a) a))

  pub chosen_same : chosen t set m k ≡ chosen t' set m k
  unfolding chosen
  chosen_same =
      ap₂ (λ (b : Bool) (x : ℕ). pick b x 0) (covers_same set (λ a h. h))
      (kept_same (taken t set m k) (taken_within t set m k) k ∙ ap (λ (x : ℕ). kept t' m k x k) (taken_same k (omega arith)))

-- the columns alone agree with the table
pub columns_agree : (set : ℕ) (t : List ℕ) (k : ℕ) → k ≤ 16 → (m e a : ℕ) → e < m → a < k → bit set a ≡ true → matches (columns_in set t) e a ≡ matches t e a
columns_agree set t k few m e a h l = columns_match set t e a (omega arith)

-- ---- two sets that have the same of k views
module _ (t : List ℕ) (set set' k m : ℕ) (f : (a : ℕ) → a < k → bit set a ≡ bit set' a) where
  taken_alike : (a : ℕ) → a ≤ k → taken t set m a ≡ taken t set' m a
  unfolding taken
  taken_alike zero h = refl
  taken_alike (suc a) h = ap₂ (λ (b : Bool) (x : ℕ). pick (b && adds_to t x a m) (x + 2 ^ a) x) (f a (omega arith)) (taken_alike a (omega arith))

  pub chosen_alike : chosen t set m k ≡ chosen t set' m k
  unfolding chosen
  chosen_alike = ap₂ (λ (b : Bool) (x : ℕ). pick b x 0) (covers_alike t set set' k f m) (ap (λ (x : ℕ). kept t m k x k) (taken_alike k (omega arith)))

-- ---- the columns, one word after the other: the first k are done
pub record Columned (s : ℕ) (t : List ℕ) (k : ℕ) (r : List ℕ) : Type 0 where
  pub long : length r ≡ 512
  pub each : (i : ℕ) → i < k → get_or r i 0 ≡ get_or (columns_in s t) i 0
  pub rest : (i : ℕ) → k ≤ i → get_or r i 0 ≡ 0

module _ (s : ℕ) (t : List ℕ) where
  pub columned_none : (r : List ℕ) → r ≡ replicate 512 0 → Columned s t 0 r
  columned_none r e = record { long = ap length e ∙ length-replicate {A = ℕ} 512 0; each = λ i l. absurd (omega arith); rest = λ i l. ap (λ m. get_or m i 0) e ∙ nothing_at 512 i }

  module _ {k : ℕ} {r : List ℕ} (h : Columned s t k r) where
    pub columned_more : bit s (k % 16) ≡ true → k < 512 → Columned s t (k + 1) (set r k (get_or t k 0))
    columned_more y l = record {
      long = length-set r k (get_or t k 0) ∙ h.long;
      each = λ i n.
          ⊎_elim
          (λ (b : i < k). get_or-set_other r k i (get_or t k 0) 0 (λ e. omega arith) ∙ h.each i b)
          (λ (b : k ≤ i). let e : k ≡ i = omega arith in subst (λ (j : ℕ). get_or (set r k (get_or t k 0)) j 0 ≡ get_or (columns_in s t) j 0) e (get_or-set_same r k (get_or t k 0) 0 (omega (arith, h.long)) ∙ sym (column_in s t k y)))
          (lt_or_ge i k);
      rest = λ i n. get_or-set_other r k i (get_or t k 0) 0 (λ e. omega arith) ∙ h.rest i (omega arith);
    }

    pub columned_same : bit s (k % 16) ≡ false → Columned s t (k + 1) r
    columned_same n = record {
      long = h.long;
      each = λ i l.
          ⊎_elim (h.each i)
          (λ (b : k ≤ i). let e : k ≡ i = omega arith in subst (λ (j : ℕ). get_or r j 0 ≡ get_or (columns_in s t) j 0) e (h.rest k (omega arith) ∙ sym (column_out s t k n)))
          (lt_or_ge i k);
      rest = λ i l. h.rest i (omega arith);
    }

  pub columned_whole : {k : ℕ} {r : List ℕ} → length t ≡ 512 → 512 ≤ k → Columned s t k r → r ≡ columns_in s t
  columned_whole {k} {r} n l h = ext_get_or 0 r (columns_in s t) (h.long ∙ sym (columns_long s t ∙ n)) (λ i b. h.each i (omega (arith, h.long)))
