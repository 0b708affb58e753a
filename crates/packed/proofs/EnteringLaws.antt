-- An edge enters among the words of a record's edges in the workspace.
use Prim.Native.Nat.{ℕ, zero, suc, ◌+◌, ◌-◌, ◌≤◌, ◌<◌}
use mathlib.Core.Path.{◌≡◌, refl, sym, ap, ap₂, ◌∙◌}
use mathlib.Core.List.{List, [], ◌∷◌, ◌++◌}
use mathlib.Core.Bool.{Bool, true, false, ◌||◌}
use lib.ListN.{length, take, get_or, set, length-set}
use lib.Seq.{get_or-set_same, get_or-set_other, take-suc, get_or-take, length-take-le}
use lib.Dec.{ltb}
use native.Mathlib.Omega.{arith}
use native.Mathlib.Numerals.{add-one}
use borrow.Author.Tests.{ne_eqb}
use Rattle.std.specs.List.{CopiedTo, SameBelow, SameFrom}
use Rattle.packed.specs.Bits.{one}
use Rattle.packed.specs.Contents.{member, word_rank}
use Rattle.packed.specs.Entered.{lower}
use Rattle.packed.specs.Entering.{word_ranks, PutAt}
use Rattle.packed.proofs.DistinctLaws.{member_append, member_at}

-- ---- the place
ranks_long : (l : List ℕ) → length (word_ranks l) ≡ length l
unfolding word_ranks
ranks_long [] = refl
ranks_long (c ∷ l) = ap suc (ranks_long l)

ranks_at : (l : List ℕ) (i : ℕ) → i < length l → get_or (word_ranks l) i 0 ≡ word_rank (get_or l i 0)
unfolding word_ranks
ranks_at [] i h = absurd (omega arith)
ranks_at (c ∷ l) zero h = refl
ranks_at (c ∷ l) (suc i) h = ranks_at l i (omega arith)

ranks_both : (a b : List ℕ) → word_ranks (a ++ b) ≡ word_ranks a ++ word_ranks b
unfolding word_ranks
ranks_both [] b = refl
ranks_both (c ∷ a) b = ap (λ (t : List ℕ). word_rank c ∷ t) (ranks_both a b)

lower_both : (x : ℕ) (a b : List ℕ) → lower x (a ++ b) ≡ lower x a + lower x b
unfolding lower
lower_both x [] b = omega arith
lower_both x (y ∷ a) b = let q = lower_both x a b in omega arith

lower_one : (x y : ℕ) → lower x (y ∷ []) ≡ one (ltb y x)
unfolding lower
lower_one x y = omega arith

member_none : (x y : ℕ) → (y ≡ x → ⊥) → member x (y ∷ []) ≡ false
unfolding member
member_none x y n = rw (ne_eqb y x n)

-- the first i words were looked at
pub record Looked (x : ℕ) (w : List ℕ) (m n i : ℕ) : Type 0 where
  pub upto : i ≤ m
  pub few : n ≤ i
  pub absent : member x (word_ranks (take i w)) ≡ false
  pub lower_ones : n ≡ lower x (word_ranks (take i w))

pub looked_none : (x : ℕ) (w : List ℕ) (m : ℕ) → Looked x w m 0 0
unfolding member lower word_ranks
looked_none x w m = record { upto = omega arith; few = omega arith; absent = refl; lower_ones = refl }

one_most : (b : Bool) → one b ≤ 1
one_most true = omega arith
one_most false = omega arith

pub one_fits : (a b c : ℕ) → c ≡ one (ltb a b) → c ≤ 1
one_fits a b c e = let q = one_most (ltb a b) in omega arith

module _ {x : ℕ} {w : List ℕ} {m n i : ℕ} (q : Looked x w m n i) (h : i < m) (fits : m ≤ length w) where
  next : word_ranks (take (i + 1) w) ≡ word_ranks (take i w) ++ (word_rank (get_or w i 0) ∷ [])
  next =
      ap (λ (j : ℕ). word_ranks (take j w)) (add-one i)
      ∙ ap word_ranks (take-suc w i 0 (omega arith))
      ∙ ranks_both (take i w) (get_or w i 0 ∷ [])
      ∙ (unfold word_ranks in refl)

  pub looked_more : (r c : ℕ) → r ≡ word_rank (get_or w i 0) → (r ≡ x → ⊥) → c ≡ one (ltb r x) → Looked x w m (n + c) (i + 1)
  looked_more r c e d k =
      let t : List ℕ = word_ranks (take i w) in
      let y : ℕ = word_rank (get_or w i 0) in
      let b : one (ltb y x) ≡ c = ap (λ (v : ℕ). one (ltb v x)) (sym e) ∙ sym k in
      let u = one_fits r x c k in
      let a : lower x (y ∷ []) ≡ c = lower_one x y ∙ b in
      record {
        upto = omega arith;
        few = let z = q.few in omega arith;
        absent =
            ap (member x) next
            ∙ member_append x t (y ∷ [])
            ∙ ap₂ (λ (u v : Bool). u || v) q.absent (member_none x y (λ z. d (e ∙ z)));
        lower_ones = ap₂ (λ (u v : ℕ). u + v) q.lower_ones (sym a) ∙ sym (lower_both x t (y ∷ [])) ∙ ap (lower x) (sym next);
      }

pub looked_all : {x : ℕ} {w : List ℕ} {m n i : ℕ} → Looked x w m n i → m ≤ i → (member x (word_ranks (take m w)) ≡ false) × (n ≡ lower x (word_ranks (take m w)))
looked_all {x} {w} {m} {n} {i} q h =
    let e : i ≡ m = let z = q.upto in omega arith in
    (ap (λ (j : ℕ). member x (word_ranks (take j w))) (sym e) ∙ q.absent, q.lower_ones ∙ ap (λ (j : ℕ). lower x (word_ranks (take j w))) e)

pub looked_found : (x : ℕ) (w : List ℕ) (m i r : ℕ) → i < m → m ≤ length w → r ≡ word_rank (get_or w i 0) → r ≡ x → member x (word_ranks (take m w)) ≡ true
looked_found x w m i r h g e d =
    let l : List ℕ = word_ranks (take m w) in
    let n : length (take m w) ≡ m = length-take-le m w g in
    let a : get_or l i 0 ≡ x = ranks_at (take m w) i (omega arith) ∙ ap word_rank (get_or-take m w i 0 h) ∙ sym e ∙ d in
    ap (λ (v : ℕ). member v l) (sym a) ∙ member_at l i (omega (arith, ranks_long (take m w)))

-- ---- the word at its place
pub put_within : (at m x : ℕ) (w w' : List ℕ) → at ≤ m → m < length w → length w' ≡ length w
    → CopiedTo w w' at (at + 1) (m - at) × SameBelow w w' (at + 1) × SameFrom w w' (at + 1 + (m - at)) → PutAt at m x w (set w' at x)
put_within at m x w w' h fits l p =
    record {
      long = length-set w' at x ∙ l;
      below = λ k q. get_or-set_other w' at k x 0 (λ y. omega arith) ∙ p.1 k 0 (omega arith);
      here = get_or-set_same w' at x 0 (omega (arith, l));
      moved = λ k q r. get_or-set_other w' at (k + 1) x 0 (λ y. omega arith) ∙ (p.0 (k + 1) 0 (omega arith) (omega arith) ∙ ap (λ (n : ℕ). get_or w n 0) (omega arith));
      high = λ k q. get_or-set_other w' at k x 0 (λ y. omega arith) ∙ p.2 k 0 (omega arith);
    }
