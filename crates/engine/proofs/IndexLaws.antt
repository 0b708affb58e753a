-- Where the pairs that begin at a node stand, and what they offer.
use mathlib.Core.Path.{◌≡◌, refl, ap, ap₂, ◌∙◌, sym, subst}
use mathlib.Core.Logic.{◌⊎◌, ⊎_elim}
use mathlib.Core.List.{List}
use Prim.Native.Nat.{ℕ, zero, suc, ◌≤◌, ◌<◌, ◌+◌, ◌-◌, max, zero-le}
use native.Mathlib.Nat.{eq-or-lt_of_le}
use native.Mathlib.Numerals.{add-one}
use native.Mathlib.Omega.{arith}
use lib.ListN.{length, get_or, set, length-set}
use lib.Seq.{get_or-set_same, get_or-set_other}
use lib.Bits.{bit_and, bit_xor}
use Rattle.packed.proofs.OrderCases.{lt_or_ge, eq_or_ne}
use Rattle.engine.specs.Simulation.{bit}
use Rattle.engine.specs.Masks.{Has, OneOf}
use Rattle.engine.specs.Sweeping.{from_of, Ends, held_at}
use Rattle.engine.proofs.ListLaws.{decide}
use Rattle.engine.proofs.MaskBits.{and_say, and_by, minus_say, minus_by, part_le, one_last, one_more, one_cases}
use Rattle.engine.specs.Places.{ByStart, BeginsBelow, Cut, Firsts, Indexed, FirstsMade, Entered, Empty, Cleared, Behind, Marked, highest, Carried}
use Rattle.engine.specs.Worklist.{missed_by}
use Rattle.engine.specs.Rounds.{End}

has_or : (x k : ℕ) → Has x k ⊎ (Has x k → ⊥)
has_or x k = decide (bit x k)

-- ---- an index, entry by entry: those below v are new
pub record Entering (n : ℕ) (P : ℕ → ℕ → Type 0) (first₀ first : List ℕ) (v : ℕ) : Type 0 where
  pub upto : v ≤ n + 1
  pub long : length first ≡ length first₀
  pub done : (k : ℕ) → k < v → P k (get_or first k 0)
  pub later : (k : ℕ) → v ≤ k → get_or first k 0 ≡ get_or first₀ k 0

pub entering_start : (n : ℕ) (P : ℕ → ℕ → Type 0) (first : List ℕ) → Entering n P first first 0
entering_start n P first = record { upto = zero-le; long = refl; done = λ k l. absurd (omega arith); later = λ k l. refl }

module _ {n : ℕ} {P : ℕ → ℕ → Type 0} {first₀ first : List ℕ} {v : ℕ} (h : Entering n P first₀ first v) where
  pub entering_more : n < length first₀ → v ≤ n → {x : ℕ} → P v x → Entering n P first₀ (set first v x) (v + 1)
  entering_more len l {x} p =
      let new : get_or (set first v x) v 0 ≡ x = get_or-set_same first v x 0 (let z = h.long in omega arith) in
      record {
        upto = omega arith;
        long = length-set first v x ∙ h.long;
        done = λ k q. ⊎_elim
            (λ (e : k ≡ v). subst (λ (y : ℕ). P y (get_or (set first v x) y 0)) (sym e) (subst (P v) (sym new) p))
            (λ (e : k ≡ v → ⊥). subst (P k) (sym (get_or-set_other first v k x 0 e))
            (h.done k (⊎_elim (λ (z : k < v). z) (λ (z : v ≤ k). absurd (e (omega arith))) (lt_or_ge k v)))) (eq_or_ne k v);
        later = λ k q. get_or-set_other first v k x 0 (λ e. omega arith) ∙ h.later k (omega arith);
      }

  pub entering_end : n < v → Entered n P first₀ first
  entering_end l = record { long = h.long; each = λ k q. h.done k (omega arith); later = λ k q. h.later k (let z = h.upto in omega arith) }

-- ---- the entry behind a pair's node, pair by pair
pub marked_start : (n : ℕ) (w first : List ℕ) → Empty n first → Marked 0 n w first first
marked_start n w first e =
    record {
      long = refl;
      each = λ v l. (let z = e v l in record {
        before = record { upto = omega arith; below = λ j q. absurd (omega arith) };
        last = λ j q. absurd (omega arith);
      });
      later = λ k l. refl;
    }

module _ {d i n : ℕ} {w first₀ first : List ℕ} (p : ByStart d w) (l : i < d) (h : Marked i n w first₀ first) where
  -- the next pair's number goes behind its node
  pub marked_more : n < length first₀ → from_of w i < n → Marked (i + 1) n w first₀ (set first (from_of w i + 1) (i + 1))
  marked_more len f =
      let at = from_of w i + 1 in
      let new : get_or (set first at (i + 1)) at 0 ≡ i + 1 = get_or-set_same first at (i + 1) 0 (let z = h.long in omega arith) in
      let here : Behind (i + 1) w at (i + 1) = record {
        before = record {
          upto = omega arith;
          below = λ j q. ⊎_elim (λ (e : j ≡ i). (let z = ap (from_of w) e in omega arith)) (λ (z : j < i). (let y = p j i z l in omega arith)) (eq-or-lt_of_le (omega (arith, q)));
        };
        last = λ j q e. q;
      } in
      record {
        long = length-set first at (i + 1) ∙ h.long;
        each = λ v q. ⊎_elim
            (λ (e : v ≡ at). subst (λ (y : ℕ). Behind (i + 1) w y (get_or (set first at (i + 1)) y 0)) (sym e) (subst (Behind (i + 1) w at) (sym new) here))
            (λ (e : v ≡ at → ⊥). subst (Behind (i + 1) w v) (sym (get_or-set_other first at v (i + 1) 0 e)) (kept v (h.each v q) e)) (eq_or_ne v at);
        later = λ k q. get_or-set_other first at k (i + 1) 0 (λ e. omega arith) ∙ h.later k q;
      }
    where
      -- behind another node the next pair changes nothing
      kept : (v : ℕ) {k : ℕ} → Behind i w v k → (v ≡ from_of w i + 1 → ⊥) → Behind (i + 1) w v k
      kept v {k} b e =
          record {
            before = record { upto = (let u = b.before.upto in omega arith); below = b.before.below };
            last = λ j q f. ⊎_elim (λ (z : j ≡ i). absurd (e (sym f ∙ ap (λ (x : ℕ). from_of w x + 1) z))) (λ (z : j < i). b.last j z f) (eq-or-lt_of_le (omega (arith, q)));
          }

  -- no pair is left that begins below n
  pub marked_over : n ≤ from_of w i → Marked d n w first₀ first
  marked_over f =
      record {
        long = h.long;
        each = λ v q. (let b = h.each v q in record {
          before = record { upto = (let u = b.before.upto in omega arith); below = b.before.below };
          last = λ j m e. ⊎_elim (λ (z : j < i). b.last j z e)
              (λ (z : i ≤ j). absurd (⊎_elim (λ (y : i ≡ j). (let x = ap (from_of w) y in omega arith)) (λ (y : i < j). (let x = p i j y m in omega arith)) (eq-or-lt_of_le z))) (lt_or_ge j i);
        });
        later = h.later;
      }

-- ---- the greatest entry so far
pub highest_more : (l : List ℕ) (v : ℕ) → highest l (v + 1) ≡ max (highest l v) (get_or l v 0)
unfolding highest
highest_more l v = ap (highest l) (add-one v)

-- the entries below v are the greatest so far, and most is the greatest that stood there
abbrev pub Carrying : ℕ → List ℕ → List ℕ → ℕ → ℕ → Type 0
Carrying n first₀ first most v = Entering n (λ u k. k ≡ highest first₀ (suc u)) first₀ first v × (most ≡ highest first₀ v)

pub carrying_start : (n : ℕ) (first : List ℕ) → Carrying n first first 0 0
unfolding highest
carrying_start n first = (entering_start n _ first, refl)

pub carrying_more : {n : ℕ} {first₀ first : List ℕ} {most v : ℕ} → Carrying n first₀ first most v → n < length first₀ → v ≤ n → {x : ℕ} → x ≡ max most (get_or first v 0)
    → Carrying n first₀ (set first v x) x (v + 1)
carrying_more {n} {first₀} {first} {most} {v} h len l {x} e =
    let z : x ≡ highest first₀ (v + 1) = e ∙ ap₂ max h.1 (h.0.later v (omega arith)) ∙ sym (highest_more first₀ v) in
    (entering_more h.0 len l (z ∙ ap (highest first₀) (add-one v)), z)

-- the greatest of the entries behind the nodes is how many pairs begin below
module _ {d n : ℕ} {w first₀ first : List ℕ} (M : Marked d n w first₀ first) where
  -- from the pairs that begin below the node before v, and the entry behind that node
  cut_by : {v a b : ℕ} → BeginsBelow d w v a → ((j : ℕ) → a ≤ j → j < d → v ≤ from_of w j + 1) → Behind d w v b → Cut d w v (max a b)
  cut_by {v} {a} {b} h o m =
      record {
        before = record {
          upto = (let x = h.upto in let y = m.before.upto in omega arith);
          below = λ j q. ⊎_elim (λ (z : j < a). h.below j z) (λ (z : a ≤ j). m.before.below j (omega arith)) (lt_or_ge j a);
        };
        above = λ j q l. (let x = o j (omega arith) l in ⊎_elim (λ (z : from_of w j < v). absurd (let y = m.last j l (omega arith) in omega arith)) (λ (z : v ≤ from_of w j). z) (lt_or_ge (from_of w j) v));
      }

  pub highest_cut : (v : ℕ) → v ≤ n → Cut d w v (highest first (suc v))
  unfolding highest
  highest_cut zero l = cut_by record { upto = zero-le; below = λ j q. absurd (omega arith) } (λ j q m. zero-le) (M.each 0 l)
  highest_cut (suc v) l =
      let C = highest_cut v (omega arith) in
      cut_by record { upto = C.before.upto; below = λ j q. (let y = C.before.below j q in omega arith) } (λ j q m. (let y = C.above j q m in omega arith)) (M.each (suc v) l)

-- so the three steps make an index
pub firsts_made : {d n : ℕ} {w a b c e : List ℕ} → Cleared n a b → Marked d n w b c → Carried n c e → FirstsMade d n w a e
firsts_made {d} {n} {w} C M G =
    record {
      long = G.long ∙ M.long ∙ C.long;
      firsts = record { each = λ v l. subst (Cut d w v) (sym (G.each v l)) (highest_cut M v l) };
      later = λ k l. G.later k l ∙ M.later k l ∙ C.later k l;
    }

-- ---- the pairs that begin at v are exactly those from first[v] up to first[v + 1]
module _ {d n : ℕ} {w first : List ℕ} (F : Firsts d n w first) (v : ℕ) (l : v < n) (j : ℕ) where
  pub in_range : j < d → from_of w j ≡ v → (get_or first v 0 ≤ j) × (j < get_or first (v + 1) 0)
  in_range q e = (
    ⊎_elim (λ (z : j < get_or first v 0). absurd (let y = (F.each v (omega arith)).before.below j z in omega arith)) (λ (z : get_or first v 0 ≤ j). z) (lt_or_ge j (get_or first v 0)),
    ⊎_elim (λ (z : j < get_or first (v + 1) 0). z)
        (λ (z : get_or first (v + 1) 0 ≤ j). absurd (let y = (F.each (v + 1) (omega arith)).above j z q in omega arith)) (lt_or_ge j (get_or first (v + 1) 0)),
  )

  pub of_range : get_or first v 0 ≤ j → j < get_or first (v + 1) 0 → (j < d) × (from_of w j ≡ v)
  of_range a b =
      let u = (F.each (v + 1) (omega arith)).before.upto in
      let x = (F.each (v + 1) (omega arith)).before.below j b in
      let y = (F.each v (omega arith)).above j a (omega arith) in
      (omega arith, omega arith)

-- an index stays one while the pairs stay
pub firsts_again : {d n : ℕ} {w w' first : List ℕ} → ((i : ℕ) → i < d → get_or w' i 0 ≡ get_or w i 0) → Firsts d n w first → Firsts d n w' first
firsts_again {d} {n} {w} {w'} {first} same F =
    record {
      each = λ v l.
          let C = F.each v l in
          record {
            before = record { upto = C.before.upto; below = λ j q. (let u = C.before.upto in let e = same j (omega arith) in let y = C.before.below j q in omega arith) };
            above = λ j a b. (let e = same j b in let y = C.above j a b in omega arith);
          };
    }

pub indexed_again : {d n : ℕ} {w w' first : List ℕ} → ((i : ℕ) → i < d → get_or w' i 0 ≡ get_or w i 0) → Indexed d n w first → Indexed d n w' first
indexed_again same F = (F.0, firsts_again same F.1)

pub ends_part : {n d l b : ℕ} {w : List ℕ} → Ends n d w → n ≤ l → b ≤ d → Ends l b w
ends_part E p q =
    record {
      most = (let z = E.most in omega arith);
      long = E.long;
      from = λ i k. (let z = E.from i (omega arith) in omega arith);
      to = λ i k. (let z = E.to i (omega arith) in omega arith);
    }

pub range_rises : {d n : ℕ} {w first : List ℕ} → Firsts d n w first → (v : ℕ) → v < n → (get_or first v 0 ≤ get_or first (v + 1) 0) × (get_or first (v + 1) 0 ≤ d)
range_rises {d} {n} {w} {first} F v l =
    let k = get_or first (v + 1) 0 in
    let a = F.each v (omega arith) in
    let b = F.each (v + 1) (omega arith) in
    let u = a.before.upto in (
      ⊎_elim (λ (z : k < get_or first v 0). absurd (let x = a.before.below k z in let y = b.above k (omega arith) (omega arith) in omega arith)) (λ (z : get_or first v 0 ≤ k). z) (lt_or_ge k (get_or first v 0)),
      b.before.upto,
    )

-- ---- what the pairs of a range offer
-- a pair with a number from num a up to num b is held for the link e, which is in the masks at its far end
abbrev pub OfferedBy : End → (ℕ → ℕ) → List ℕ → ℕ → ℕ → List ℕ → ℕ → Type 0
OfferedBy far num w a b masks e = OneOf b (λ i. (a ≤ i) × Has (held_at w (num i)) e × Has (get_or masks (far (get_or w (num i) 0)) 0) e)

-- r has the links of want that are not offered
pub record Looked (far : End) (num : ℕ → ℕ) (w : List ℕ) (a b : ℕ) (masks : List ℕ) (want r : ℕ) : Type 0 where
  pub part : (e : ℕ) → Has r e → Has want e
  pub missing : (e : ℕ) → Has r e → OfferedBy far num w a b masks e → ⊥
  pub found : (e : ℕ) → Has want e → (Has r e → ⊥) → OfferedBy far num w a b masks e

module _ (far : End) (num : ℕ → ℕ) (w : List ℕ) (masks : List ℕ) (want a : ℕ) where
  pub missed_none : (k : ℕ) → k ≡ 0 → missed_by far num w masks want a k ≡ want
  unfolding missed_by
  missed_none k e = rw e

  -- the pair i more
  pub missed_more : (i : ℕ) → a ≤ i → {r : ℕ} → r ≡ missed_by far num w masks want a (i - a)
      → bit_xor r (bit_and r (bit_and (get_or w (8192 + num i) 0) (get_or masks (far (get_or w (num i) 0)) 0))) ≡ missed_by far num w masks want a ((i + 1) - a)
  unfolding missed_by
  missed_more i l {r} e =
      let k : (i + 1) - a ≡ suc (i - a) = omega arith in
      let j : a + (i - a) ≡ i = omega arith in
      ap (λ (x : ℕ). bit_xor x (bit_and x (bit_and (get_or w (8192 + num i) 0) (get_or masks (far (get_or w (num i) 0)) 0)))) e
      ∙ ap (λ (y : ℕ). bit_xor (missed_by far num w masks want a (i - a)) (bit_and (missed_by far num w masks want a (i - a)) (bit_and (get_or w (8192 + num y) 0) (get_or masks (far (get_or w (num y) 0)) 0)))) (sym j)
      ∙ ap (missed_by far num w masks want a) (sym k)

  -- nothing is added
  missed_falls : (k j : ℕ) → missed_by far num w masks want a (j + k) ≤ missed_by far num w masks want a k
  unfolding missed_by
  missed_falls k zero = let z : 0 + k ≡ k = omega arith in omega (arith, ap (missed_by far num w masks want a) z)
  missed_falls k (suc j) =
      let z : suc j + k ≡ suc (j + k) = omega arith in
      omega (
        arith,
        ap (missed_by far num w masks want a) z,
        missed_falls k j,
        part_le (missed_by far num w masks want a (suc (j + k))) (missed_by far num w masks want a (j + k)) (λ e h. (minus_say (missed_by far num w masks want a (j + k)) _ e h).0),
      )

  -- so where nothing is missing any more the rest need not be looked at
  pub missed_all : (i b : ℕ) → a ≤ i → i ≤ b → missed_by far num w masks want a (i - a) ≡ 0 → missed_by far num w masks want a (b - a) ≡ 0
  missed_all i b l q z =
      let k : b - a ≡ (b - i) + (i - a) = omega arith in
      let f = missed_falls (i - a) (b - i) in
      ap (missed_by far num w masks want a) k ∙ omega arith

  -- what is missed is what no pair of the range offers
  pub missed_looked : (k : ℕ) → Looked far num w a (a + k) masks want (missed_by far num w masks want a k)
  unfolding missed_by
  missed_looked zero =
      record {
        part = λ e h. h;
        missing = λ e h o. (let p = o.below in let q = o.holds.0 in omega arith);
        found = λ e h n. absurd (n h);
      }
  missed_looked (suc k) =
      let r = missed_by far num w masks want a k in
      let h = missed_looked k in
      let x = bit_and (get_or w (8192 + num (a + k)) 0) (get_or masks (far (get_or w (num (a + k)) 0)) 0) in
      let up : a + suc k ≡ (a + k) + 1 = omega arith in
      let l : a ≤ a + k = omega arith in
      subst (λ (b : ℕ). Looked far num w a b masks want (bit_xor r (bit_and r x))) (sym up)
      record {
        part = λ e p. h.part e (minus_say r x e p).0;
        missing = λ e p o. (let m = minus_say r x e p in ⊎_elim (λ q. h.missing e m.0 q) (λ q. m.1 (and_by _ _ e q.1 q.2)) (one_cases (a + k) o));
        found = λ e p n. ⊎_elim
            (λ (q : Has r e). ⊎_elim (λ (y : Has x e). let z = and_say _ _ e y in one_last (a + k) (l, z.0, z.1)) (λ y. absurd (n (minus_by r x e q y))) (has_or x e))
            (λ q. one_more (a + k) (h.found e p q)) (has_or r e);
      }

-- by the entries of an index
pub looked_by : (far : End) (num : ℕ → ℕ) {w : List ℕ} {a b a' b' : ℕ} {masks : List ℕ} {want r : ℕ} → a ≡ a' → b ≡ b' → a' ≤ b' → r ≡ missed_by far num w masks want a (b - a)
    → Looked far num w a' b' masks want r
looked_by far num {w} {a} {b} {a'} {b'} {masks} {want} {r} e f l q =
    let k : a' + (b' - a') ≡ b' = omega arith in
    let z : r ≡ missed_by far num w masks want a' (b' - a') = q ∙ ap₂ (λ (x y : ℕ). missed_by far num w masks want x (y - x)) e f in
    subst (λ (x : ℕ). Looked far num w a' b' masks want x) (sym z) (subst (λ (x : ℕ). Looked far num w a' x masks want (missed_by far num w masks want a' (b' - a'))) k (missed_looked far num w masks want a' (b' - a')))
