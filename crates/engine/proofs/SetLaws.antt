-- Sets of numbers, 32 to a word, and the nodes that are marked by them.
use mathlib.Core.Path.{◌≡◌, refl, ap, ◌∙◌, sym, subst}
use mathlib.Core.Logic.{◌⊎◌, inl, inr, ⊎_elim}
use mathlib.Core.List.{List}
use Prim.Native.Nat.{ℕ, zero, suc, ◌≤◌, ◌<◌, ◌+◌, ◌-◌, ◌*◌, ◌/◌, ◌%◌, ◌^◌, min, zero-le}
use native.Mathlib.Nat.{eq-or-lt_of_le}
use native.Mathlib.Omega.{arith}
use lib.ListN.{length, get_or, set, replicate, length-set, length-replicate}
use lib.Seq.{get_or-set_same, get_or-set_other}
use lib.Bits.{bit_and, bit_or, bit_xor, and_le_r}
use Rattle.packed.proofs.OrderCases.{lt_or_ge, eq_or_ne}
use Rattle.packed.proofs.ByValueLaws.{nothing_at}
use Rattle.engine.specs.Masks.{Has, OneOf}
use Rattle.engine.specs.Sweeping.{sum_to, held_at}
use Rattle.engine.proofs.Masks.{bit_self, bit_one}
use Rattle.engine.proofs.MaskBits.{none_has, or_left, or_right, or_cases, and_say, and_by, minus_say, minus_by, part_le, lowest_has, one_last, one_more}
use Rattle.engine.specs.MarkedSet.{Member, IsSet, cursor, NumberAdded, FirstWord, Drawn, IsMarked, Marks, AllMarked, TakenOut, Relies, MarkedEnd, MarkedBy}
use Rattle.engine.specs.Rounds.{End}

pub cast : {a b : ℕ} (k : ℕ) → a ≡ b → Has a k → Has b k
cast k e h = subst (λ (x : ℕ). Has x k) e h

-- ---- sums
sum_same : (n : ℕ) (s s' : List ℕ) → ((v : ℕ) → v < n → get_or s' v 0 ≡ get_or s v 0) → sum_to n s' ≡ sum_to n s
unfolding sum_to
sum_same zero s s' e = refl
sum_same (suc n) s s' e = let a = sum_same n s s' (λ v l. e v (omega arith)) in let b = e n (omega arith) in omega arith

-- one word is y
sum_word : (n : ℕ) (s s' : List ℕ) (at y : ℕ) → at < n → get_or s' at 0 ≡ y → ((v : ℕ) → v < n → (v ≡ at → ⊥) → get_or s' v 0 ≡ get_or s v 0) → sum_to n s' + get_or s at 0 ≡ sum_to n s + y
unfolding sum_to
sum_word zero s s' at y l h o = absurd (omega arith)
sum_word (suc n) s s' at y l h o =
    ⊎_elim
    (λ (e : n ≡ at).
    let a = sum_same n s s' (λ v q. o v (omega arith) (λ z. omega arith)) in
    let b : get_or s' n 0 ≡ y = ap (λ (k : ℕ). get_or s' k 0) e ∙ h in
    let f = ap (λ (k : ℕ). get_or s k 0) e in
    omega arith)
    (λ (e : n ≡ at → ⊥).
    let a = sum_word n s s' at y (⊎_elim (λ (z : at < n). z) (λ (z : n ≤ at). absurd (e (omega arith))) (lt_or_ge at n)) h (λ v q. o v (omega arith)) in
    let b = o n (omega arith) e in
    omega arith)
    (eq_or_ne n at)

pub sum_set : (n : ℕ) (s : List ℕ) (at y : ℕ) → at < n → at < length s → sum_to n (set s at y) + get_or s at 0 ≡ sum_to n s + y
sum_set n s at y l m = sum_word n s (set s at y) at y l (get_or-set_same s at y 0 m) (λ v q z. get_or-set_other s at v y 0 z)

pub sum_bound : (n : ℕ) (s : List ℕ) → ((k : ℕ) → get_or s k 0 < 2 ^ 32) → sum_to n s ≤ n * 2 ^ 32
unfolding sum_to
sum_bound zero s h = zero-le
sum_bound (suc n) s h = let a = sum_bound n s h in let b = h n in omega arith

-- a mask that loses a member falls
pub minus_lt : (a b k : ℕ) → Has a k → Has b k → bit_xor a (bit_and a b) < a
minus_lt a b k h i =
    let l = part_le (bit_xor a (bit_and a b)) a (λ e p. (minus_say a b e p).0) in
    ⊎_elim (λ (e : bit_xor a (bit_and a b) ≡ a). absurd ((minus_say a b k (cast k (sym e) h)).1 i)) (λ (z : bit_xor a (bit_and a b) < a). z) (eq-or-lt_of_le l)

-- ---- one word of a set is y, and the cursor is z
record Stored (s : List ℕ) (at y z : ℕ) (s' : List ℕ) : Type 0 where
  pub long : length s' ≡ length s
  pub here : get_or s' at 0 ≡ y
  pub others : (k : ℕ) → k < 256 → (k ≡ at → ⊥) → get_or s' k 0 ≡ get_or s k 0
  pub moved : cursor s' ≡ z

stored : (s : List ℕ) (at y z : ℕ) → at < 256 → length s ≡ 257 → Stored s at y z (set (set s at y) 256 z)
stored s at y z l len =
    let e = length-set s at y in
    record {
      long = length-set (set s at y) 256 z ∙ e;
      here = get_or-set_other (set s at y) 256 at z 0 (λ q. omega arith) ∙ get_or-set_same s at y 0 (omega arith);
      others = λ k m n. get_or-set_other (set s at y) 256 k z 0 (λ q. omega arith) ∙ get_or-set_other s at k y 0 n;
      moved = get_or-set_same (set s at y) 256 z 0 (omega arith);
    }

module _ {s : List ℕ} {at y z : ℕ} {s' : List ℕ} (S : Stored s at y z s') (x : ℕ) where
  same_word : x / 32 ≡ at → get_or s' (x / 32) 0 ≡ y
  same_word e = ap (λ (k : ℕ). get_or s' k 0) e ∙ S.here

  other_word : x < 8192 → (x / 32 ≡ at → ⊥) → get_or s' (x / 32) 0 ≡ get_or s (x / 32) 0
  other_word l n = S.others (x / 32) (omega arith) n

stored_set : {s : List ℕ} {at y z : ℕ} {s' : List ℕ} → Stored s at y z s' → length s ≡ 257 → at < 256 → z ≤ at → ((k : ℕ) → k < z → get_or s k 0 ≡ 0) → IsSet s'
stored_set S len l le n =
    let e = S.moved in
    record { long = S.long ∙ len; upto = omega arith; passed = λ k q. S.others k (omega arith) (λ u. omega arith) ∙ n k (omega arith) }

-- ---- adding
pub add_by : (s : List ℕ) (v b z : ℕ) → length s ≡ 257 → v < 8192 → b ≡ 2 ^ (v % 32) → let y = bit_or (get_or s (v / 32) 0) b in z ≡ min (cursor (set s (v / 32) y)) (v / 32) → NumberAdded v s (set (set s (v / 32) y) 256 z)
add_by s v b z len l e low =
    let old = get_or s (v / 32) 0 in
    let S = stored s (v / 32) (bit_or old b) z (omega arith) len in
    let same = get_or-set_other s (v / 32) 256 (bit_or old b) 0 (λ q. omega arith) in
    record {
      long = S.long;
      is_set = λ I. stored_set S I.long (omega arith) (omega arith) (λ k q. I.passed k (omega arith));
      moved = S.moved ∙ low ∙ ap (λ (k : ℕ). min k (v / 32)) same;
      hit = (l, cast (v % 32) (sym (same_word S v refl)) (or_right old b (v % 32) (cast (v % 32) (sym e) (bit_self (v % 32)))));
      keeps = λ x h. (
        h.0,
        ⊎_elim
            (λ (q : x / 32 ≡ v / 32). cast (x % 32) (sym (same_word S x q)) (or_left old b (x % 32) (cast (x % 32) (ap (λ (k : ℕ). get_or s k 0) q) h.1)))
            (λ q. cast (x % 32) (sym (other_word S x h.0 q)) h.1) (eq_or_ne (x / 32) (v / 32)),
      );
      why = λ x h. ⊎_elim
          (λ (q : x / 32 ≡ v / 32). ⊎_elim
          (λ p. inl (h.0, cast (x % 32) (sym (ap (λ (k : ℕ). get_or s k 0) q)) p))
          (λ p. inr (let z = bit_one (v % 32) (x % 32) (cast (x % 32) e p) in omega arith))
          (or_cases old b (x % 32) (cast (x % 32) (same_word S x q) h.1)))
          (λ q. inl (h.0, cast (x % 32) (other_word S x h.0 q) h.1)) (eq_or_ne (x / 32) (v / 32));
    }

-- ---- taking
pub no_word : {s : List ℕ} {at : ℕ} → FirstWord s at → 256 ≤ at → Drawn s 8192 s
no_word F l =
    record {
      long = refl;
      is_set = λ I. I;
      moved = λ q. absurd (omega arith);
      none = λ q. refl;
      upto = omega arith;
      lowest = λ x q h. none_has (x % 32) (cast (x % 32) (F.passed (x / 32) (omega arith)) h.1);
      was = λ q. absurd (omega arith);
      keeps = λ x q h. h;
      why = λ x h. (h, λ q. absurd (omega arith));
      fell = λ q. absurd (omega arith);
    }

module _ {s : List ℕ} {at : ℕ} (F : FirstWord s at) (l : at < 256) (p : ℕ) (m : p < 32) (h : Has (get_or s at 0) p) (low : (k : ℕ) → k < p → Has (get_or s at 0) k → ⊥) where
  pub take_by : length s ≡ 257 → (b : ℕ) → b ≡ 2 ^ p → Drawn s (32 * at + p) (set (set s at (bit_xor (get_or s at 0) (bit_and (get_or s at 0) b))) 256 at)
  take_by len b e =
      let old = get_or s at 0 in
      let y = bit_xor old (bit_and old b) in
      let S = stored s at y at l len in
      let has-b : Has b p = cast p (sym e) (bit_self p) in
      let r = 32 * at + p in
      let word : r / 32 ≡ at = omega arith in
      let place : r % 32 ≡ p = omega arith in
      record {
        long = S.long;
        is_set = λ I. stored_set S I.long l (omega arith) F.passed;
        moved = λ q. S.moved ∙ sym word;
        none = λ q. absurd (omega arith);
        upto = omega arith;
        lowest = λ x q h. ⊎_elim
            (λ (z : x / 32 < at). none_has (x % 32) (cast (x % 32) (F.passed (x / 32) z) h.1))
            (λ (z : at ≤ x / 32). low (x % 32) (omega arith) (cast (x % 32) (ap (λ (k : ℕ). get_or s k 0) (let t : x / 32 ≡ at = omega arith in t)) h.1)) (lt_or_ge (x / 32) at);
        was = λ q. (q, subst (λ (k : ℕ). Has (get_or s (r / 32) 0) k) (sym place) (cast p (sym (ap (λ (k : ℕ). get_or s k 0) word)) h));
        keeps = λ x q h. (
          h.0,
          ⊎_elim
              (λ (z : x / 32 ≡ at). cast (x % 32) (sym (same_word S x z)) (minus_by old b (x % 32) (cast (x % 32) (ap (λ (k : ℕ). get_or s k 0) z) h.1)
              (λ i. q (let u = bit_one p (x % 32) (cast (x % 32) e i) in omega arith))))
              (λ z. cast (x % 32) (sym (other_word S x h.0 z)) h.1) (eq_or_ne (x / 32) at),
        );
        why = λ x h. ⊎_elim
            (λ (z : x / 32 ≡ at).
            let i = minus_say old b (x % 32) (cast (x % 32) (same_word S x z) h.1) in
            ((h.0, cast (x % 32) (sym (ap (λ (k : ℕ). get_or s k 0) z)) i.0), λ q u. i.1 (subst (Has b) (let t : p ≡ x % 32 = omega arith in t) has-b)))
            (λ (z : x / 32 ≡ at → ⊥). ((h.0, cast (x % 32) (other_word S x h.0 z) h.1), λ q u. z (omega arith))) (eq_or_ne (x / 32) at);
        fell = λ q. (let u = sum_word 256 s (set (set s at y) 256 at) at y l S.here S.others in let t = minus_lt old b p h has-b in omega arith);
      }

-- ---- marking nodes
-- the one of its two numbers by which v is marked
abbrev pub NumberFor : List ℕ → List ℕ → ℕ → ℕ → Type 0
NumberFor first back v x =
    ((get_or first (v + 1) 0 + get_or back (v + 1) 0 < get_or first v 0 + get_or back v 0 + 16) × (x ≡ v)) ⊎ ((get_or first v 0 + get_or back v 0 + 16 ≤ get_or first (v + 1) 0 + get_or back (v + 1) 0) × (x ≡ 4096 + v))

pub added_marks : {first back : List ℕ} {v x : ℕ} {s s' : List ℕ} → v < 4096 → NumberFor first back v x → NumberAdded x s s' → Marks first back v s s'
added_marks {first} {back} {v} {x} {s} {s'} l place A =
    let is : (x ≡ v) ⊎ (x ≡ 4096 + v) = ⊎_elim (λ p. inl p.1) (λ p. inr p.1) place in
    record {
      long = A.long;
      is_set = A.is_set;
      hit = ⊎_elim (λ (e : x ≡ v). inl (subst (Member s') e A.hit)) (λ (e : x ≡ 4096 + v). inr (subst (Member s') e A.hit)) is;
      keeps = λ y h. ⊎_elim (λ m. inl (A.keeps y m)) (λ m. inr (A.keeps (4096 + y) m)) h;
      why = λ y k h. ⊎_elim
          (λ (m : Member s' y). ⊎_elim (λ p. inl (inl p)) (λ (e : y ≡ x). inr (⊎_elim (λ (q : x ≡ v). e ∙ q) (λ (q : x ≡ 4096 + v). absurd (omega arith)) is)) (A.why y m))
          (λ (m : Member s' (4096 + y)). ⊎_elim (λ p. inl (inr p)) (λ (e : 4096 + y ≡ x). inr (⊎_elim (λ (q : x ≡ v). absurd (omega arith)) (λ (q : x ≡ 4096 + v). let z : y ≡ v = omega arith in z) is)) (A.why (4096 + y) m))
          h;
      few = λ k. ⊎_elim (λ p. subst (λ (y : ℕ). NumberAdded y s s') p.1 A) (λ p. absurd (omega (arith, p.0))) place;
      many = λ k. ⊎_elim (λ p. absurd (omega (arith, p.0))) (λ p. subst (λ (y : ℕ). NumberAdded y s s') p.1 A) place;
    }

module _ {s : List ℕ} {x : ℕ} {s' : List ℕ} (L : Drawn s x s') where
  drawn_why : (y : ℕ) → IsMarked s' y → IsMarked s y
  drawn_why y h = ⊎_elim (λ m. inl (L.why y m).0) (λ m. inr (L.why (4096 + y) m).0) h

  pub drawn_first : x < 4096 → TakenOut s x s'
  drawn_first l =
      record {
        long = L.long;
        is_set = L.is_set;
        upto = omega arith;
        none = λ k. absurd (omega arith);
        was = λ k. inl (L.was (omega arith));
        lesser = λ y k m. L.was (omega arith);
        gone = λ k. (λ m. (L.why x m).1 (omega arith) refl, λ m. L.was (omega arith));
        keeps = λ y k n h. ⊎_elim (λ m. inl (L.keeps y n m)) (λ m. inr (L.keeps (4096 + y) (λ e. omega arith) m)) h;
        why = drawn_why;
        fell = λ k. L.fell (omega arith);
      }

  pub drawn_second : 4096 ≤ x → TakenOut s (x - 4096) s'
  drawn_second l =
      let u = L.upto in
      record {
        long = L.long;
        is_set = L.is_set;
        upto = omega arith;
        none = λ k y q h. ⊎_elim (L.lowest y (omega arith)) (L.lowest (4096 + y) (omega arith)) h;
        lesser = λ y k m. absurd (L.lowest y (omega arith) m);
        gone = λ k. (λ m. L.lowest (x - 4096) (omega arith) (L.why (x - 4096) m).0, λ m. absurd ((L.why (4096 + (x - 4096)) m).1 (omega arith) (omega arith)));
        was = λ k. inr (subst (Member s) (let e : x ≡ 4096 + (x - 4096) = omega arith in e) (L.was (omega arith)));
        keeps = λ y k n h. ⊎_elim (λ m. inl (L.keeps y (λ e. omega arith) m)) (λ m. inr (L.keeps (4096 + y) (λ e. n (omega arith)) m)) h;
        why = drawn_why;
        fell = λ k. L.fell (omega arith);
      }

-- ---- the blank set
blank_none : (x : ℕ) → Member (replicate 257 0) x → ⊥
blank_none x h = none_has (x % 32) (cast (x % 32) (nothing_at 257 (x / 32)) h.1)

pub blank_unmarked : (v : ℕ) → IsMarked (replicate 257 0) v → ⊥
blank_unmarked v h = ⊎_elim (blank_none v) (blank_none (4096 + v)) h

pub blank_set : IsSet (replicate 257 0)
blank_set = let e = nothing_at 257 256 in record { long = length-replicate {A = ℕ} 257 0; upto = omega arith; passed = λ k l. nothing_at 257 k }

-- the nodes below v are marked, and no other
pub full_start : (s : List ℕ) → IsSet s → ((v : ℕ) → v < 4096 → IsMarked s v → ⊥) → AllMarked 0 s
full_start s I n = record { is_set = I; each = λ x l. absurd (omega arith); why = λ x l h. absurd (n x l h) }

pub full_more : {first back : List ℕ} {v : ℕ} {s s' : List ℕ} → AllMarked v s → Marks first back v s s' → AllMarked (v + 1) s'
full_more {v = v} {s} {s'} F M =
    record {
      is_set = M.is_set F.is_set;
      each = λ x l. ⊎_elim (λ (q : x < v). M.keeps x (F.each x q)) (λ (q : v ≤ x). subst (IsMarked s') (let e : v ≡ x = omega arith in e) M.hit) (lt_or_ge x v);
      why = λ x l h. ⊎_elim (λ p. let z = F.why x l p in omega arith) (λ (e : x ≡ v). omega arith) (M.why x l h);
    }

-- ---- marking ends of pairs
module _ (near : End) (w : List ℕ) (lost : ℕ) (masks : List ℕ) where
  pub end_whole : (i : ℕ) (s : List ℕ) → bit_and (held_at w i) (bit_and (get_or masks (near (get_or w i 0)) 0) lost) ≡ 0 → MarkedEnd near w lost masks i s s
  end_whole i s z =
      record { long = refl; is_set = λ I. I; keeps = λ x h. h; hit = λ e a b c. absurd (none_has e (cast e z (and_by _ _ e a (and_by _ _ e b c)))); why = λ x l h. inl h }

  pub end_marked : (i : ℕ) {first back s s' : List ℕ} → (bit_and (held_at w i) (bit_and (get_or masks (near (get_or w i 0)) 0) lost) ≡ 0 → ⊥) → lost < 2 ^ 32 → Marks first back (near (get_or w i 0)) s s' → MarkedEnd near w lost masks i s s'
  end_marked i z f m =
      let both = bit_and (get_or masks (near (get_or w i 0)) 0) lost in
      let p = and_le_r (held_at w i) both in
      let q = and_le_r (get_or masks (near (get_or w i 0)) 0) lost in
      let o = lowest_has 32 (bit_and (held_at w i) both) (omega arith) (omega arith) in
      let a = and_say _ _ _ o.1 in
      let b = and_say _ _ _ a.1 in
      record {
        long = m.long;
        is_set = m.is_set;
        keeps = m.keeps;
        hit = λ e a b c. m.hit;
        why = λ x l h. ⊎_elim (λ p. inl p) (λ p. inr (sym p, record { at = _; below = o.0; holds = (a.0, b.0, b.1) })) (m.why x l h);
      }

  -- the pairs whose numbers are num a and those up to num k
  pub record MarkedRange (num : ℕ → ℕ) (a k : ℕ) (s s' : List ℕ) : Type 0 where
    pub long : length s' ≡ length s
    pub is_set : IsSet s → IsSet s'
    pub keeps : (x : ℕ) → IsMarked s x → IsMarked s' x
    pub hit : (j e : ℕ) → a ≤ j → j < k → Has (held_at w (num j)) e → Has (get_or masks (near (get_or w (num j) 0)) 0) e → Has lost e → IsMarked s' (near (get_or w (num j) 0))
    pub why : (x : ℕ) → x < 4096 → IsMarked s' x → IsMarked s x ⊎ OneOf k (λ j. (a ≤ j) × (near (get_or w (num j) 0) ≡ x) × Relies near w lost masks (num j))

  pub range_start : (num : ℕ → ℕ) (a k : ℕ) (s : List ℕ) → k ≡ a → MarkedRange num a k s s
  range_start num a k s z = record { long = refl; is_set = λ I. I; keeps = λ x h. h; hit = λ j e l m. absurd (omega arith); why = λ x l h. inl h }

  pub range_next : (num : ℕ → ℕ) {a k : ℕ} {s₀ s s' : List ℕ} → MarkedRange num a k s₀ s → a ≤ k → {i : ℕ} → i ≡ num k → MarkedEnd near w lost masks i s s' → MarkedRange num a (k + 1) s₀ s'
  range_next num {a} {k} {s₀} {s} {s'} h m {i} y R =
      let r = subst (λ (i : ℕ). MarkedEnd near w lost masks i s s') y R in
      record {
        long = r.long ∙ h.long;
        is_set = λ I. r.is_set (h.is_set I);
        keeps = λ x p. r.keeps x (h.keeps x p);
        hit = λ j e n l x y z. ⊎_elim
            (λ (q : j < k). r.keeps _ (h.hit j e n q x y z))
            (λ (q : k ≤ j).
            let i : k ≡ j = omega arith in
            subst (λ (j : ℕ). Has (held_at w (num j)) e → Has (get_or masks (near (get_or w (num j) 0)) 0) e → Has lost e → IsMarked s' (near (get_or w (num j) 0))) i (r.hit e) x y z)
            (lt_or_ge j k);
        why = λ x l p. ⊎_elim (λ q. ⊎_elim (λ u. inl u) (λ u. inr (one_more k u)) (h.why x l q)) (λ q. inr (one_last k (m, q.0, q.1))) (r.why x l p);
      }

  -- they are just the pairs whose far end is v
  pub range_end : (far : End) (num : ℕ → ℕ) {d a b v k : ℕ} {s s' : List ℕ} → ((i : ℕ) → i < d → far (get_or w i 0) ≡ v → OneOf b (λ j. (a ≤ j) × (num j ≡ i)))
      → ((j : ℕ) → a ≤ j → j < b → (num j < d) × (far (get_or w (num j) 0) ≡ v)) → MarkedRange num a k s s' → k ≡ b → MarkedBy near far d w v lost masks s s'
  range_end far num {d} {a} {b} {v} {k} {s} {s'} at of h z =
      record {
        long = h.long;
        is_set = h.is_set;
        keeps = h.keeps;
        hit = λ i e m t x y u.
            (let o = at i m t in
            let q = o.holds.1 in
            let b = o.below in
            subst (λ (i : ℕ). Has (held_at w i) e → Has (get_or masks (near (get_or w i 0)) 0) e → Has lost e → IsMarked s' (near (get_or w i 0))) q (h.hit o.at e o.holds.0 (omega arith)) x y u);
        why = λ x lx p. ⊎_elim (λ q. inl q)
            (λ o. inr (
            let r = of o.at o.holds.0 (let b = o.below in omega arith) in
            record { at = num o.at; below = r.0; holds = (o.holds.1, r.1, o.holds.2) }))
            (h.why x lx p);
      }

  pub none_marked : (far : End) (d v : ℕ) (s : List ℕ) → lost ≡ 0 → MarkedBy near far d w v lost masks s s
  none_marked far d v s z = record { long = refl; is_set = λ I. I; keeps = λ x h. h; hit = λ i e l t x y u. absurd (none_has e (cast e z u)); why = λ x l h. inl h }
