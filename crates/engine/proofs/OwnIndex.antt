-- The index of edges in the workspace: each entry is where the pairs that begin at its node stand, and a lent index is judged by that.
use mathlib.Core.Path.{◌≡◌, refl, ap, ap₂, sym, subst, ◌∙◌}
use mathlib.Core.Bool.{Bool, true, false}
use mathlib.Core.Logic.{⊎_elim}
use mathlib.Core.List.{List, [], ◌∷◌, ◌++◌}
use Prim.Native.Nat.{ℕ, zero, suc, ◌≤◌, ◌<◌, ◌+◌, ◌-◌, zero-le}
use native.Mathlib.Omega.{arith}
use native.Mathlib.Nat.{eq-or-lt_of_le}
use lib.ListN.{length, get_or, drop, length-append, length-drop, get_or-append}
use lib.Seq.{sets, get_or-drop, get_or_at, get_or-append-add, ext_get_or}
use lib.Dec.{eqb, ltb}
use borrow.Author.Tests.{lt-ltb, le-ltb, eq-eqb, ne_eqb, eqb-true, eqb-false}
use Rattle.packed.specs.Format.{pick}
use Rattle.packed.specs.Calls.{Outcome, refuse}
use Rattle.packed.proofs.OrderCases.{lt_or_ge}
use Rattle.packed.proofs.Sets.{sets_front}
use Rattle.engine.specs.Lists.{put, keep, up_to}
use Rattle.engine.specs.Simulation.{Edge}
use Rattle.engine.specs.Index.{begin_below, index_for, alike, own_index}
use Rattle.engine.specs.Loaded.{edge_of_word}
use Rattle.engine.specs.Sweeping.{from_of, Ends}
use Rattle.engine.specs.Places.{Cut, Firsts, FirstsMade, edges_at, Compared}
use Rattle.engine.proofs.UpToLaws.{length_up_to, get_d_up_to}

-- ---- how many members pass a test
module _ {A : Type 0} where
  -- a test that the first k pass, and none after them
  keep_front : (t : A → Bool) (f : ℕ → A) (d k : ℕ) → k ≤ d → ((j : ℕ) → j < k → t (f j) ≡ true) → ((j : ℕ) → k ≤ j → j < d → t (f j) ≡ false) → length (keep t (up_to f d)) ≡ k
  unfolding keep up_to
  keep_front t f zero k l a b = omega arith
  keep_front t f (suc d) zero l a b =
      ap (λ (x : Bool). length (put x (f 0) (keep t (up_to (λ j. f (suc j)) d)))) (b 0 (omega arith) (omega arith))
      ∙ keep_front t (λ j. f (suc j)) d zero (omega arith) (λ j q. absurd (omega arith)) (λ j p q. b (suc j) (omega arith) (omega arith))
  keep_front t f (suc d) (suc k) l a b =
      ap (λ (x : Bool). length (put x (f 0) (keep t (up_to (λ j. f (suc j)) d)))) (a 0 (omega arith))
      ∙ ap suc (keep_front t (λ j. f (suc j)) d k (omega arith) (λ j q. a (suc j) (omega arith)) (λ j p q. b (suc j) (omega arith) (omega arith)))

-- ---- the entries
pub cut_count : {d : ℕ} {w : List ℕ} {v k : ℕ} → Cut d w v k → begin_below (edges_at d w) v ≡ k
unfolding begin_below
cut_count {d} {w} {v} {k} C =
    keep_front (λ (e : Edge). ltb e.from v) (λ i. edge_of_word (get_or w i 0)) d k C.before.upto (λ j l. lt-ltb (from_of w j) v (C.before.below j l))
    (λ j a b. le-ltb (from_of w j) v (C.above j a b))

module _ (n : ℕ) (edges : List Edge) where
  pub index_long : length (index_for n edges) ≡ n + 1
  unfolding index_for
  index_long = length-append (up_to (begin_below edges) n) (length edges ∷ []) ∙ omega (arith, length_up_to (begin_below edges) n)

  index_at : (v : ℕ) → v < n → get_or (index_for n edges) v 0 ≡ begin_below edges v
  unfolding index_for
  index_at v l =
      get_or-append (up_to (begin_below edges) n) (length edges ∷ []) 0 v (omega (arith, length_up_to (begin_below edges) n)) ∙ get_d_up_to (begin_below edges) n v 0 l

  index_last : get_or (index_for n edges) n 0 ≡ length edges
  unfolding index_for
  index_last = get_or_at (up_to (begin_below edges) n) (length edges) [] 0 n (length_up_to (begin_below edges) n)

module _ {d n : ℕ} {w : List ℕ} (E : Ends n d w) where
  abbrev own : List ℕ
  own = index_for n (edges_at d w)

  -- where the pairs that begin below a node end is the node's entry
  pub cut_entry : {v k : ℕ} → v ≤ n → Cut d w v k → get_or own v 0 ≡ k
  cut_entry {v} {k} l C =
      ⊎_elim
      (λ (e : v ≡ n).
      let all : k ≡ d =
      ⊎_elim (λ (q : k < d). absurd (let a = C.above k (omega arith) q in let b = E.from k q in omega arith)) (λ (q : d ≤ k). let u = C.before.upto in omega arith) (lt_or_ge k d) in
      ap (λ (x : ℕ). get_or own x 0) e ∙ index_last n (edges_at d w) ∙ length_up_to (λ i. edge_of_word (get_or w i 0)) d ∙ sym all)
      (λ (q : v < n). index_at n (edges_at d w) v q ∙ cut_count C)
      (eq-or-lt_of_le l)

  -- an index of the pairs, at the front of what was lent for it
  pub firsts_front : {out out' : List ℕ} → FirstsMade d n w out out' → n < length out → out' ≡ sets out 0 own
  firsts_front {out} {out'} F l =
      let o = index_long n (edges_at d w) in
      let x = length-append own (drop (length own) out) in
      let y = length-drop (length own) out in
      let z = F.long in
      ext_get_or 0 out' (own ++ drop (length own) out) (omega arith)
      (λ i q.
      ⊎_elim
      (λ (a : i < n + 1). sym (get_or-append own (drop (length own) out) 0 i (omega arith) ∙ cut_entry (omega arith) (F.firsts.each i (omega arith))))
      (λ (a : n + 1 ≤ i).
      let k : i ≡ length own + (i - length own) = omega arith in
      F.later i (omega arith)
      ∙ ap (λ (m : ℕ). get_or out m 0) k
      ∙ sym (ap (λ (m : ℕ). get_or (own ++ drop (length own) out) m 0) k ∙ get_or-append-add own (drop (length own) out) (i - length own) 0 ∙ get_or-drop (length own) out (i - length own) 0))
      (lt_or_ge i (n + 1)))
      ∙ sym (sets_front out own (omega arith))

-- ---- two indexes, entry by entry
pub alike_at : (k l : List ℕ) (r : ℕ) → length k ≡ length l → r ≤ length k → ((j : ℕ) → j < r → get_or k j 0 ≡ get_or l j 0)
    → (r < length k → get_or k r 0 ≡ get_or l r 0 → ⊥) → alike k l ≡ r
unfolding alike
alike_at [] [] r e h s n = omega arith
alike_at [] (y ∷ l) r e h s n = absurd (omega arith)
alike_at (x ∷ k) [] r e h s n = absurd (omega arith)
alike_at (x ∷ k) (y ∷ l) zero e h s n = rw (ne_eqb x y (n (omega arith)))
alike_at (x ∷ k) (y ∷ l) (suc r) e h s n =
    let a = alike_at k l r (omega arith) (omega arith) (λ j q. s (suc j) (omega arith)) (λ q. n (omega arith)) in
    rw (eq-eqb x y (s 0 (omega arith))) (ap suc a)

pub alike_self : (k : List ℕ) → alike k k ≡ length k
alike_self k = alike_at k k (length k) refl (omega arith) (λ j q. refl) (λ q. absurd (omega arith))

pub alike_all : (k l : List ℕ) → length k ≡ length l → alike k l ≡ length k → k ≡ l
unfolding alike
alike_all [] [] e h = refl
alike_all [] (y ∷ l) e h = absurd (omega arith)
alike_all (x ∷ k) [] e h = absurd (omega arith)
alike_all (x ∷ k) (y ∷ l) e h = go (eqb x y) refl h (λ q. alike_all k l (omega arith) q)
  where
    go : (b : Bool) → eqb x y ≡ b → pick b (suc (alike k l)) 0 ≡ suc (length k) → (alike k l ≡ length k → k ≡ l) → x ∷ k ≡ y ∷ l
    go true t q rest = ap₂ (λ (z : ℕ) (m : List ℕ). z ∷ m) (eqb-true x y t) (rest (omega arith))
    go false t q rest = absurd (omega arith)

alike_upto : (k l : List ℕ) → alike k l ≤ length k
unfolding alike
alike_upto [] l = omega arith
alike_upto (x ∷ k) [] = omega arith
alike_upto (x ∷ k) (y ∷ l) = go (eqb x y) (alike_upto k l)
  where
    go : (b : Bool) → alike k l ≤ length k → pick b (suc (alike k l)) 0 ≤ suc (length k)
    go true q = omega arith
    go false q = omega arith

-- the first that differs, and those before it
pub alike_say : (k l : List ℕ) → length k ≡ length l → alike k l < length k
    → (get_or k (alike k l) 0 ≡ get_or l (alike k l) 0 → ⊥) × ((i : ℕ) → i < alike k l → get_or k i 0 ≡ get_or l i 0)
unfolding alike
alike_say [] l e q = absurd (omega arith)
alike_say (x ∷ k) [] e q = absurd (omega arith)
alike_say (x ∷ k) (y ∷ l) e q = go (eqb x y) refl q (λ p. alike_say k l (omega arith) p)
  where
    same : x ≡ y → (n : ℕ) → ((i : ℕ) → i < n → get_or k i 0 ≡ get_or l i 0) → (i : ℕ) → i < suc n → get_or (x ∷ k) i 0 ≡ get_or (y ∷ l) i 0
    same t n rest zero h = t
    same t n rest (suc i) h = rest i (omega arith)

    go : (b : Bool) → eqb x y ≡ b → pick b (suc (alike k l)) 0 < suc (length k)
        → (alike k l < length k → (get_or k (alike k l) 0 ≡ get_or l (alike k l) 0 → ⊥) × ((i : ℕ) → i < alike k l → get_or k i 0 ≡ get_or l i 0))
        → (get_or (x ∷ k) (pick b (suc (alike k l)) 0) 0 ≡ get_or (y ∷ l) (pick b (suc (alike k l)) 0) 0 → ⊥)
        × ((i : ℕ) → i < pick b (suc (alike k l)) 0 → get_or (x ∷ k) i 0 ≡ get_or (y ∷ l) i 0)
    go true t p rest = let r = rest (omega arith) in (r.0, same (eqb-true x y t) (alike k l) r.1)
    go false t p rest = (eqb-false x y t, λ i h. absurd (omega arith))

module _ (own index : List ℕ) (a : Outcome) where
  -- the record's own index is accepted
  pub own_accepted : index ≡ own → own_index own index a ≡ a
  unfolding own_index
  own_accepted e = rw (e, alike_self own, eq-eqb (length own) (length own) refl)

  -- one with another number of entries is not
  pub own_number : (length index ≡ length own → ⊥) → own_index own index a ≡ refuse 16 (length index)
  unfolding own_index
  own_number n = rw (ne_eqb (length index) (length own) n)

  -- nor one that differs
  pub own_position : (r : ℕ) → length index ≡ length own → alike own index ≡ r → r < length own → own_index own index a ≡ refuse 16 r
  unfolding own_index
  own_position r e q l = rw (eq-eqb (length index) (length own) e, q, ne_eqb r (length own) (λ z. omega arith))

  pub own_differs : length index ≡ length own → (alike own index ≡ length own → ⊥) → (own_index own index a ≡ refuse 16 (alike own index)) × (alike own index < length own)
  own_differs e n =
      let l : alike own index < length own = ⊎_elim (λ (z : alike own index ≡ length own). absurd (n z)) (λ (z : alike own index < length own). z) (eq-or-lt_of_le (alike_upto own index)) in
      (own_position (alike own index) e refl l, l)

-- ---- two indexes, entry by entry: those below v are alike
pub record Comparing (n : ℕ) (own index : List ℕ) (v : ℕ) : Type 0 where
  pub upto : v ≤ n + 1
  pub same : (k : ℕ) → k < v → get_or own k 0 ≡ get_or index k 0

pub comparing_start : (n : ℕ) (own index : List ℕ) → Comparing n own index 0
comparing_start n own index = record { upto = zero-le; same = λ k l. absurd (omega arith) }

module _ {n : ℕ} {own index : List ℕ} {v : ℕ} (h : Comparing n own index v) where
  pub comparing_more : v ≤ n → get_or own v 0 ≡ get_or index v 0 → Comparing n own index (v + 1)
  comparing_more l e =
      record {
        upto = omega arith;
        same = λ k q. ⊎_elim (λ (z : k < v). h.same k z) (λ (z : v ≤ k). let y : v ≡ k = omega arith in subst (λ (x : ℕ). get_or own x 0 ≡ get_or index x 0) y e) (lt_or_ge k v);
      }

  pub comparing_differs : (get_or own v 0 ≡ get_or index v 0 → ⊥) → Compared n own index v
  comparing_differs e = record { upto = h.upto; same = h.same; differs = λ q. e }

  pub comparing_end : n < v → Compared n own index v
  comparing_end l = record { upto = h.upto; same = h.same; differs = λ q. absurd (omega arith) }

-- ---- and what falls to it
module _ (d n : ℕ) (w index : List ℕ) where
  pub judged_number : (length index ≡ n + 1 → ⊥) → (a : Outcome) → own_index (index_for n (edges_at d w)) index a ≡ refuse 16 (length index)
  judged_number q a = own_number (index_for n (edges_at d w)) index a (λ e. q (e ∙ index_long n (edges_at d w)))

  module _ (E : Ends n d w) (long : length index ≡ n + 1) {made : List ℕ} (F : Firsts d n w made) {r : ℕ} (C : Compared n made index r) where
    -- an entry of the pairs' index, as it was made
    made-entry : (v : ℕ) → v ≤ n → get_or (index_for n (edges_at d w)) v 0 ≡ get_or made v 0
    made-entry v l = cut_entry E l (F.each v l)

    pub judged_position : r ≤ n → (a : Outcome) → own_index (index_for n (edges_at d w)) index a ≡ refuse 16 r
    judged_position l a =
        let o = index_long n (edges_at d w) in
        own_position (index_for n (edges_at d w)) index a r (long ∙ sym o)
        (alike_at (index_for n (edges_at d w)) index r (o ∙ sym long) (omega arith) (λ j q. made-entry j (omega arith) ∙ C.same j q)
        (λ q e. C.differs l (sym (made-entry r l) ∙ e)))
        (omega arith)

    pub judged_own : n < r → (n + 1 ≡ length index) × (n < length index) × Firsts d n w index × (index ≡ index_for n (edges_at d w))
    judged_own l = (
      sym long,
      omega arith,
      record { each = λ v q. subst (Cut d w v) (C.same v (omega arith)) (F.each v q) },
      ext_get_or 0 index (index_for n (edges_at d w)) (long ∙ sym (index_long n (edges_at d w))) (λ v q. sym (made-entry v (omega arith) ∙ C.same v (omega arith))),
    )
