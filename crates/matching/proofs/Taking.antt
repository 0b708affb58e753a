-- Taking the candidates of a join: finding a code among ascending ones, by steps that double and by halving, and the walk over an ascending list.
use mathlib.Core.Path.{◌≡◌, refl, ap, ◌∙◌, sym, subst}
use mathlib.Core.Logic.{◌⊎◌, inl, inr, ⊎_elim}
use mathlib.Core.List.{List, ◌∷◌, ◌++◌}
use Prim.Native.Nat.{ℕ, ◌≤◌, ◌<◌, ◌+◌, ◌-◌}
use native.Mathlib.Omega.{arith}
use lib.ListN.{length, get_or, set, take, drop, replicate, length-set, length-append, length-take, length-drop, length-replicate}
use lib.Seq.{get_or-set_same, get_or-set_other}
use lib.Bits.{bit_or}
use borrow.Rule.Slice.PartMut.{put_mid, post_of}
use Rattle.std.proofs.lemmas.List.{get_or_append_left as get_or-append_left, get_or-append_right, get_or-take, get_or-drop, get_or-replicate}
use Rattle.packed.specs.Order.{Outside}
use Rattle.engine.specs.Loaded.{Edges}
use Rattle.packed.specs.Distinct.{Increasing}
use Rattle.packed.specs.Limits.{pair_width, pairs_most, workspace}
use Rattle.packed.specs.Walks.{field_or, pair_place, codes_on}
use Rattle.packed.proofs.OrderCases.{lt_or_ge, eq_or_ne}
use Rattle.packed.proofs.DistinctLaws.{increasing_tail}
use Rattle.packed.proofs.DistinctMerge.{increasing_at}
use Rattle.packed.proofs.Walks.{codes_none, codes_more}
use Rattle.engine.specs.Lists.{In, here, there}
use Rattle.engine.specs.Masks.{Has, Mask, OneOf}
use Rattle.matching.specs.Candidates.{Pool, Beyond, PlaceIn, Walkable, Blank, Taken, Listing}
use Rattle.engine.proofs.ListLaws.{not_in_none, in_cases, in_cast}
use Rattle.engine.proofs.MaskBits.{mask_cast, mask_self, or_left, or_right, or_cases}

-- ---- the pool
-- zeros in the place of the d words from 8192 on
pub blank_by : {d : ℕ} {w ys : List ℕ} → d ≤ pairs_most → length w ≡ workspace → ys ≡ replicate d 0 → Blank d w (put_mid 8192 (8192 + d - 8192) w ys)
blank_by {d} {w} {ys} m l e =
    let front : length (take 8192 w) ≡ 8192 = omega (arith, length-take 8192 w) in
    let mid : length ys ≡ d = ap length e ∙ length-replicate d 0 in
    let rest : List ℕ = post_of 8192 (8192 + d - 8192) w in
    record {
      around =
          record {
            long = omega (arith, length-append (take 8192 w) (ys ++ rest), length-append ys rest, length-drop (8192 + d - 8192) (drop 8192 w), length-drop 8192 w);
            low = λ k h. get_or-append_left (take 8192 w) (ys ++ rest) 0 k (omega arith) ∙ get_or-take 8192 w k 0 h;
            high = λ k h. get_or-append_right (take 8192 w) (ys ++ rest) 8192 k 0 front (omega arith)
                ∙ get_or-append_right ys rest d (k - 8192) 0 mid (omega arith)
                ∙ get_or-drop (8192 + d - 8192) (drop 8192 w) (k - 8192 - d) 0
                ∙ get_or-drop 8192 w (8192 + d - 8192 + (k - 8192 - d)) 0
                ∙ ap (λ (i : ℕ). get_or w i 0) (omega arith);
          };
      each = λ i h. get_or-append_right (take 8192 w) (ys ++ rest) 8192 (8192 + i) 0 front (omega arith)
          ∙ ap (λ (j : ℕ). get_or (ys ++ rest) j 0) (let q : 8192 + i - 8192 ≡ i = omega arith in q)
          ∙ get_or-append_left ys rest 0 i (omega arith)
          ∙ ap (λ (l : List ℕ). get_or l i 0) e
          ∙ get_or-replicate d i 0 0 h;
    }

-- the words below 8192 stay where only those behind are written
pub edges_around : {d : ℕ} {w w' : List ℕ} → Outside 8192 d w w' → Edges w w'
edges_around o = record { long = o.long; same = o.low }

pub pool_keep : {d : ℕ} {w w' : List ℕ} → Pool d w → Edges w w' → Pool d w'
pool_keep p o =
    let m = p.most in
    record {
      most = m;
      long = o.long ∙ p.long;
      small = λ i h. rw (o.same i (omega arith)) (p.small i h);
      rises = λ i j h k. rw (o.same i (omega arith), o.same j (omega arith)) (p.rises i j h k);
    }

pub walkable_keep : {s : List ℕ} {start n d : ℕ} {w w' : List ℕ} → Walkable s start n d w → Edges w w' → Walkable s start n d w'
walkable_keep t o =
    record {
      pool = pool_keep t.pool o;
      short = t.short;
      fits = t.fits;
      ascends = t.ascends;
      present = λ c i.
          let p = t.present c i in
          let m = t.pool.most in
          let b = p.below in
          record { at = p.at; below = b; holds = o.same p.at (omega arith) ∙ p.holds };
    }

-- a place with a code that is not lower stands not before
pub pool_from : {d : ℕ} {w : List ℕ} → Pool d w → (i j : ℕ) → i < d → get_or w i 0 ≤ get_or w j 0 → i ≤ j
pool_from p i j h l = ⊎_elim (λ (k : j < i). absurd (let a = p.rises j i k h in omega arith)) (λ (k : i ≤ j). k) (lt_or_ge j i)

-- a code stands in one place
pub pool_one : {d : ℕ} {w : List ℕ} → Pool d w → (i j : ℕ) → i < d → j < d → get_or w i 0 ≡ get_or w j 0 → i ≡ j
pool_one p i j h k e = omega (arith, pool_from p i j h (omega arith), pool_from p j i k (omega arith))

-- ---- steps that double
pub beyond_here : {d : ℕ} {w : List ℕ} {first r code : ℕ} → Pool d w → first < r → r < d → code < get_or w r 0 → Beyond w first d code r
beyond_here {w} {r} p a b c =
    record {
      after = a;
      upto = omega arith;
      greater = λ j l k. ⊎_elim
          (λ (e : r ≡ j). let q = ap (λ (i : ℕ). get_or w i 0) e in omega arith)
          (λ (n : r ≡ j → ⊥). let q = p.rises r j (⊎_elim (λ (h : r < j). h) (λ (h : j ≤ r). absurd (n (omega arith))) (lt_or_ge r j)) k in omega arith)
          (eq_or_ne r j);
    }

-- ---- halving
-- the code stands from low up to high, if it does from first up to last
pub record Halving (w : List ℕ) (first last code low high : ℕ) : Type 0 where
  pub from : first ≤ low
  pub room : low < high
  pub upto : high ≤ last
  pub is : (j : ℕ) → first ≤ j → j < last → get_or w j 0 ≡ code → (low ≤ j) × (j < high)

module _ {w : List ℕ} {first last code low high : ℕ} (p : Pool last w) (t : Halving w first last code low high) where
  pub halving_low : (mid : ℕ) → low < mid → mid < high → code < get_or w mid 0 → Halving w first last code low mid
  halving_low mid a b l =
      let u = t.upto in
      record {
        from = t.from;
        room = a;
        upto = omega arith;
        is = λ j f h e. (
          (t.is j f h e).0,
          ⊎_elim
              (λ (k : j < mid). k)
              (λ (k : mid ≤ j). absurd (let q = (beyond_here {w = w} {first = low} p a (omega arith) l).greater j k h in omega arith))
              (lt_or_ge j mid),
        );
      }

  pub halving_high : (mid : ℕ) → low < mid → mid < high → get_or w mid 0 ≤ code → Halving w first last code mid high
  halving_high mid a b l =
      let u = t.upto in
      record {
        from = (let f = t.from in omega arith);
        room = b;
        upto = u;
        is = λ j f h e. (pool_from p mid j (omega arith) (omega arith), (t.is j f h e).1);
      }

pub halving_end : {w : List ℕ} {first last code low high : ℕ} → Halving w first last code low high → high ≤ low + 1 → PlaceIn w first last code low
halving_end t l =
    let r = t.room in
    let u = t.upto in
    record {
      from = t.from;
      upto = omega arith;
      is = λ j f h e. (let q = t.is j f h e in omega arith);
    }

-- ---- the walk over a list
-- the mask of the pair r has also the edges x
abbrev marked : List ℕ → ℕ → ℕ → List ℕ
marked w r x = set w (8192 + r) (bit_or (get_or w (8192 + r) 0) x)

-- listed among the pairs after the past ones
abbrev ListingOn : List ℕ → ℕ → ℕ → ℕ → ℕ → ℕ → ℕ → Type 0
ListingOn s first n past x c e = Listing s (pair_place first past) (n - past) x c e

-- the pairs after the past ones are still to be taken, and the next of them stands not before i
pub record Taking (s : List ℕ) (first n x d : ℕ) (w₀ w : List ℕ) (i past : ℕ) : Type 0 where
  pub upto : past ≤ n
  pub rest : Walkable s (pair_place first past) (n - past) d w
  pub next : (c : ℕ) (l : List ℕ) → codes_on s first n past ≡ c ∷ l → (j : ℕ) → j < d → get_or w j 0 ≡ c → i ≤ j
  pub onward : (w' : List ℕ) → Taken d (ListingOn s first n past x) w w' → Taken d (Listing s first n x) w₀ w'

module _ {s : List ℕ} {first n x d : ℕ} {w₀ w : List ℕ} {i past : ℕ} (t : Taking s first n x d w₀ w i past) where
  pub taking_end : n ≤ past → Taken d (Listing s first n x) w₀ w
  taking_end z =
      t.onward w
      (record {
        around = record { long = refl; low = λ j l. refl; high = λ j l. refl };
        each = λ j l. mask_cast
            (λ e h. inl h)
            (λ e. ⊎_elim (λ h. h) (λ q. absurd (not_in_none (subst (λ (a : List ℕ). In (get_or w j 0) a) (codes_none s first n past z) q.listed))))
            (mask_self (get_or w (8192 + j) 0));
      })

  module _ {code : ℕ} (more : past < n) (is : code ≡ field_or s (pair_place first past) pair_width) where
    codes : codes_on s first n past ≡ code ∷ codes_on s first n (past + 1)
    codes = codes_more s first n past code more is

    -- where the next code stands
    stands : OneOf d (λ j. get_or w j 0 ≡ code)
    stands = t.rest.present code (subst (λ (a : List ℕ). In code a) (sym codes) (here refl))

    pub taking_in : i < d
    taking_in =
        let p = stands in
        let b = p.below in
        omega (arith, t.next code _ codes p.at b p.holds)

    module _ {end r : ℕ} (b : Beyond w i d code end) (f : PlaceIn w i end code r) where
      found : (r < d) × (get_or w r 0 ≡ code)
      found =
          let p = stands in
          let h = p.below in
          let v = p.holds in
          let k : p.at < end = ⊎_elim (λ (q : p.at < end). q) (λ (q : end ≤ p.at). absurd (let g = b.greater p.at q h in omega arith)) (lt_or_ge p.at end) in
          let e : r ≡ p.at = f.is p.at (t.next code _ codes p.at h v) k v in
          (omega arith, ap (λ (j : ℕ). get_or w j 0) e ∙ v)

      around : Outside 8192 d w (marked w r x)
      around =
          let m = t.rest.pool.most in
          let h = found.0 in
          record {
            long = length-set w (8192 + r) _;
            low = λ k l. get_or-set_other w (8192 + r) k _ 0 (λ e. omega arith);
            high = λ k l. get_or-set_other w (8192 + r) k _ 0 (λ e. omega arith);
          }

      here-cases : (j : ℕ) → j < d → In (get_or w j 0) (codes_on s first n past) → (j ≡ r) ⊎ In (get_or w j 0) (codes_on s first n (past + 1))
      here-cases j h k =
          ⊎_elim (λ e. inl (pool_one t.rest.pool j r h found.0 (e ∙ sym found.1))) (λ o. inr o) (in_cases (subst (λ (a : List ℕ). In (get_or w j 0) a) codes k))

      later-in : {c : ℕ} → In c (codes_on s first n (past + 1)) → In c (codes_on s first n past)
      later-in {c} k = subst (λ (a : List ℕ). In c a) (sym codes) (there k)

      same_code : (j : ℕ) → j < d → get_or (marked w r x) j 0 ≡ get_or w j 0
      same_code j h = around.low j (omega (arith, t.rest.pool.most))

      wider : (j e : ℕ) → j < d → ListingOn s first n (past + 1) x (get_or (marked w r x) j 0) e → ListingOn s first n past x (get_or w j 0) e
      wider j e h o = record { listed = later-in (in_cast (same_code j h) o.listed); asked = o.asked }

      mask-found : (j : ℕ) → j < d → j ≡ r → get_or (marked w r x) (8192 + j) 0 ≡ bit_or (get_or w (8192 + j) 0) x
      mask-found j h z =
          let l : 8192 + r < length w = omega (arith, t.rest.pool.long, t.rest.pool.most) in
          ap (λ (q : ℕ). get_or (marked w r x) (8192 + q) 0) z ∙ get_or-set_same w (8192 + r) _ 0 l ∙ ap (λ (q : ℕ). bit_or (get_or w (8192 + q) 0) x) (sym z)

      mask-other : (j : ℕ) → (j ≡ r → ⊥) → get_or (marked w r x) (8192 + j) 0 ≡ get_or w (8192 + j) 0
      mask-other j z = get_or-set_other w (8192 + r) (8192 + j) _ 0 (λ e. z (omega arith))

      -- the mask of the pair j, whether it is the one that was found or another
      mask_at_lem : (j m : ℕ) → j < d → Mask (λ e. Has (get_or (marked w r x) (8192 + j) 0) e ⊎ ListingOn s first n (past + 1) x (get_or (marked w r x) j 0) e) m
          → Mask (λ e. Has (get_or w (8192 + j) 0) e ⊎ ListingOn s first n past x (get_or w j 0) e) m
      mask_at_lem j m h k =
          ⊎_elim
          (λ (z : j ≡ r).
          let y = mask-found j h z in
          let in_list : In (get_or w j 0) (codes_on s first n past) = subst (λ (a : List ℕ). In (get_or w j 0) a) (sym codes) (here (ap (λ (q : ℕ). get_or w q 0) z ∙ found.1)) in
          mask_cast
          (λ e. ⊎_elim
          (λ q. ⊎_elim (λ o. inl o) (λ o. inr (record { listed = in_list; asked = o })) (or_cases _ x e (subst (λ (a : ℕ). Has a e) y q)))
          (λ o. inr (wider j e h o)))
          (λ e. ⊎_elim
          (λ q. inl (subst (λ (a : ℕ). Has a e) (sym y) (or_left _ x e q)))
          (λ o. inl (subst (λ (a : ℕ). Has a e) (sym y) (or_right (get_or w (8192 + j) 0) x e o.asked))))
          k)
          (λ (z : j ≡ r → ⊥).
          let y = mask-other j z in
          mask_cast
          (λ e. ⊎_elim (λ q. inl (subst (λ (a : ℕ). Has a e) y q)) (λ o. inr (wider j e h o)))
          (λ e. ⊎_elim
          (λ q. inl (subst (λ (a : ℕ). Has a e) (sym y) q))
          (λ o. inr (record { listed = in_cast (sym (same_code j h)) (⊎_elim (λ v. absurd (z v)) (λ v. v) (here-cases j h o.listed)); asked = o.asked })))
          k)
          (eq_or_ne j r)

      -- taking the later pairs after this one is taking this one and the later ones
      both : (w' : List ℕ) → Taken d (ListingOn s first n (past + 1) x) (marked w r x) w' → Taken d (ListingOn s first n past x) w w'
      both w' k =
          record {
            around = record {
              long = k.around.long ∙ around.long;
              low = λ i l. k.around.low i l ∙ around.low i l;
              high = λ i l. k.around.high i l ∙ around.high i l;
            };
            each = λ j l. mask_at_lem j _ l (k.each j l);
          }

      pub taking_more : Taking s first n x d w₀ (marked w r x) r (past + 1)
      taking_more =
          let rises : Increasing (code ∷ codes_on s first n (past + 1)) = subst Increasing codes t.rest.ascends in
          let fits = t.rest.fits in
          record {
            upto = omega arith;
            rest = walkable_keep (record {
              pool = t.rest.pool;
              short = t.rest.short;
              fits = omega arith;
              ascends = increasing_tail code _ rises;
              present = λ c i. t.rest.present c (later-in i);
            }) (edges_around around);
            next = λ c l e j h q.
                let a : code < c = increasing_at (code ∷ c ∷ l) (subst (λ (z : List ℕ). Increasing (code ∷ z)) e rises) 0 1 (omega arith) (omega arith) in
                let v = found.1 in
                let u : get_or w j 0 ≡ c = sym (same_code j h) ∙ q in
                pool_from t.rest.pool r j found.0 (omega arith);
            onward = λ w' k. t.onward w' (both w' k);
          }
