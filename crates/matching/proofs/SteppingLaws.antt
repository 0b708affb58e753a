-- What the masks hold between steps is the state at the settled nodes; what a step keeps of this, and where it starts.
use mathlib.Core.Path.{◌≡◌, refl, ap, ◌∙◌, sym, subst}
use mathlib.Core.Logic.{inl, inr, ⊎_elim}
use mathlib.Core.Bool.{Bool, true, false}
use mathlib.Core.List.{List, [], ◌++◌}
use Prim.Native.Nat.{ℕ, suc, ◌+◌, ◌≤◌, ◌<◌, ◌/◌, ◌%◌, ◌^◌}
use native.Mathlib.Omega.{arith}
use lib.ListN.{length, get_or, take}
use lib.Seq.{length-take-le, take_at}
use lib.Dec.{T}
use lib.Bits.{bit_and, bit_or, bit_xor}
use Rattle.packed.specs.ByValue.{HoldsPattern}
use Rattle.packed.specs.Calls.{Verdict, accepted, rejected, read_pattern}
use Rattle.packed.specs.Accepting.{Held}
use Rattle.packed.specs.declared.by_value.Pattern.{Pattern as Given}
use Rattle.packed.proofs.OrderCases.{lt_or_ge}
use Rattle.engine.specs.Lists.{In}
use Rattle.engine.specs.Simulation.{bit, Edge, Pattern}
use Rattle.engine.specs.Loaded.{given_edge, pattern_in, Fair}
use Rattle.engine.specs.Masks.{Has, Mask, OneOf}
use Rattle.engine.specs.Sweeping.{from_of, to_of, Ends, held_at, Tabled, LookedUp}
use Rattle.engine.specs.Rounds.{Supports, Safe, Stays, Sound, Falls, Prepared, Fixed, Round}
use Rattle.matching.specs.Join.{pair_of, Offer, Kept, choice}
use Rattle.matching.specs.Components.{Nodes, leaving_of, join_in, state_at, Shut, OneStep, StepsTo, start, step, pair_at, Holds, Ran, Pruned}
use Rattle.matching.specs.Candidates.{Pool}
use Rattle.matching.specs.Stepping.{PairsTaken, LeavingLinks, Loose, LooseLinks, Between, At, Fresh, Started, Stepped, Going, RanPruned, Tried}
use Rattle.matching.specs.declared.steps.Place.{Place}
use Rattle.engine.proofs.ListLaws.{decide, same_test}
use Rattle.engine.proofs.MaskBits.{none_has, or_left, or_right, or_cases, and_say, and_by, minus_say, minus_by, mask_cast, union_more}
use Rattle.engine.proofs.RoundLaws.{fixed_prepared}
use Rattle.matching.proofs.JoiningLaws.{every_prepared, every_has, every_shape}
use Rattle.matching.proofs.ComponentLaws.{leaving_one, leaving_in, in_leaving, join_in_candidate, state_say, state_candidate, state_old, state_new, step_shut}
use Rattle.matching.proofs.ReachLaws.{in_edges, edges_in_lem, given_ended}
use Rattle.matching.proofs.LeftLaws.{stands, stands_all, Rested, left_candidate, left_chosen, stands_below, chosen_supports, chosen_left}

-- ---- the state
module _ {q : Given} {n d : ℕ} {w : List ℕ} {s : Place} {w' leave arrive : List ℕ} (ends : Ends n d w) (b : Between q n d w s w' leave arrive) where
  abbrev Q : Pattern
  Q = pattern_in q

  abbrev S : Nodes
  S = bit s.settled

  -- the settled links rest
  rested : Rested q n d w w' leave arrive (leaving_of S Q) (λ e. T (S (get_or q.from e 0)))
  rested =
      record {
        small = b.small;
        ends = ends;
        same = b.falls.same;
        part = b.falls.part;
        asked = λ e le t. in_leaving S Q (in_edges q e le) t;
        only = λ g j.
            (let m = leaving_in S Q j in
            let o = edges_in_lem q m.0 in
            record { at = o.at; below = o.below; holds = (o.holds, subst (λ (x : Edge). T (S x.from)) o.holds m.1) });
        shape = b.shape;
        within = λ i e l le t h. ⊎_elim (λ f. absurd ((b.free.why e (b.loose e le f)).1 t)) (λ m. m) (b.within i e l h);
        begins = b.offered;
        closes = λ r. absurd (leaving_one S Q r);
      }

  module _ (cs : Offer) (first : Holds q d w cs) where
    abbrev J : List Kept
    J = choice (leaving_of S Q) cs

    -- the links that leave what stands leave S
    settled : (e v : ℕ) → T (stands J (get_or q.from e 0) v) → T (S (get_or q.from e 0))
    unfolding join_in
    settled e v h = stands_all (λ x y. T (S x)) (λ g f j. let c = join_in_candidate S Q cs j in (c.from, b.shut g c.edge c.from)) h

    state : Holds q d w' (state_at S Q cs)
    unfolding join_in
    state =
        record {
          listed = λ i e l le h. subst (λ (x : ℕ). In (pair_of x) (state_at S Q cs (given_edge q e))) (sym (b.falls.same i l))
              (⊎_elim (λ t. state_old S Q cs (left_chosen rested cs first i e l le t h))
              (λ n. state_new S Q cs (given_edge q e) (pair_at w i) n (left_candidate rested cs first i e l le h)) (decide (S (get_or q.from e 0))));
          held = λ i e l le h. ⊎_elim
              (λ r. chosen_left rested cs first stays i e l le r.1)
              (λ r. b.falls.untouched i e l (b.free.hit e (le, r.0)) (first.held i e l le r.1))
              (state_say S Q cs (subst (λ (x : ℕ). In (pair_of x) (state_at S Q cs (given_edge q e))) (b.falls.same i l) h));
          among = λ e f le h.
              (let o = first.among e f le (state_candidate S Q cs h) in
              (o.0, o.1, o.2 ∙ ap pair_of (sym (b.falls.same o.0 o.1))));
        }
      where
        stays : (i e : ℕ) → i < d → e < q.edges → T (stands J (get_or q.from e 0) (from_of w i)) → T (stands J (get_or q.to e 0) (to_of w i)) → Has (held_at w i) e → Has (held_at w' i) e
        stays = b.stays (stands J) (chosen_supports rested cs first (λ e. Unit {0}) (λ e v le m h. settled e v h)) (stands_below rested cs first)

pub between_at : {q : Given} {n d : ℕ} {w : List ℕ} {s : Place} {w' leave arrive : List ℕ} → Ends n d w → Between q n d w s w' leave arrive → At q n d w s w' leave arrive
between_at ends b = record { state = state ends b; edges = record { long = b.falls.long; same = b.falls.low }; between = b }

-- the first words have the pairs of the later ones
ends_first : {free n d : ℕ} {w w' : List ℕ} → Falls free d w w' → Ends n d w' → Ends n d w
ends_first f e =
    record {
      most = e.most;
      long = sym f.long ∙ e.long;
      from = λ i l. (let z = e.from i l in let y = ap (λ (x : ℕ). x / 4096 % 4096) (f.same i l) in omega arith);
      to = λ i l. (let z = e.to i l in let y = ap (λ (x : ℕ). x % 4096) (f.same i l) in omega arith);
    }

-- ---- pairs at the front of words that may be anything
-- the first i words ascend below the least that may follow
pub record Front (w : List ℕ) (least i : ℕ) : Type 0 where
  pub pool : Pool i w
  pub below : (j : ℕ) → j < i → get_or w j 0 < least
  pub tight : (k : ℕ) → ((j : ℕ) → j < i → get_or w j 0 < k) → least ≤ k

module _ (w : List ℕ) where
  pub front_none : length w ≡ 16384 → Front w 0 0
  front_none e = record { pool = record { most = omega arith; long = e; small = λ i l. absurd (omega arith); rises = λ i j a b. absurd (omega arith) }; below = λ j l. absurd (omega arith); tight = λ k h. omega arith }

  pub front_more : {least i : ℕ} → Front w least i → i < 8192 → least ≤ get_or w i 0 → get_or w i 0 < 2 ^ 24 → Front w (get_or w i 0 + 1) (i + 1)
  front_more {least} {i} f l a b =
      record {
        pool =
            record {
              most = omega arith;
              long = f.pool.long;
              small = λ j p. ⊎_elim (λ (z : j < i). f.pool.small j z) (λ (z : i ≤ j). let e : i ≡ j = omega arith in subst (λ (k : ℕ). get_or w k 0 < 2 ^ 24) e b) (lt_or_ge j i);
              rises = λ j k p h. ⊎_elim (λ (z : k < i). f.pool.rises j k p z)
                  (λ (z : i ≤ k). let e : i ≡ k = omega arith in subst (λ (x : ℕ). get_or w j 0 < get_or w x 0) e (let y = f.below j (omega arith) in omega arith)) (lt_or_ge k i);
            };
        below = λ j p. ⊎_elim (λ (z : j < i). let y = f.below j z in omega arith) (λ (z : i ≤ j). let e : i ≡ j = omega arith in subst (λ (k : ℕ). get_or w k 0 < get_or w i 0 + 1) e (omega arith)) (lt_or_ge j i);
        tight = λ k h. let y = h i (omega arith) in omega arith;
      }

  module _ {least i : ℕ} (f : Front w least i) where
    -- the word after them is no pair in order
    pub front_low : get_or w i 0 < least → Pool (i + 1) w → ⊥
    front_low l p = let y = f.tight (get_or w i 0) (λ j h. p.rises j i h (omega arith)) in omega arith

    pub front_wide : 2 ^ 24 ≤ get_or w i 0 → Pool (i + 1) w → ⊥
    front_wide l p = let y = p.small i (omega arith) in omega arith

    pub front_full : 8192 ≤ i → Pool (i + 1) w → ⊥
    front_full l p = let y = p.most in omega arith

-- ---- where the steps start
pub fresh_prepared : {q : Given} {n d all : ℕ} {w leave arrive out leaving arriving : List ℕ} → Pool d w → Fresh q n d all w leave arrive out leaving arriving → Prepared n d w leave arrive out
fresh_prepared pool f = every_prepared pool f.few f.ends f.leaves f.arrives f.outs

-- ---- the links for which a pair is held that its ends don't allow
module _ (w leave arrive : List ℕ) where
  abbrev Against : ℕ → ℕ → Type 0
  Against i e = Has (held_at w i) e × (Has (get_or leave (from_of w i) 0) e × Has (get_or arrive (to_of w i) 0) e → ⊥)

  pub loose_more : (i : ℕ) {r : ℕ} → LooseLinks i w leave arrive r
      → LooseLinks (i + 1) w leave arrive (bit_or r (bit_xor (held_at w i) (bit_and (held_at w i) (bit_and (get_or leave (from_of w i) 0) (get_or arrive (to_of w i) 0)))))
  loose_more i m =
      union_more Against i m
      (record {
        hit = λ e p. minus_by _ _ e p.0 (λ b. p.1 (and_say _ _ e b));
        why = λ e h. (let p = minus_say _ _ e h in (p.0, λ b. p.1 (and_by _ _ e b.0 b.1)));
      })

  loose_within : {d r : ℕ} → LooseLinks d w leave arrive r → Loose d w leave arrive r
  loose_within m i e l h =
      let a = get_or leave (from_of w i) 0 in
      let b = get_or arrive (to_of w i) 0 in
      ⊎_elim (λ (x : Has (bit_and a b) e). inr (and_say a b e x))
      (λ (x : Has (bit_and a b) e → ⊥). inl (m.hit e (record { at = i; below = l; holds = (h, λ p. x (and_by a b e p.0 p.1)) })))
      (decide (bit (bit_and a b) e))

module _ {q : Given} {n d all : ℕ} {w leave arrive out leaving arriving : List ℕ} (pool : Pool d w) (f : Fresh q n d all w leave arrive out leaving arriving)
    {r : ℕ} {w' leave' arrive' out' : List ℕ} (F : Fixed n 0 all 0 d leaving arriving leaving arriving w leave arrive out r w' leave' arrive' out')
    (O : Round n all d leaving w leave arrive r w' leave') where
  abbrev first_sound : Sound q.from q.to q.edges 0 all 0 d w leave arrive w' leave' arrive'
  first_sound = F.sound q.from q.to q.edges f.by_from f.by_to (λ e h. absurd (none_has e h)) (λ e y h. none_has e h) 0 (λ e h. h)

  -- what supports itself is safe at first
  first_safe : (R : ℕ → ℕ → Bool) → Supports q.from q.to q.edges (λ e. Unit {0}) d w (λ u v. T (R u v)) → ((u v : ℕ) → T (R u v) → v < 4096)
      → Safe q.from q.to q.edges 0 0 d w leave arrive (λ u v. T (R u v))
  first_safe R s b =
      record {
        supports = λ u v t e le n p. s u v t e le tt p;
        backs = λ u v t e le y. absurd (none_has e y);
        leaves = λ u v e t le p. every_has f.links f.leaves v e (b u v t) le;
        arrives = λ u v e t le p. every_has f.links f.arrives v e (b u v t) le;
      }

  module _ (s : Place) (z : s.settled ≡ 0) (y : s.free ≡ all) (L : LooseLinks d w' leave' arrive' s.loose) (few : (e : ℕ) → e < q.edges → Has s.loose e → Has s.free e) where
    unsettled : (v : ℕ) → Has s.settled v → ⊥
    unsettled v h = none_has v (subst (λ (x : ℕ). Has x v) z h)

    first_between : Between q n d w s w' leave' arrive'
    first_between =
        record {
          small = pool.small;
          shut = λ e i t. absurd (unsettled e.from t);
          free = subst (Mask _) (sym y) (mask_cast (λ e l. (l, unsettled (get_or q.from e 0))) (λ e p. p.0) f.links);
          loose = few;
          falls =
              record {
                long = F.falls.long;
                low = F.falls.low;
                same = F.falls.same;
                part = F.falls.part;
                untouched = λ i e l h x.
                    (let le = f.links.why e (subst (λ (a : ℕ). Has a e) y h) in
                    let a = f.ends.from i l in
                    let b = f.ends.to i l in
                    let c = f.few in
                    O.spares i e l (every_has f.links f.leaves (from_of w i) e (omega arith) le) (every_has f.links f.arrives (to_of w i) e (omega arith) le) x);
              };
          shape = first_sound.shape (every_shape f.links q.from q.to f.leaves f.arrives);
          within = loose_within w' leave' arrive' L;
          offered = λ v e l le h. O.offers q.from q.edges f.by_from v e l le (f.links.hit e le) h;
          safe = λ R t b. first_sound.safe R (first_safe R t b);
          stays = λ R t b. first_sound.stays R (first_safe R t b);
        }

    pub started_by : Started q n d w s w' leave' arrive' out'
    started_by = record { settled = z; prepared = fixed_prepared F (fresh_prepared pool f); at = between_at f.ends first_between }

-- ---- a step
module _ {q : Given} {n d : ℕ} (c due : ℕ) {w leave arrive out : List ℕ} (s : Place) (fair : Fair q)
    (one : OneStep (pattern_in q) (bit s.settled) (bit (bit_or s.settled c))) (new : bit_and c s.settled ≡ 0)
    (links : LeavingLinks q.from q.edges c due) (P : Prepared n d w leave arrive out) where
  due_say : (e : ℕ) → Has due e → (e < q.edges) × Has c (get_or q.from e 0)
  due_say e h = let o = links.why e h in (let x = o.below in let y = o.holds.0 in omega arith, subst (λ (x : ℕ). Has c (get_or q.from x 0)) o.holds.0 o.holds.1)

  due_by : (e : ℕ) → e < q.edges → Has c (get_or q.from e 0) → Has due e
  due_by e l h = links.hit e (record { at = e; below = l; holds = (refl, h) })

  -- the set that is settled then, and the links that are not
  abbrev settled' : ℕ
  settled' = bit_or s.settled c

  abbrev free' : ℕ
  free' = bit_xor s.free (bit_and s.free due)

  module _ {w₀ : List ℕ} (b : Between q n d w₀ s w leave arrive) where
    shut' : Shut (pattern_in q) (bit settled')
    shut' = step_shut (pattern_in q) (given_ended fair) one b.shut

    free-mask : Mask (λ e. (e < q.edges) × (Has settled' (get_or q.from e 0) → ⊥)) free'
    free-mask =
        record {
          hit = λ e h. minus_by s.free due e (b.free.hit e (h.0, λ t. h.1 (or_left s.settled c _ t))) (λ t. h.1 (or_right s.settled c _ (due_say e t).1));
          why = λ e h.
              (let x = minus_say s.free due e h in
              let y = b.free.why e x.0 in
              (y.0, λ t. ⊎_elim y.1 (λ u. x.1 (due_by e y.0 u)) (or_cases s.settled c _ t)));
        }

    falls' : {w' : List ℕ} → Falls free' d w w' → Falls free' d w₀ w'
    falls' f =
        record {
          long = f.long ∙ b.falls.long;
          low = λ k l. f.low k l ∙ b.falls.low k l;
          same = λ i l. f.same i l ∙ b.falls.same i l;
          part = λ i e l h. b.falls.part i e l (f.part i e l h);
          untouched = λ i e l x h. f.untouched i e l x (b.falls.untouched i e l (minus_say s.free due e x).0 h);
        }

    ends₀ : Ends n d w₀
    ends₀ = ends_first b.falls P.ends

    -- its links are held by no pair that its ends don't allow
    between-skip : bit_and due s.loose ≡ 0 → (s' : Place) → s'.settled ≡ settled' → s'.free ≡ free' → s'.loose ≡ s.loose → Between q n d w₀ s' w leave arrive
    between-skip z s' x y v =
        record {
          small = b.small;
          shut = subst (λ (a : ℕ). Shut (pattern_in q) (bit a)) (sym x) shut';
          free = rw (x, y) free-mask;
          loose = rw (y, v) (λ e le h. minus_by s.free due e (b.loose e le h) (λ t. none_has e (subst (λ (a : ℕ). Has a e) z (and_by due s.loose e t h))));
          falls = rw y (falls' (record { long = refl; low = λ k l. refl; same = λ i l. refl; part = λ i e l h. h; untouched = λ i e l f h. h }));
          shape = b.shape;
          within = rw v b.within;
          offered = b.offered;
          safe = b.safe;
          stays = b.stays;
        }

  module _ {leaving arriving w' leave' arrive' out' : List ℕ} {r : ℕ} (T₁ : Tabled q.from q.from q.edges leaving) (T₂ : Tabled q.from q.to q.edges arriving)
      (F : Fixed n free' due 0 d leaving arriving leaving arriving w leave arrive out 0 w' leave' arrive' out') (L : LookedUp arriving due r) where
    abbrev more : ℕ
    more = bit_and (bit_or s.loose r) free'

    apart : (e : ℕ) → Has due e → Has free' e → ⊥
    apart e y h = (minus_say s.free due e h).1 y

    abbrev sound : Sound q.from q.to q.edges free' due 0 d w leave arrive w' leave' arrive'
    sound = F.sound q.from q.to q.edges T₁ T₂ (λ e h. absurd (none_has e h)) apart 0 (λ e h. h)

    from_then : (i : ℕ) → i < d → from_of w' i ≡ from_of w i
    from_then i l = ap (λ (y : ℕ). y / 4096 % 4096) (F.falls.same i l)

    to-then : (i : ℕ) → i < d → to_of w' i ≡ to_of w i
    to-then i l = ap (λ (y : ℕ). y % 4096) (F.falls.same i l)

    -- a link that neither leaves nor reaches the component is left alone
    left_alone : (e : ℕ) → e < q.edges → (Has due e → ⊥) → ((k : ℕ) → k < q.edges → Has due k → get_or q.from k 0 ≡ get_or q.to e 0 → ⊥) → Stays q.from q.to q.edges d w leave arrive w' leave' arrive' e
    left_alone e le x y =
        sound.aside e le
        (record { start = λ k lk h p. x (due_by e le (subst (Has c) p (due_say k h).1)); end = y; start_back = λ k lk h. absurd (none_has k h); end_back = λ k lk h. absurd (none_has k h) })

    module _ {w₀ : List ℕ} (b : Between q n d w₀ s w leave arrive) where
      within-then : Loose d w' leave' arrive' more
      within-then i e l h =
          ⊎_elim
          (λ (f : Has free' e). ⊎_elim
          (λ (x : Has s.loose e). inl (and_by _ free' e (or_left s.loose r e x) f))
          (λ x. ⊎_elim
          (λ (y : Has r e). inl (and_by _ free' e (or_right s.loose r e y) f))
          (λ (y : Has r e → ⊥).
          let le = ((free-mask b).why e f).0 in
          let a = left_alone e le (λ t. apart e t f) (λ k lk t p. y ((L.is q.from q.to q.edges T₂).hit e (le, record { at = k; below = lk; holds = (t, p) }))) in
          inr (
            subst (λ (v : ℕ). Has (get_or leave' v 0) e) (sym (from_then i l)) (a.leaves (from_of w i) x.0),
            subst (λ (v : ℕ). Has (get_or arrive' v 0) e) (sym (to-then i l)) (a.arrives (to_of w i) x.1),
          ))
          (decide (bit r e)))
          (b.within i e l (F.falls.part i e l h)))
          (λ x. inr x)
          ((F.rests refl).within i e l h)

      offered-then : (v e : ℕ) → v < n → e < q.edges → Has (get_or leave' v 0) e → OneOf d (λ i. (from_of w' i ≡ v) × Has (held_at w' i) e)
      offered-then v e l le h =
          let o = b.offered v e l le (sound.leave_part v e h) in
          let at : from_of w' o.at ≡ v = from_then o.at o.below ∙ o.holds.0 in
          ⊎_elim
          (λ (y : Has due e). (F.rests refl).held v e l y (let z = fair.edges in omega arith) h)
          (λ (y : Has due e → ⊥). ⊎_elim
          (λ (f : Has free' e). record { at = o.at; below = o.below; holds = (at, F.falls.untouched o.at e o.below f o.holds.1) })
          (λ (f : Has free' e → ⊥).
          let t = settled-of e le y f in
          let a = left_alone e le y (λ k lk u p. none_has _ (subst (λ (x : ℕ). Has x (get_or q.to e 0)) new (and_by c s.settled _ (subst (Has c) p (due_say k u).1) (b.shut (given_edge q e) (in_edges q e le) t)))) in
          ⊎_elim (λ x. absurd ((b.free.why e (b.loose e le x)).1 t))
          (λ x. record { at = o.at; below = o.below; holds = (at, a.held o.at o.below x.0 x.1 o.holds.1) })
          (b.within o.at e o.below o.holds.1))
          (decide (bit free' e)))
          (decide (bit due e))
        where
          settled-of : (k : ℕ) → k < q.edges → (Has due k → ⊥) → (Has free' k → ⊥) → Has s.settled (get_or q.from k 0)
          settled-of k lk y f =
              ⊎_elim (λ (t : Has s.settled (get_or q.from k 0)). t)
              (λ (t : Has s.settled (get_or q.from k 0) → ⊥). absurd (f (minus_by s.free due k (b.free.hit k (lk, t)) y)))
              (decide (bit s.settled (get_or q.from k 0)))

      -- what is safe for all links stays so: the free ones are untouched
      safe-free : (R : ℕ → ℕ → Bool) → Safe q.from q.to q.edges 0 0 d w leave arrive (λ u v. T (R u v)) → Safe q.from q.to q.edges free' 0 d w leave arrive (λ u v. T (R u v))
      safe-free R z = record { supports = λ u v t e le x p. z.supports u v t e le (none_has e) p; backs = z.backs; leaves = z.leaves; arrives = z.arrives }

      safe-then : (R : ℕ → ℕ → Bool) → Safe q.from q.to q.edges 0 0 d w leave arrive (λ u v. T (R u v)) → Safe q.from q.to q.edges 0 0 d w' leave' arrive' (λ u v. T (R u v))
      safe-then R z =
          let y = sound.safe R (safe-free R z) in
          record {
            supports = λ u v t e le x p. ⊎_elim
                (λ (f : Has free' e).
                let o = z.supports u v t e le (none_has e) p in
                record {
                  at = o.at;
                  below = o.below;
                  holds = (
                    from_then o.at o.below ∙ o.holds.0,
                    F.falls.untouched o.at e o.below f o.holds.1,
                    subst (λ (a : ℕ). T (R (get_or q.to e 0) a)) (sym (to-then o.at o.below)) o.holds.2,
                  );
                })
                (λ (f : Has free' e → ⊥). y.supports u v t e le f p)
                (decide (bit free' e));
            backs = y.backs;
            leaves = y.leaves;
            arrives = y.arrives;
          }

      between-rest : (s' : Place) → s'.settled ≡ settled' → s'.free ≡ free' → s'.loose ≡ more → Between q n d w₀ s' w' leave' arrive'
      between-rest s' x y v =
          record {
            small = b.small;
            shut = subst (λ (a : ℕ). Shut (pattern_in q) (bit a)) (sym x) (shut' b);
            free = rw (x, y) (free-mask b);
            loose = rw (y, v) (λ e le h. (and_say (bit_or s.loose r) free' e h).1);
            falls = rw y (falls' b F.falls);
            shape = sound.shape b.shape;
            within = rw v within-then;
            offered = offered-then;
            safe = λ R t u. safe-then R (b.safe R t u);
            stays = λ R t u i e l le a k h.
                (let f = ap (λ (x : ℕ). x / 4096 % 4096) (b.falls.same i l) in
                let g = ap (λ (x : ℕ). x % 4096) (b.falls.same i l) in
                sound.stays R (safe-free R (b.safe R t u)) i e l le
                (subst (λ (x : ℕ). T (R (get_or q.from e 0) x)) (sym f) a)
                (subst (λ (x : ℕ). T (R (get_or q.to e 0) x)) (sym g) k)
                (b.stays R t u i e l le a k h));
          }

  -- ---- the contract
  pub stepped_skip : bit_and due s.loose ≡ 0 → (s' : Place) → s'.settled ≡ settled' → s'.free ≡ free' → s'.loose ≡ s.loose → Stepped q n d c s w leave arrive out s' w leave arrive out
  stepped_skip z s' x y v =
      record { settled = x; leave_long = refl; arrive_long = refl; out_long = refl; prepared = P; at = λ w₀ a. between_at (ends₀ a.between) (between-skip a.between z s' x y v) }

  pub stepped_rest : {leaving arriving w' leave' arrive' out' : List ℕ} {r : ℕ} → Tabled q.from q.from q.edges leaving → Tabled q.from q.to q.edges arriving
      → Fixed n free' due 0 d leaving arriving leaving arriving w leave arrive out 0 w' leave' arrive' out' → LookedUp arriving due r
      → (s' : Place) → s'.settled ≡ settled' → s'.free ≡ free' → s'.loose ≡ bit_and (bit_or s.loose r) free' → Stepped q n d c s w leave arrive out s' w' leave' arrive' out'
  stepped_rest T₁ T₂ F L s' x y v =
      record { settled = x; leave_long = F.leave_long; arrive_long = F.arrive_long; out_long = F.out_long; prepared = fixed_prepared F P; at = λ w₀ a. between_at (ends₀ a.between) (between-rest T₁ T₂ F L a.between s' x y v) }

-- ---- steps one after the other
-- so many of the steps from the place s₀ at no node
pub record Gone (q : Given) (n d steps : ℕ) (s₀ : Place) (w₀ leave₀ arrive₀ out₀ : List ℕ) (s : Place) (w leave arrive out : List ℕ) (number : ℕ) : Type 0 where
  pub few : number ≤ steps
  pub sequence : StepsTo (pattern_in q) number (bit s.settled)
  pub long : length w ≡ length w₀
  pub leave_long : length leave ≡ length leave₀
  pub arrive_long : length arrive ≡ length arrive₀
  pub out_long : length out ≡ length out₀
  pub prepared : Prepared n d w leave arrive out
  pub at : (x : List ℕ) → At q n d x s₀ w₀ leave₀ arrive₀ → At q n d x s w leave arrive

module _ {q : Given} {n d steps : ℕ} (s₀ : Place) {w₀ leave₀ arrive₀ out₀ : List ℕ} where
  pub gone_none : s₀.settled ≡ 0 → Prepared n d w₀ leave₀ arrive₀ out₀ → Gone q n d steps s₀ w₀ leave₀ arrive₀ out₀ s₀ w₀ leave₀ arrive₀ out₀ 0
  gone_none z P =
      record {
        few = omega arith;
        sequence = start (λ v l. same_test _ _ (λ h. absurd (none_has v (subst (λ (x : ℕ). Has x v) z h))) (λ h. absurd h));
        long = refl;
        leave_long = refl;
        arrive_long = refl;
        out_long = refl;
        prepared = P;
        at = λ x a. a;
      }

  module _ (s : Place) {w leave arrive out : List ℕ} {number : ℕ} (g : Gone q n d steps s₀ w₀ leave₀ arrive₀ out₀ s w leave arrive out number) where
    pub gone_more : (c : ℕ) (s' : Place) {w' leave' arrive' out' : List ℕ} → number < steps → OneStep (pattern_in q) (bit s.settled) (bit (bit_or s.settled c))
        → Stepped q n d c s w leave arrive out s' w' leave' arrive' out' → Gone q n d steps s₀ w₀ leave₀ arrive₀ out₀ s' w' leave' arrive' out' (number + 1)
    gone_more c s' l o t =
        record {
          few = omega arith;
          sequence = subst (λ (k : ℕ). StepsTo (pattern_in q) k (bit s'.settled)) {x = suc number} {y = number + 1} (omega arith) (step g.sequence (subst (λ (x : ℕ). OneStep (pattern_in q) (bit s.settled) (bit x)) (sym t.settled) o));
          long = t.prepared.ends.long ∙ sym g.prepared.ends.long ∙ g.long;
          leave_long = t.leave_long ∙ g.leave_long;
          arrive_long = t.arrive_long ∙ g.arrive_long;
          out_long = t.out_long ∙ g.out_long;
          prepared = t.prepared;
          at = λ x a. t.at x (g.at x a);
        }

    -- all are settled, or no step is left
    pub gone_all : ((u : ℕ) → u < q.nodes → Has s.settled u) → Going q n d steps s₀ w₀ leave₀ arrive₀ s.settled w
    gone_all all x a =
        let b = g.at x a in
        record { number = number; most = g.few; last = λ l. all; sequence = g.sequence; state = b.state; long = b.edges.long; pairs = b.edges.same }

    pub gone_end : steps ≤ number → Going q n d steps s₀ w₀ leave₀ arrive₀ s.settled w
    gone_end z x a =
        let b = g.at x a in
        record { number = number; most = g.few; last = λ l. absurd (omega arith); sequence = g.sequence; state = b.state; long = b.edges.long; pairs = b.edges.same }

-- ---- with the pruning or without
true_false : true ≡ false → ⊥
true_false e = subst T e tt

module _ {q : Given} {d steps settled : ℕ} {pruned : Bool} {w w' : List ℕ} (r : Ran q d steps w settled w') where
  pub ran_alone : pruned ≡ false → RanPruned q d steps pruned w settled w'
  ran_alone e = record { middle = w'; ran = r; steps_alone = λ n. refl; then_pruned = λ y. absurd (true_false (sym y ∙ e)); long = r.long }

  pub ran_pruned : {w'' : List ℕ} → pruned ≡ true → Pruned q d w' w'' → RanPruned q d steps pruned w settled w''
  ran_pruned y p = record { middle = w'; ran = r; steps_alone = λ n. absurd (true_false (sym y ∙ n)); then_pruned = λ _. p; long = p.long ∙ r.long }

-- ---- a trial
is_accepted : Verdict → Type 0
is_accepted (accepted ws) = Unit {0}
is_accepted (rejected n d) = ⊥

content_of : Verdict → List ℕ
content_of (accepted ws) = ws
content_of (rejected n d) = []

not_both : {v : Verdict} {ws : List ℕ} {n d : ℕ} → v ≡ accepted ws → v ≡ rejected n d → ⊥
unfolding is_accepted
not_both e f = subst is_accepted (sym e ∙ f) tt

module _ (s : List ℕ) (d steps : ℕ) (pruned : Bool) (w : List ℕ) where
  pub tried_short : length w < 16384 → Tried s d steps pruned w 0 w
  tried_short l = record { short = λ h. (refl, refl); refused = λ n d e. (refl, refl); ran = λ h. absurd (omega arith) }

  pub tried_refused : {n e : ℕ} → read_pattern s ≡ rejected n e → Tried s d steps pruned w 0 w
  tried_refused e = record { short = λ h. (refl, refl); refused = λ n d f. (refl, refl); ran = λ h ws f. absurd (not_both f e) }

  pub tried_ran : {n r pairs : ℕ} {room : List ℕ} (l rest : List ℕ) (p : Given) → 16384 ≤ length w → PairsTaken d (take 16384 w) pairs → Held (λ ws. HoldsPattern ws p) (read_pattern s) n room → RanPruned p pairs steps pruned (take 16384 w) r l → Tried s d steps pruned w r (l ++ rest)
  unfolding content_of
  tried_ran {r = settled} {pairs = pairs} l rest p h u a r =
      record {
        short = λ x. absurd (omega arith);
        refused = λ n d f. absurd (not_both a.is f);
        ran = λ x ws f.
            record {
              given = p;
              holds = subst (λ (y : List ℕ). HoldsPattern y p) (ap content_of (sym a.is ∙ f)) a.holds;
              pairs = pairs;
              taken = u;
              ran = subst (λ (y : List ℕ). RanPruned p pairs steps pruned (take 16384 w) settled y) (sym front) r;
            };
      }
    where
      front : take 16384 (l ++ rest) ≡ l
      front = take_at l rest 16384 (r.long ∙ length-take-le 16384 w h)
