-- What is left where nothing is lost any more supports itself.
use mathlib.Core.Path.{sym}
use mathlib.Core.Logic.{⊎_elim}
use mathlib.Core.List.{List}
use Prim.Native.Nat.{ℕ, ◌≤◌, ◌<◌}
use native.Mathlib.Omega.{arith}
use lib.ListN.{get_or}
use Rattle.engine.specs.Masks.{Has}
use Rattle.engine.specs.Sweeping.{from_of, to_of, Ends}
use Rattle.engine.specs.Rounds.{Supports, SupportsBack, Shape, May, Rests}

-- the item u may stand at one of n nodes
abbrev pub RestsAt : List ℕ → List ℕ → ℕ → ℕ → List ℕ → List ℕ → ℕ → ℕ → Type 0
RestsAt from to m n leave arrive u v = May from to m leave arrive u v × (v < n)

module _ (from to : List ℕ) (m : ℕ) where
  -- what may stand supports itself
  pub rests_supports : {n free due back d : ℕ} {w leave arrive : List ℕ} → m ≤ 32 → Ends n d w → ((e : ℕ) → Has due e → Has free e → ⊥) → Shape from to m leave arrive
      → Rests n free due back d w leave arrive → Supports from to m (Has due) d w (RestsAt from to m n leave arrive)
  rests_supports {w = w} {arrive = arrive} few ends apart s R u v p e le y q =
      let o = R.held v e p.1 y (omega arith) (p.0.leaves e le q) in
      let i = o.at in
      let a : Has (get_or arrive (to_of w i) 0) e = ⊎_elim (λ f. absurd (apart e y f)) (λ b. b.1) (R.within i e o.below o.holds.1) in
      record {
        at = i;
        below = o.below;
        holds = (
          o.holds.0,
          o.holds.1,
          (
            record { leaves = λ k lk z. s.in_out (to_of w i) e k le lk (sym z) a; arrives = λ k lk z. s.in_in (to_of w i) e k le lk (sym z) a },
            ends.to i o.below,
          ),
        );
      }

  -- and as links arrive
  pub rests_backs : {n free due back d : ℕ} {w leave arrive : List ℕ} → m ≤ 32 → Ends n d w → ((e : ℕ) → Has back e → Has free e → ⊥) → Shape from to m leave arrive
      → Rests n free due back d w leave arrive → SupportsBack from to m (Has back) d w (RestsAt from to m n leave arrive)
  rests_backs {w = w} {leave = leave} few ends apart s R u v p e le y q =
      let o = R.arrived v e p.1 y (omega arith) (p.0.arrives e le q) in
      let i = o.at in
      let a : Has (get_or leave (from_of w i) 0) e = ⊎_elim (λ f. absurd (apart e y f)) (λ b. b.0) (R.within i e o.below o.holds.1) in
      record {
        at = i;
        below = o.below;
        holds = (
          o.holds.0,
          o.holds.1,
          (
            record { leaves = λ k lk z. s.out_out (from_of w i) e k le lk (sym z) a; arrives = λ k lk z. s.out_in (from_of w i) e k le lk (sym z) a },
            ends.from i o.below,
          ),
        );
      }
