-- Where the join begins: every item may stand at every node.
use mathlib.Core.Path.{◌≡◌, ap, ◌∙◌, sym, subst}
use mathlib.Core.Logic.{⊎_elim}
use mathlib.Core.List.{List}
use Prim.Native.Nat.{ℕ, ◌≤◌, ◌<◌, ◌+◌, ◌-◌, ◌/◌}
use native.Mathlib.Omega.{arith}
use lib.ListN.{length, get_or, replicate, length-replicate, get_or-replicate, get_or-eq_default}
use Rattle.packed.proofs.OrderCases.{lt_or_ge}
use Rattle.engine.specs.Masks.{Has, Mask}
use Rattle.engine.specs.Sweeping.{from_of, to_of, Ends}
use Rattle.engine.specs.Rounds.{Shape, Prepared}
use Rattle.matching.specs.Candidates.{Pool}
use Rattle.engine.proofs.MaskBits.{none_has}

-- ---- the same word for every node
module _ {x : ℕ} {l : List ℕ} (e : l ≡ replicate 4096 x) where
  pub every_long : length l ≡ 4096
  every_long = ap length e ∙ length-replicate {A = ℕ} 4096 x

  every_word : (v : ℕ) → v < 4096 → get_or l v 0 ≡ x
  every_word v h = ap (λ (a : List ℕ). get_or a v 0) e ∙ get_or-replicate 4096 v x 0 h

  -- where there is a word there is a node
  every_node : (v k : ℕ) → Has (get_or l v 0) k → v < 4096
  every_node v k h =
      ⊎_elim (λ (p : v < 4096). p)
      (λ (p : 4096 ≤ v). absurd (none_has k (subst (λ (y : ℕ). Has y k) (get_or-eq_default l 0 (let z = every_long in omega arith)) h)))
      (lt_or_ge v 4096)

module _ {n d x : ℕ} {w leave arrive out : List ℕ} (p : Pool d w) (few : n ≤ 4096) (E : Ends n d w) (L : leave ≡ replicate 4096 x) (A : arrive ≡ replicate 4096 x) (O : out ≡ replicate 4096 0) where
  pub every_prepared : Prepared n d w leave arrive out
  every_prepared =
      record {
        ends = E;
        order = λ i j a b. (let r = p.rises i j a b in let s = p.small j b in omega arith);
        nodes = (let z = every_long O in omega arith);
        leave_long = every_long L ∙ sym (every_long O);
        arrive_long = every_long A ∙ sym (every_long O);
        clear = λ v l. every_word O v (omega arith);
      }

-- ---- every link at every node
module _ {x m : ℕ} (X : Mask (λ e. e < m) x) where
  pub every_has : {l : List ℕ} → l ≡ replicate 4096 x → (v e : ℕ) → v < 4096 → e < m → Has (get_or l v 0) e
  every_has q v e l le = subst (λ (y : ℕ). Has y e) (sym (every_word q v l)) (X.hit e le)

  pub every_shape : (from to : List ℕ) {leave arrive : List ℕ} → leave ≡ replicate 4096 x → arrive ≡ replicate 4096 x → Shape from to m leave arrive
  every_shape from to L A =
      record {
        out_out = λ v e k le lk q h. every_has L v k (every_node L v e h) lk;
        out_in = λ v e k le lk q h. every_has A v k (every_node L v e h) lk;
        in_out = λ v e k le lk q h. every_has L v k (every_node A v e h) lk;
        in_in = λ v e k le lk q h. every_has A v k (every_node A v e h) lk;
      }

-- ---- how many nodes
pub no_ends : {d : ℕ} {w : List ℕ} → Pool d w → d ≡ 0 → Ends 0 d w
no_ends p z = record { most = p.most; long = p.long; from = λ i l. absurd (omega arith); to = λ i l. absurd (omega arith) }

-- no pair begins beyond the last one
pub all_ends : {d r : ℕ} {w : List ℕ} → Pool d w → (f t : ℕ) → f ≡ get_or w (d - 1) 0 / 4096 → ((i : ℕ) → i < d → to_of w i ≤ t) → f ≤ r → t ≤ r → Ends (r + 1) d w
all_ends {d} {r} {w} p f t e h a b =
    record {
      most = p.most;
      long = p.long;
      from = λ i l. ⊎_elim
          (λ (z : i < d - 1). let y = p.rises i (d - 1) z (omega arith) in let s = p.small (d - 1) (omega arith) in omega arith)
          (λ (z : d - 1 ≤ i). let y : i ≡ d - 1 = omega arith in let c = ap (from_of w) y in omega arith)
          (lt_or_ge i (d - 1));
      to = λ i l. (let y = h i l in omega arith);
    }
