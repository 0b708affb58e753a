-- The loop that settles the nodes.
use mathlib.Core.Path.{◌≡◌, refl, sym, subst}
use mathlib.Core.Logic.{⊎_elim}
use mathlib.Core.List.{List}
use Prim.Native.Nat.{ℕ, ◌≤◌, ◌<◌, ◌+◌, ◌^◌}
use native.Mathlib.Nat.{zero-add}
use native.Mathlib.Omega.{arith}
use lib.ListN.{length, get_or, set}
use lib.Bits.{bit_or}
use Rattle.packed.proofs.OrderCases.{lt_or_ge}
use Rattle.engine.proofs.MaskBits.{mask_self, union_start, union_more, union_end}
use Rattle.engine.proofs.Filling.{Filling, filling_start, filling_more, filling_around, filling_front}
use Rattle.engine.specs.Masks.{Has, Mask, OneOf}
use Rattle.engine.specs.Sweeping.{Left, missing, NodesSettled}

-- the nodes below v are settled
pub record Settling (n due : ℕ) (leaving arriving leave₀ arrive₀ out₀ leave arrive out : List ℕ) (lost v : ℕ) : Type 0 where
  pub leaves : Filling 0 n (λ j x. Left leaving (missing due leave₀ out₀ j) (get_or leave₀ j 0) x) leave₀ leave v
  pub arrives : Filling 0 n (λ j x. Left arriving (missing due leave₀ out₀ j) (get_or arrive₀ j 0) x) arrive₀ arrive v
  pub outs : Filling 0 n (λ j x. x ≡ 0) out₀ out v
  pub short : (j : ℕ) → j < v → get_or out₀ j 0 < 2 ^ 32
  pub missed : Mask (λ e. OneOf v (λ j. Has (missing due leave₀ out₀ j) e)) lost

module _ (n due : ℕ) (leaving arriving : List ℕ) where
  pub settling_start : (leave arrive out : List ℕ) → Settling n due leaving arriving leave arrive out leave arrive out 0 0
  settling_start leave arrive out =
      record { leaves = filling_start 0 n _ leave; arrives = filling_start 0 n _ arrive; outs = filling_start 0 n _ out; short = λ j l. absurd (omega arith); missed = union_start (λ j. Has (missing due leave out j)) }

  module _ {leave₀ arrive₀ out₀ leave arrive out : List ℕ} {lost v : ℕ} (h : Settling n due leaving arriving leave₀ arrive₀ out₀ leave arrive out lost v) where
    missing-same : missing due leave out v ≡ missing due leave₀ out₀ v
    unfolding missing
    missing-same =
        let a : get_or leave v 0 ≡ get_or leave₀ v 0 = h.leaves.later v (omega arith) in
        let b : get_or out v 0 ≡ get_or out₀ v 0 = h.outs.later v (omega arith) in
        rw (a, b)

    pub settling_more : v < n → n ≤ length leave₀ → n ≤ length arrive₀ → n ≤ length out₀ → get_or out v 0 < 2 ^ 32 → (a b : ℕ)
        → Left leaving (missing due leave out v) (get_or leave v 0) a → Left arriving (missing due leave out v) (get_or arrive v 0) b
        → Settling n due leaving arriving leave₀ arrive₀ out₀ (set leave v a) (set arrive v b) (set out v 0) (bit_or lost (missing due leave out v)) (v + 1)
    settling_more l la lb lo sh a b A B =
        let m = missing-same in
        let ea : get_or leave v 0 ≡ get_or leave₀ v 0 = h.leaves.later v (omega arith) in
        let eb : get_or arrive v 0 ≡ get_or arrive₀ v 0 = h.arrives.later v (omega arith) in
        let A₀ : Left leaving (missing due leave₀ out₀ v) (get_or leave₀ v 0) a = rw (← m, ← ea) A in
        let B₀ : Left arriving (missing due leave₀ out₀ v) (get_or arrive₀ v 0) b = rw (← m, ← eb) B in
        record {
          leaves = filling_more 0 n _ h.leaves v a l (omega arith) (sym (zero-add v)) A₀;
          arrives = filling_more 0 n _ h.arrives v b l (omega arith) (sym (zero-add v)) B₀;
          outs = filling_more 0 n _ h.outs v 0 l (omega arith) (sym (zero-add v)) refl;
          short = λ j p. ⊎_elim (λ (q : j < v). h.short j q)
              (λ (q : v ≤ j). let e : v ≡ j = omega arith in subst (λ (x : ℕ). get_or out₀ x 0 < 2 ^ 32) e (let o : get_or out v 0 ≡ get_or out₀ v 0 = h.outs.later v (omega arith) in omega arith)) (lt_or_ge j v);
          missed = union_more (λ j. Has (missing due leave₀ out₀ j)) v h.missed (rw m (mask_self (missing due leave₀ out₀ v)));
        }

    pub settling_end : n ≤ v → NodesSettled n due leaving arriving leave₀ arrive₀ out₀ lost leave arrive out
    settling_end l =
        record {
          leaves = filling_around 0 n _ h.leaves l;
          arrives = filling_around 0 n _ h.arrives l;
          outs = filling_around 0 n _ h.outs l;
          leave_left = filling_front n _ h.leaves l;
          arrive_left = filling_front n _ h.arrives l;
          clear = filling_front n _ h.outs l;
          short = λ j p. h.short j (omega arith);
          lost = union_end (λ j. Has (missing due leave₀ out₀ j)) v n h.missed (let u = h.leaves.upto in omega arith);
        }
