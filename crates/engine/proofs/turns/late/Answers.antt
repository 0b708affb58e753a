-- `engine::turns::late` meets its contract.
use native.Mathlib.Omega.{arith}
use Prim.Native.Nat.{ℕ}
use lib.ListN.{length-replicate}
use Rattle.engine.proofs.EndLaws.{zeroed}
use Rattle.engine.proofs.SetLaws.{blank_unmarked, blank_set}
use Rattle.engine.proofs.turns.late.Goals as goal

pub ends-requires : goal.ends-requires
ends-requires c =
    let pre = c.requires in
    (pre.0, pre.2, zeroed, omega (arith, pre.0.most, length-replicate {A = ℕ} 8192 0))

pub mark_all-requires : goal.mark_all-requires
mark_all-requires c =
    let pre = c.requires in
    let ends = c.ends in
    (pre.2, pre.1.0, blank_set, omega (arith, pre.2, ends.ensures.long), λ v l. blank_unmarked v)
