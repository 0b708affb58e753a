-- `engine::link_tables::by_item` meets its contract.
use mathlib.Core.Path.{refl}
use mathlib.Core.Path.{sym, subst}
use Prim.Native.Nat.{ℕ, ◌+◌}
use native.Mathlib.Omega.{arith}
use lib.ListN.{get_or}
use Rattle.engine.proofs.StartLaws.{Grouped, group_start, group_more, group_skip}
use Rattle.engine.proofs.link_tables.by_item.Goals as goal
use Rattle.engine.proofs.link_tables.by_item.Goals.{then-b-k-lt64, else-b-k-lt64}

pub loop-k-init : goal.loop-k-init
loop-k-init c = (omega arith, group_start _ _ refl)

pub loop-k-preserved : goal.loop-k-preserved
loop-k-preserved c =
    let b = c.args.b.now in
    let loop = c.loop-k in
    let at : ℕ → ℕ = λ j. get_or b j 0 in (
      omega arith,
      elim c.if-b-k-lt64.branch [
        | then-b-k-lt64 w ↦ subst (Grouped 64 at (loop.k + 1)) (sym w.t-is) (group_more 64 at loop.invariant.1 w.if-b-k-lt64.true _ w.one.ensures)
        | else-b-k-lt64 w ↦ subst (Grouped 64 at (loop.k + 1)) (sym w.t-is) (group_skip 64 at loop.invariant.1 w.if-b-k-lt64.false)
      ],
    )
