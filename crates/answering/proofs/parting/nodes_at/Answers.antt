-- `answering::parting::nodes_at` meets its contract.
use borrow.Author.Rules.{rules}
use mathlib.Core.Path.{sym, subst, ◌∙◌}
use Prim.Native.Nat.{◌+◌}
use Rattle.engine.specs.Masks.{Mask}
use Rattle.engine.proofs.MaskBits.{union_start}
use Rattle.answering.specs.Parting.{EndTaken}
use Rattle.answering.proofs.PartingLaws.{ends_more, ends_same}
use Rattle.answering.proofs.parting.nodes_at.Goals as goal
use Rattle.answering.proofs.parting.nodes_at.Goals.{then-is_in, else-is_in}

pub loop-e-init : goal.loop-e-init
loop-e-init c = (search rules, union_start _)

pub loop-e-preserved : goal.loop-e-preserved
loop-e-preserved c =
    let a = c.args in
    let l = c.loop-e in
    let e = sym c.is_in.ensures in (
      search rules,
      elim c.if-is_in.branch [
        | then-is_in w ↦ subst (Mask (EndTaken a.q a.taken (l.e + 1))) (sym w.nodes-is) (ends_more a.q a.taken l.e l.invariant.1 (e ∙ w.if-is_in.true) w.only.ensures w.only-then-is_in.ensures)
        | else-is_in w ↦ subst (Mask (EndTaken a.q a.taken (l.e + 1))) (sym w.nodes-is) (ends_same a.q a.taken l.e l.invariant.1 (e ∙ w.if-is_in.false))
      ],
    )
