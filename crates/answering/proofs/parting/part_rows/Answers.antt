-- `answering::parting::part_rows` meets its contract.
use Rattle.answering.proofs.PartingLaws.{number_more, number_same}
use borrow.Author.Rules.{rules}
use mathlib.Core.Path.{refl, sym, subst, ◌∙◌}
use Prim.Native.Nat.{◌+◌}
use native.Mathlib.Omega.{arith}
use Rattle.matching.specs.Part.{rank}
use Rattle.answering.specs.Parting.{Picked, in_rows}
use Rattle.answering.proofs.PartingLaws.{picked_none, picked_more, picked_same}
use Rattle.answering.proofs.parting.part_rows.Goals as goal
use Rattle.answering.proofs.parting.part_rows.Goals.{then-is_in, else-is_in}

pub loop-k-init : goal.loop-k-init
loop-k-init c = (search rules, search rules, unfold rank in refl, picked_none _ _ _ c.no_mapping-rows.ensures)

pub loop-k-preserved : goal.loop-k-preserved
loop-k-preserved c =
    let a = c.args in
    let l = c.loop-k in
    let p = in_rows a.taken in
    let e = sym c.is_in.ensures in (
      search rules,
      elim c.if-is_in.branch [ then-is_in w ↦ omega (arith, w.j-is) | else-is_in w ↦ omega (arith, w.j-is) ],
      elim c.if-is_in.branch [ then-is_in w ↦ w.j-is ∙ number_more p l.k l.invariant.2 (e ∙ w.if-is_in.true) | else-is_in w ↦ w.j-is ∙ number_same p l.k l.invariant.2 (e ∙ w.if-is_in.false) ],
      elim c.if-is_in.branch [
        | then-is_in w ↦ subst (Picked p a.table.now (l.k + 1)) (sym w.rows-is) (picked_more p a.table.now l.invariant.3 l.invariant.2 (e ∙ w.if-is_in.true) (omega arith))
        | else-is_in w ↦ subst (Picked p a.table.now (l.k + 1)) (sym w.rows-is) (picked_same p a.table.now l.invariant.3 (e ∙ w.if-is_in.false))
      ],
    )
