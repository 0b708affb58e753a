-- `answering::parting::with_edges` meets its contract.
use borrow.Author.Rules.{rules}
use mathlib.Core.Path.{sym, subst, ◌∙◌}
use Prim.Native.Nat.{◌+◌, ◌*◌, ◌≤◌}
use native.Mathlib.Omega.{arith}
use Rattle.answering.specs.Parting.{Adds, taken_fields}
use Rattle.containment.specs.declared.query.Fields.{Fields}
use Rattle.answering.proofs.PartingLaws.{edges_none, edges_more, edges_same}
use Rattle.answering.proofs.parting.with_edges.Goals as goal
use Rattle.answering.proofs.parting.with_edges.Goals.{then-is_in, else-is_in}

pub loop-e-init : goal.loop-e-init
loop-e-init c = (search rules, search rules, edges_none c.args.q c.args.taken c.args.nodes)

pub loop-e-preserved : goal.loop-e-preserved
loop-e-preserved c =
    let a = c.args in
    let l = c.loop-e in
    let e = sym c.is_in.ensures in (
      search rules,
      elim c.if-is_in.branch [
        | then-is_in w ↦ subst (λ (g : Fields). g.number ≤ a.f.number + 3 * (l.e + 1)) (sym w.g-is) (omega (arith, w.with_edge-g.ensures.0, l.invariant.1))
        | else-is_in w ↦ subst (λ (g : Fields). g.number ≤ a.f.number + 3 * (l.e + 1)) (sym w.g-is) (omega (arith, l.invariant.1))
      ],
      elim c.if-is_in.branch [
        | then-is_in w ↦ subst (Adds (taken_fields a.q a.taken a.nodes (l.e + 1)) a.f) (sym w.g-is) (edges_more a.q a.taken a.nodes l.e (e ∙ w.if-is_in.true) w.number_in-from.ensures.0 w.number_in-to.ensures.0 l.invariant.2 w.with_edge-g.ensures.1)
        | else-is_in w ↦ subst (Adds (taken_fields a.q a.taken a.nodes (l.e + 1)) a.f) (sym w.g-is) (edges_same a.q a.taken a.nodes l.e (e ∙ w.if-is_in.false) l.invariant.2)
      ],
    )
