-- `answering::parting::with_labels` meets its contract.
use lib.ListN.{length}
use Rattle.containment.specs.declared.query.Fields.{Fields}
use borrow.Author.Rules.{rules}
use mathlib.Core.Path.{sym, subst, ◌∙◌}
use Prim.Native.Nat.{◌+◌, ◌≤◌, ◌<◌}
use lib.ListN.{take}
use native.Mathlib.Omega.{arith}
use Rattle.engine.specs.Simulation.{bit}
use Rattle.matching.specs.Part.{at_places}
use Rattle.answering.specs.Parting.{Adds}
use Rattle.answering.proofs.PartingLaws.{labels_none, labels_more, labels_same}
use Rattle.answering.proofs.parting.with_labels.Goals as goal
use Rattle.answering.proofs.parting.with_labels.Goals.{then-is_in, else-is_in}

pub loop-u-init : goal.loop-u-init
loop-u-init c = (search rules, search rules, labels_none c.args.nodes c.args.q.labels)

pub loop-u-preserved : goal.loop-u-preserved
loop-u-preserved c =
    let a = c.args in
    let l = c.loop-u in
    let e = sym c.is_in.ensures in
    let h : l.u < length a.q.labels = omega (arith, c.requires.0.labels_long, c.requires.0.nodes) in (
      search rules,
      elim c.if-is_in.branch [
        | then-is_in w ↦ subst (λ (g : Fields). g.number ≤ a.f.number + (l.u + 1)) (sym w.g-is) (omega (arith, w.with_word-g.ensures.0, l.invariant.1))
        | else-is_in w ↦ subst (λ (g : Fields). g.number ≤ a.f.number + (l.u + 1)) (sym w.g-is) (omega (arith, l.invariant.1))
      ],
      elim c.if-is_in.branch [
        | then-is_in w ↦ subst (Adds (at_places (bit a.nodes) (take (l.u + 1) a.q.labels)) a.f) (sym w.g-is) (labels_more a.nodes a.q.labels l.u h (e ∙ w.if-is_in.true) l.invariant.2 w.with_word-g.ensures.1)
        | else-is_in w ↦ subst (Adds (at_places (bit a.nodes) (take (l.u + 1) a.q.labels)) a.f) (sym w.g-is) (labels_same a.nodes a.q.labels l.u h (e ∙ w.if-is_in.false) l.invariant.2)
      ],
    )
