-- `containment::choose::columns_in` meets its contract.
use mathlib.Core.Path.{sym, ap, subst, ◌∙◌}
use Prim.Native.Nat.{ℕ, ◌+◌}
use native.Mathlib.Omega.{arith}
use Rattle.containment.specs.Choice.{columns_in}
use Rattle.containment.proofs.ColumnLaws.{columns_every, Columned, columned_none, columned_more, columned_same, columned_whole}
use Rattle.containment.proofs.choose.columns_in.Goals as goal
use Rattle.containment.proofs.choose.columns_in.Goals.{then-is_in, else-is_in}

pub returns-then-set-eq-EVERY_VIEW : goal.returns-then-set-eq-EVERY_VIEW
returns-then-set-eq-EVERY_VIEW c = let t = c.args.table.now in sym (ap (λ (s : ℕ). columns_in s t) c.if-set-eq-EVERY_VIEW.true ∙ columns_every t)

pub loop-k-init : goal.loop-k-init
loop-k-init c = columned_none _ _ _ c.no_mapping-columns.ensures

pub loop-k-preserved : goal.loop-k-preserved
loop-k-preserved c =
    let a = c.args in
    let l = c.loop-k in
    let e = sym c.is_in.ensures in
    elim c.if-is_in.branch [
      | then-is_in w ↦ subst (Columned a.set a.table.now (l.k + 1)) (sym w.columns-is) (columned_more a.set a.table.now l.invariant (e ∙ w.if-is_in.true) (omega arith))
      | else-is_in w ↦ subst (Columned a.set a.table.now (l.k + 1)) (sym w.columns-is) (columned_same a.set a.table.now l.invariant (e ∙ w.if-is_in.false))
    ]

pub returns : goal.returns
returns c =
    let a = c.args in
    columned_whole a.set a.table.now c.requires (omega arith) c.loop-k.invariant
