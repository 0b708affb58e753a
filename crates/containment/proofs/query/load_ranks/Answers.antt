-- `containment::query::load_ranks` meets its contract.
use native.Mathlib.Omega.{arith}
use mathlib.Core.Path.{◌≡◌}
use Rattle.containment.proofs.FieldLaws.{ranks_none, ranks_skip, ranks_one}
use Rattle.containment.proofs.query.load_ranks.Goals as goal
use Rattle.containment.proofs.query.load_ranks.Goals.{then-e-skip, else-e-skip}

pub loop-e-init : goal.loop-e-init
loop-e-init c = (omega arith, ranks_none _ _ _ _ _ c.requires.1)

pub loop-e-preserved : goal.loop-e-preserved
loop-e-preserved c =
    let i = c.loop-e.invariant in
    let fair = c.requires.0 in
    let taken = c.loop-e-test.true in (
      elim c.if-e-skip.branch [ then-e-skip w ↦ omega (arith, w.k-is, i.0) | else-e-skip w ↦ omega (arith, w.k-is, i.0) ],
      elim c.if-e-skip.branch [
        | then-e-skip w ↦
            rw (w.work-is, w.k-is)
            (ranks_one _ _ _ _ i.1 w.if-e-skip.true (omega (arith, i.0, taken, fair.edges)))
        | else-e-skip w ↦ rw (w.work-is, w.k-is) (ranks_skip _ _ _ _ i.1 w.if-e-skip.false)
      ],
    )

pub returns : goal.returns
returns c =
    let e : c.loop-e.e ≡ c.args.p.edges = omega arith in
    rw e at c.loop-e.invariant.1
