-- `containment::query::with_labels` meets its contract.
use native.Mathlib.Omega.{arith}
use mathlib.Core.Path.{◌≡◌}
use Rattle.containment.proofs.FieldLaws.{labels_start, labels_more}
use Rattle.containment.proofs.query.with_labels.Goals as goal

pub loop-u-init : goal.loop-u-init
loop-u-init c = labels_start c.args.p.labels

pub loop-u-preserved : goal.loop-u-preserved
loop-u-preserved c = labels_more _ (omega (arith, c.requires.labels_long, c.requires.nodes)) (omega (arith, c.requires.nodes)) c.only.ensures c.loop-u.invariant

pub returns : goal.returns
returns c =
    let e : c.loop-u.u ≡ c.args.p.nodes = omega arith in
    rw e at c.loop-u.invariant
