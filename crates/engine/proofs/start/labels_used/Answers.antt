-- `engine::start::labels_used` meets its contract.
use native.Mathlib.Omega.{arith}
use mathlib.Core.Path.{◌≡◌}
use lib.ListN.{get_or}
use Rattle.engine.proofs.MaskBits.{union_start, union_more}
use Rattle.engine.proofs.StartLaws.{label_mask}
use Rattle.engine.proofs.start.labels_used.Goals as goal

pub loop-u-init : goal.loop-u-init
loop-u-init c = (omega arith, union_start _)

pub loop-u-preserved : goal.loop-u-preserved
loop-u-preserved c =
    let labels = c.args.labels.now in
    let loop = c.loop-u in
    (omega arith, union_more (λ j l. get_or labels j 0 ≡ l) _ loop.invariant.1 (label_mask _ _ c.one-r.ensures))
