use mathlib.Core.Path.{◌≡◌}
use native.Mathlib.Omega.{arith}
use lib.ListN.{get_or}
use Rattle.engine.proofs.MaskBits.{union_start, union_more}
use Rattle.engine.proofs.link_tables.row.Goals as goal

pub loop-k-init : goal.loop-k-init
loop-k-init c = (omega arith, union_start _)

pub loop-k-preserved : goal.loop-k-preserved
loop-k-preserved c = (omega arith, union_more (λ e k. (e ≡ k) × (c.args.x ≡ get_or c.args.b.now e 0)) _ c.loop-k.invariant.1 c.one-r.ensures)
