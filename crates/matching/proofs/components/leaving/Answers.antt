-- `matching::components::leaving` meets its contract.
use mathlib.Core.Path.{◌≡◌}
use native.Mathlib.Omega.{arith}
use lib.ListN.{get_or}
use Rattle.engine.specs.Masks.{Has}
use Rattle.engine.proofs.MaskBits.{union_start, union_more, union_end}
use Rattle.matching.proofs.components.leaving.Goals as goal

pub loop-e-init : goal.loop-e-init
loop-e-init c = (omega arith, union_start _)

pub loop-e-preserved : goal.loop-e-preserved
loop-e-preserved c = (omega arith, union_more (λ e k. (e ≡ k) × Has c.args.x (get_or c.args.from.now e 0)) _ c.loop-e.invariant.1 c.one_where-r.ensures)

pub returns : goal.returns
returns c = union_end (λ e k. (e ≡ k) × Has c.args.x (get_or c.args.from.now e 0)) _ _ c.loop-e.invariant.1 (omega arith)
