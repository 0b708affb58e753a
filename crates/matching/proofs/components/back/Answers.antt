-- `matching::components::back` meets its contract.
use mathlib.Core.Path.{◌≡◌}
use native.Mathlib.Omega.{arith}
use lib.ListN.{get_or}
use Rattle.engine.specs.Masks.{Has}
use Rattle.engine.proofs.MaskBits.{union_start, union_more, union_end}
use Rattle.matching.proofs.components.back.Goals as goal

pub loop-v-init : goal.loop-v-init
loop-v-init c = (omega arith, union_start _)

pub loop-v-preserved : goal.loop-v-preserved
loop-v-preserved c = (omega arith, union_more (λ e k. (e ≡ k) × Has (get_or c.args.t.now e 0) c.args.u) _ c.loop-v.invariant.1 c.one_where-r.ensures)

pub returns : goal.returns
returns c = union_end (λ e k. (e ≡ k) × Has (get_or c.args.t.now e 0) c.args.u) _ _ c.loop-v.invariant.1 (omega arith)
