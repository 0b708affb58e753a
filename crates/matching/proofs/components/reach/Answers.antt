-- `matching::components::reach` meets its contract.
use mathlib.Core.Path.{refl}
use Rattle.engine.proofs.MaskBits.{has_by}
use Rattle.matching.proofs.ReachLaws.{within_start, within_more, within_less, within_end}
use Rattle.matching.proofs.components.reach.Goals as goal

pub loop-x-init : goal.loop-x-init
loop-x-init c = within_start c.requires.0 _ _ c.requires.1 c.one_where-x.ensures (has_by 1 0 refl)

pub returns-then-y-x : goal.returns-then-y-x
returns-then-y-x c = within_end c.requires.0 _ _ _ c.requires.1 c.loop-x.invariant c.spread-y.ensures c.if-y-x.true

pub loop-x-smaller : goal.loop-x-smaller
loop-x-smaller c = within_less c.requires.0 _ _ _ c.loop-x.invariant c.spread-y.ensures c.if-y-x.false

pub loop-x-preserved : goal.loop-x-preserved
loop-x-preserved c = within_more c.requires.0 _ _ _ c.loop-x.invariant c.spread-y.ensures
