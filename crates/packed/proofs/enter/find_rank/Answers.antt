-- `packed::enter::find_rank` meets its contract.
use Rattle.packed.proofs.EnteringLaws.{looked_none, looked_more, looked_all, looked_found}
use Rattle.packed.proofs.enter.find_rank.Goals as goal

pub loop-i-init : goal.loop-i-init
loop-i-init c = looked_none _ _ _

pub returns-then-other-rank : goal.returns-then-other-rank
returns-then-other-rank c = looked_found _ _ _ _ _ c.loop-i-test.true c.requires c.rank_of-other.ensures c.if-other-rank.true

pub loop-i-preserved : goal.loop-i-preserved
loop-i-preserved c = looked_more c.loop-i.invariant c.loop-i-test.true c.requires _ _ c.rank_of-other.ensures c.if-other-rank.false c.is_lower-n.ensures

pub returns : goal.returns
returns c = looked_all c.loop-i.invariant c.loop-i-test.false
