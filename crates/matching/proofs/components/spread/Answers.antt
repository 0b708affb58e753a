-- `matching::components::spread` meets its contract.
use native.Mathlib.Omega.{arith}
use Rattle.matching.proofs.ReachLaws.{spreading_more, spreading_end}
use Rattle.matching.proofs.components.spread.Goals as goal

pub loop-e-preserved : goal.loop-e-preserved
loop-e-preserved c = (omega arith, spreading_more _ _ _ _ _ c.loop-e-test.true c.loop-e.invariant.1 c.one_where-r.ensures)

pub returns : goal.returns
returns c = spreading_end _ _ _ _ c.loop-e-test.false c.loop-e.invariant.1
