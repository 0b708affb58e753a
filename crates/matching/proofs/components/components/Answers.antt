-- `matching::components::components` meets its contract.
use mathlib.Core.Path.{sym}
use native.Mathlib.Nat.{zero-add}
use native.Mathlib.Omega.{arith}
use Rattle.engine.proofs.Filling.{filling_more, filling_front}
use Rattle.matching.proofs.ReachLaws.{component_mask}
use Rattle.matching.proofs.components.components.Goals as goal

pub loop-u-preserved : goal.loop-u-preserved
loop-u-preserved c = filling_more _ _ _ c.loop-u.invariant _ _ c.loop-u-test.true (omega (arith, c.requires)) (sym (zero-add _)) (component_mask c.args.t.now c.args.n c.loop-u.u c.back.ensures)

pub returns : goal.returns
returns c = filling_front _ _ c.loop-u.invariant c.loop-u-test.false
