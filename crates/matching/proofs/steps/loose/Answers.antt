-- `matching::steps::loose` meets its contract.
use native.Mathlib.Omega.{arith}
use Rattle.engine.proofs.MaskBits.{union_start, union_end}
use Rattle.matching.proofs.SteppingLaws.{loose_more}
use Rattle.matching.proofs.steps.loose.Goals as goal

pub loop-i-init : goal.loop-i-init
loop-i-init c = (omega arith, union_start _)

pub loop-i-preserved : goal.loop-i-preserved
loop-i-preserved c = (omega arith, loose_more c.args.work.now c.args.leave.now c.args.arrive.now c.loop-i.i c.loop-i.invariant.1)

pub returns : goal.returns
returns c = union_end _ _ _ c.loop-i.invariant.1 (omega (arith, c.loop-i.invariant.0))
