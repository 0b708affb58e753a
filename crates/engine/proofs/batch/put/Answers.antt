-- `engine::batch::put` meets its contract.
use native.Mathlib.Omega.{arith}
use mathlib.Core.Path.{refl}
use Rattle.engine.proofs.Filling.{filling_start, filling_more}
use Rattle.engine.proofs.PartLaws.{put_end}
use Rattle.engine.proofs.batch.put.Goals as goal

pub loop-e-init : goal.loop-e-init
loop-e-init g c = filling_start _ _ _ _

pub loop-e-smaller : goal.loop-e-smaller
loop-e-smaller g c = omega (arith, c.loop-e-test.true)

pub loop-e-preserved : goal.loop-e-preserved
loop-e-preserved g c = filling_more _ _ _ c.loop-e.invariant _ _ c.loop-e-test.true (omega (arith, c.requires.0, c.requires.2)) refl refl

pub returns : goal.returns
returns g c = put_end c.loop-e.invariant c.loop-e-test.false
