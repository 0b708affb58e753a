-- `engine::start::by_label` meets its contract.
use mathlib.Core.Path.{refl}
use native.Mathlib.Omega.{arith}
use Rattle.engine.proofs.StartLaws.{group_start, group_more}
use Rattle.engine.proofs.start.by_label.Goals as goal

pub loop-e-init : goal.loop-e-init
loop-e-init c = (omega arith, group_start _ _ refl)

pub loop-e-preserved : goal.loop-e-preserved
loop-e-preserved c = (omega arith, group_more _ _ c.loop-e.invariant.1 (c.requires.2 c.loop-e.e c.loop-e-test.true) _ c.one.ensures)
