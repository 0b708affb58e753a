-- `engine::index::clear` meets its contract.
use native.Mathlib.Omega.{arith}
use mathlib.Core.Path.{refl}
use Rattle.engine.proofs.IndexLaws.{entering_more}
use Rattle.engine.proofs.index.clear.Goals as goal

pub loop-v-preserved : goal.loop-v-preserved
loop-v-preserved c = entering_more c.loop-v.invariant c.requires (omega (arith, c.loop-v-test.true)) refl
