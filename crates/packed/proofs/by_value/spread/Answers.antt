-- `packed::by_value::spread` meets its contract.
use mathlib.Core.Path.{refl}
use native.Mathlib.Omega.{arith}
use Rattle.packed.proofs.ByValueLaws.{spread_start, spread_more, spread_end}
use Rattle.packed.proofs.by_value.spread.Goals as goal

pub loop-j-init : goal.loop-j-init
loop-j-init g c = (omega arith, spread_start _ _ _ _ _ refl)

pub loop-j-preserved : goal.loop-j-preserved
loop-j-preserved g c = (omega arith, spread_more _ _ _ _ _ _ _ c.loop-j.invariant.1 (omega arith) refl)

pub returns : goal.returns
returns g c = spread_end _ _ _ _ _ _ _ c.loop-j.invariant.1 (omega arith)
