-- `matching::sets::is_in` meets its contract.
use mathlib.Core.Path.{refl}
use Rattle.engine.specs.Simulation.{bit}
use Rattle.matching.proofs.sets.is_in.Goals as goal

pub returns : goal.returns
unfolding bit
returns c = refl
