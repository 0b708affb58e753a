-- `containment::costing::is_behind` meets its contract.
use mathlib.Core.Path.{refl}
use Rattle.containment.specs.Cheapest.{lesser}
use Rattle.containment.specs.Tries.{is_behind}
use Rattle.containment.proofs.costing.is_behind.Goals as goal

pub returns : goal.returns
unfolding is_behind lesser
returns c = refl
