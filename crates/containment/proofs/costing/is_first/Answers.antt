-- `containment::costing::is_first` meets its contract.
use mathlib.Core.Path.{refl}
use Rattle.containment.specs.Cheapest.{lesser}
use Rattle.containment.specs.Tries.{is_first}
use Rattle.containment.proofs.costing.is_first.Goals as goal

pub returns : goal.returns
unfolding is_first lesser
returns c = refl
