-- `containment::terms::is_in_force` meets its contract.
use mathlib.Core.Path.{refl}
use Rattle.containment.specs.Terms.{is_in_force}
use Rattle.containment.proofs.terms.is_in_force.Goals as goal

pub returns : goal.returns
unfolding is_in_force
returns c = refl
