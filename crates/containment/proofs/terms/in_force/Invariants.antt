-- `containment::terms::in_force` meets its contract.
use mathlib.Core.Path.{◌≡◌}
use Rattle.containment.specs.Terms.{in_force}
use Rattle.containment.proofs.terms.in_force.Given as goal

abbrev pub invariant-loop-a : goal.invariant-loop-a
invariant-loop-a l = l.set ≡ in_force l.t l.day l.a
