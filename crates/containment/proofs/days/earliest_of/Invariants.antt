-- `containment::days::earliest_of` meets its contract.
use mathlib.Core.Path.{◌≡◌}
use Rattle.containment.specs.Choice.{covers_in}
use Rattle.containment.specs.Terms.{in_force, earliest}
use Rattle.containment.proofs.days.earliest_of.Given as goal

abbrev pub invariant-loop-a : goal.invariant-loop-a
invariant-loop-a l = l.found ≡ earliest (λ i. covers_in l.table (in_force l.t i l.k) l.k l.m) l.t l.day l.a
