-- The invariant: the first i entries are noted.
use mathlib.Core.Path.{◌≡◌}
use Rattle.containment.specs.Terms.{noted}
use Rattle.containment.proofs.spread.Given as goal

abbrev pub invariant-loop-i : goal.invariant-loop-i
invariant-loop-i l = l.t ≡ noted l.terms l.i
