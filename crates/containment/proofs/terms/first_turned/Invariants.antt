-- `containment::terms::first_turned` meets its contract.
use Prim.Native.Nat.{ℕ, ◌<◌}
use Rattle.containment.specs.Terms.{from_day, to_day}
use Rattle.containment.proofs.terms.first_turned.Given as goal

abbrev pub invariant-loop-a : goal.invariant-loop-a
invariant-loop-a l = (d : ℕ) → d < l.a → from_day l.t d < to_day l.t d
