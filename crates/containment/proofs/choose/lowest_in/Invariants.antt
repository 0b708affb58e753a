-- `containment::choose::lowest_in` meets its contract.
use mathlib.Core.Bool.{true}
use mathlib.Core.List.{List}
use mathlib.Core.Path.{◌≡◌}
use Prim.Native.Nat.{ℕ, ◌<◌}
use Rattle.engine.specs.Simulation.{bit}
use Rattle.containment.specs.Choice.{matched_in}
use Rattle.containment.specs.Masked.{Masked}
use Rattle.containment.proofs.choose.lowest_in.Given as goal

abbrev pub invariant-loop-e : goal.invariant-loop-e
invariant-loop-e l = ((t : List ℕ) → Masked t l.k l.m l.masks → (d : ℕ) → d < l.m → bit l.matched d ≡ matched_in t l.set d l.k) × ((d : ℕ) → d < l.e → bit l.matched d ≡ true)
