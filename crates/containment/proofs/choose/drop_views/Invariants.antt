-- `containment::choose::drop_views` meets its contract.
use mathlib.Core.Path.{◌≡◌}
use mathlib.Core.List.{List}
use Prim.Native.Nat.{ℕ}
use Rattle.containment.specs.Choice.{kept}
use Rattle.containment.specs.Masked.{Masked}
use Rattle.containment.proofs.choose.drop_views.Given as goal

abbrev pub invariant-loop-a : goal.invariant-loop-a
invariant-loop-a l = (t : List ℕ) → Masked t l.k l.m l.masks → l.set ≡ kept t l.m l.k l.first l.a
