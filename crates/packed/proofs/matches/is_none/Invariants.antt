-- `packed::matches::is_none` meets its contract. The invariant: the first e counts were looked at.
use Prim.Native.Nat.{◌≤◌}
use mathlib.Core.Path.{◌≡◌}
use Rattle.packed.specs.Matches.{any_zero}
use Rattle.packed.proofs.matches.is_none.Given as goal

abbrev pub invariant-loop-e : goal.invariant-loop-e
invariant-loop-e l = (l.e ≤ l.m) × (l.none ≡ any_zero l.e l.c)
