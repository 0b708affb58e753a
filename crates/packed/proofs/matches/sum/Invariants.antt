-- `packed::matches::sum` meets its contract. The invariant: the first e counts were added.
use Prim.Native.Nat.{◌≤◌, ◌*◌}
use mathlib.Core.Path.{◌≡◌}
use Rattle.packed.specs.Matches.{sum_of}
use Rattle.packed.proofs.matches.sum.Given as goal

abbrev pub invariant-loop-e : goal.invariant-loop-e
invariant-loop-e l = (l.e ≤ l.m) × (l.s ≡ sum_of l.e l.c) × (l.s ≤ 8192 * l.e)
