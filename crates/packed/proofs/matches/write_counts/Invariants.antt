-- `packed::matches::write_counts` meets its contract. The invariant: the first e counts were written.
use Prim.Native.Nat.{◌≤◌}
use mathlib.Core.Path.{◌≡◌}
use lib.ListN.{length}
use Rattle.packed.specs.Matches.{CountsWritten}
use Rattle.packed.proofs.matches.write_counts.Given as goal

abbrev pub invariant-loop-e : goal.invariant-loop-e
invariant-loop-e l = (l.e ≤ l.m) × (length l.out ≡ length l.initial.out) × CountsWritten l.e l.c l.initial.out l.places l.at l.out
