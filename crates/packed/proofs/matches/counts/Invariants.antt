-- `packed::matches::counts` meets its contract. The invariant: the first i masks were counted.
use Prim.Native.Nat.{◌≤◌}
use Rattle.packed.specs.Matches.{Counts}
use Rattle.packed.proofs.matches.counts.Given as goal

abbrev pub invariant-loop-i : goal.invariant-loop-i
invariant-loop-i l = (l.i ≤ l.n) × Counts l.i l.work l.c
