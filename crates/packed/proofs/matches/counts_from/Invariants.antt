-- `packed::matches::counts_from` meets its contract. The invariant: the first e of the counts were copied.
use Prim.Native.Nat.{◌≤◌}
use Rattle.packed.specs.Matches.{PartOfCounts}
use Rattle.packed.proofs.matches.counts_from.Given as goal

abbrev pub invariant-loop-e : goal.invariant-loop-e
invariant-loop-e l = (l.e ≤ l.m) × PartOfCounts l.o l.e l.c l.d
