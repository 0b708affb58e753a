-- `packed::catalogue::edge_counts` meets its contract.
use Prim.Native.Nat.{◌+◌, ◌*◌, ◌≤◌}
use Rattle.packed.proofs.EdgeCounts.{Counting}
use Rattle.packed.proofs.catalogue.edge_counts.Given as goal

abbrev pub invariant-loop-j : goal.invariant-loop-j
invariant-loop-j l = (l.j ≤ 16) × (l.j ≤ l.number) × (l.i ≤ 1 + 17179869184 * l.j) × Counting l.words l.number l.counts l.i l.j
