-- `listing::put_edges` meets its contract.
use Prim.Native.Nat.{◌≤◌}
use Rattle.containment.specs.Listing.{concat, edge_text}
use Rattle.listing.specs.Written.{TextWritten}
use Rattle.listing.proofs.lines.put_edges.Given as goal

abbrev pub invariant-loop-b : goal.invariant-loop-b
invariant-loop-b l = (l.b ≤ 32) × (TextWritten (concat (edge_text l.a l.mask) l.b) l.initial.out l.at l.out l.end)
