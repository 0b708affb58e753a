-- `listing::put` meets its contract.
use Prim.Native.Nat.{◌+◌, ◌≤◌}
use lib.ListN.{length, take}
use Rattle.listing.specs.Written.{TextWritten}
use Rattle.listing.proofs.lines.put.Given as goal

abbrev pub invariant-loop-i : goal.invariant-loop-i
invariant-loop-i l = (l.i ≤ length l.text) × (TextWritten (take l.i l.text) l.initial.out l.at l.out (l.at + l.i))
