-- `listing::put_number` meets its contract.
use Prim.Native.Nat.{◌+◌}
use mathlib.Core.Path.{◌≡◌}
use lib.ListN.{length}
use Rattle.containment.specs.Listing.{decimal}
use Rattle.listing.proofs.WrittenLaws.{NumberWritten}
use Rattle.listing.proofs.lines.put_number.Given as goal

abbrev pub invariant-loop-m : goal.invariant-loop-m
invariant-loop-m l = (NumberWritten l.n l.m l.initial.out l.at l.out l.i) × (l.end ≡ l.at + length (decimal l.n))

abbrev pub decreases-loop-m : goal.decreases-loop-m
decreases-loop-m l = l.m
