-- `listing::put_views` meets its contract.
use Prim.Native.Nat.{◌≤◌}
use Rattle.containment.specs.Listing.{concat}
use Rattle.listing.specs.Written.{TextWritten}
use Rattle.containment.proofs.ListingLaws.{matches_line}
use Rattle.listing.proofs.lines.put_views.Given as goal

abbrev pub invariant-loop-a : goal.invariant-loop-a
invariant-loop-a l = (l.a ≤ 16) × (TextWritten (concat (matches_line l.mapping l.e) l.a) l.initial.out l.at l.out l.end)
