-- `listing::put_chosen` meets its contract.
use Prim.Native.Nat.{◌≤◌}
use Rattle.containment.specs.Listing.{concat, view_text}
use Rattle.listing.specs.Written.{TextWritten}
use Rattle.listing.proofs.lines.put_chosen.Given as goal

abbrev pub invariant-loop-a : goal.invariant-loop-a
invariant-loop-a l = (l.a ≤ 16) × (TextWritten (concat (view_text l.set) l.a) l.initial.out l.at l.out l.end)
