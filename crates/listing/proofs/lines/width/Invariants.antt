-- `listing::width` meets its contract.
use Rattle.listing.proofs.WrittenLaws.{DigitsCounted}
use Rattle.listing.proofs.lines.width.Given as goal

abbrev pub invariant-loop-m : goal.invariant-loop-m
invariant-loop-m l = DigitsCounted l.n l.m l.w

abbrev pub decreases-loop-m : goal.decreases-loop-m
decreases-loop-m l = l.m
