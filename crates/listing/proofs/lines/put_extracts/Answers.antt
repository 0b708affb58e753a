-- `listing::put_extracts` meets its contract.
use native.Mathlib.Omega.{arith}
use borrow.Author.Tests.{eq-eqb, ne_eqb}
use Rattle.containment.specs.Listing.{chosen_line}
use Rattle.containment.proofs.ListingLaws.{chosen_length}
use Rattle.listing.proofs.WrittenLaws.{written_then}
use Rattle.listing.proofs.lines.put_extracts.Goals as goal

pub returns-then-set-eq0 : goal.returns-then-set-eq0
unfolding chosen_line
returns-then-set-eq0 c = rw (eq-eqb _ _ c.if-set-eq0.true) c.put.ensures

pub put-requires-2 : goal.put-requires-2
put-requires-2 c = omega (arith, c.put-start.ensures.end, c.put_chosen-end.ensures.end, chosen_length c.args.set)

pub returns : goal.returns
unfolding chosen_line
returns c =
    rw (ne_eqb _ _ c.if-set-eq0.false)
    (written_then c.put-start.ensures (written_then c.put_chosen-end.ensures c.put-2.ensures))
