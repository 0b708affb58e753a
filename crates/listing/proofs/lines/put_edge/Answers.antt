-- `listing::put_edge` meets its contract.
use native.Mathlib.Omega.{arith}
use Rattle.containment.specs.Listing.{edge_text}
use Rattle.containment.proofs.ListingLaws.{decimal_length}
use Rattle.listing.proofs.WrittenLaws.{written_then, written_none}
use Rattle.listing.proofs.lines.put_edge.Goals as goal

pub returns-then-not-has : goal.returns-then-not-has
unfolding edge_text
returns-then-not-has c = rw (← c.has.ensures, c.if-not-has.true) (written_none _ _)

pub put-edge-requires : goal.put-edge-requires
put-edge-requires c = omega (arith, c.put-view.ensures.end, c.put_number-dot.ensures.end, decimal_length c.args.a)

pub put_number-requires : goal.put_number-requires
put_number-requires c = omega (arith, c.put-view.ensures.end, c.put_number-dot.ensures.end, c.put-edge.ensures.end, decimal_length c.args.a)

pub returns : goal.returns
unfolding edge_text
returns c =
    rw (← c.has.ensures, c.if-not-has.false)
    (written_then c.put-view.ensures
    (written_then c.put_number-dot.ensures
    (written_then c.put-edge.ensures c.put_number.ensures)))
