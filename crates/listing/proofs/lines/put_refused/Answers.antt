-- `listing::put_refused` meets its contract.
use native.Mathlib.Omega.{arith}
use Rattle.containment.specs.Listing.{refused_line}
use Rattle.containment.proofs.ListingLaws.{decimal_length}
use Rattle.listing.proofs.WrittenLaws.{written_then}
use Rattle.listing.proofs.lines.put_refused.Goals as goal

pub put-detail-requires : goal.put-detail-requires
put-detail-requires c = omega (arith, c.put-number.ensures.end, c.put_number-space.ensures.end, decimal_length c.number.result)

pub put_number-end-requires : goal.put_number-end-requires
put_number-end-requires c = omega (arith, c.put-number.ensures.end, c.put_number-space.ensures.end, c.put-detail.ensures.end, decimal_length c.number.result)

pub put-requires : goal.put-requires
put-requires c =
    omega (arith, c.put-number.ensures.end, c.put_number-space.ensures.end, c.put-detail.ensures.end, c.put_number-end.ensures.end, decimal_length c.number.result, decimal_length c.detail.result)

pub returns : goal.returns
unfolding refused_line
returns c =
    rw (← c.number.ensures, ← c.detail.ensures)
    (written_then c.put-number.ensures
    (written_then c.put_number-space.ensures
    (written_then c.put-detail.ensures
    (written_then c.put_number-end.ensures c.put.ensures))))
