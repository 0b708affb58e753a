-- `listing::put_link` meets its contract.
use native.Mathlib.Omega.{arith}
use Rattle.containment.specs.Listing.{views_text, link_line}
use Rattle.containment.proofs.ListingLaws.{decimal_length, views_length}
use Rattle.listing.proofs.WrittenLaws.{written_then, or_none_lem}
use Rattle.listing.proofs.lines.put_link.Goals as goal

pub put-start-requires : goal.put-start-requires
put-start-requires c = omega (arith, c.put-number.ensures.end, c.put_number-by.ensures.end, decimal_length c.args.e)

pub put_views-end-requires : goal.put_views-end-requires
put_views-end-requires c = omega (arith, c.put-number.ensures.end, c.put_number-by.ensures.end, c.put-start.ensures.end, decimal_length c.args.e)

pub put_end-requires : goal.put_end-requires
put_end-requires c =
    omega (arith, c.put-number.ensures.end, c.put_number-by.ensures.end, c.put-start.ensures.end, c.put_views-end.ensures.end, decimal_length c.args.e, views_length c.args.q.mapping c.args.e)

pub returns : goal.returns
unfolding link_line
returns c =
    rw (or_none_lem (views_text c.args.q.mapping c.args.e) c.put-start.result c.put_views-end.result c.put_views-end.ensures.end)
    (written_then c.put-number.ensures
    (written_then c.put_number-by.ensures
    (written_then c.put-start.ensures
    (written_then c.put_views-end.ensures c.put_end.ensures))))
