-- `listing::put_views` meets its contract.
use native.Mathlib.Omega.{arith}
use Rattle.containment.specs.Listing.{views_text}
use Rattle.containment.proofs.ListingLaws.{matches_line, views_so_far}
use Rattle.listing.proofs.WrittenLaws.{concat_none, concat_more, concat_end}
use Rattle.listing.proofs.lines.put_views.Goals as goal

pub loop-a-init : goal.loop-a-init
loop-a-init c = (omega arith, concat_none (matches_line c.args.mapping.now c.args.e) c.args.out.now c.args.at)

pub put_edges-end-requires : goal.put_edges-end-requires
put_edges-end-requires c = omega (arith, c.loop-a.invariant.1.end, views_so_far c.args.mapping.now c.args.e c.loop-a.a (omega arith))

pub loop-a-preserved : goal.loop-a-preserved
loop-a-preserved c = (omega arith, concat_more (matches_line c.args.mapping.now c.args.e) c.loop-a.a c.loop-a.invariant.1 (rw c.mask_at.ensures at c.put_edges-end.ensures))

pub returns : goal.returns
unfolding views_text
returns c = concat_end (matches_line c.args.mapping.now c.args.e) c.loop-a.a 16 c.loop-a.invariant.1 (omega arith)
