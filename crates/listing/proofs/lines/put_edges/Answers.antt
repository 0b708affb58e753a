-- `listing::put_edges` meets its contract.
use native.Mathlib.Omega.{arith}
use Rattle.containment.specs.Listing.{edge_text, edges_text}
use Rattle.containment.proofs.ListingLaws.{edges_so_far}
use Rattle.listing.proofs.WrittenLaws.{concat_none, concat_more, concat_end}
use Rattle.listing.proofs.lines.put_edges.Goals as goal

pub loop-b-init : goal.loop-b-init
loop-b-init c = (omega arith, concat_none (edge_text c.args.a c.args.mask) c.args.out.now c.args.at)

pub put_edge-end-requires : goal.put_edge-end-requires
put_edge-end-requires c = omega (arith, c.loop-b.invariant.1.end, edges_so_far c.args.a c.args.mask c.loop-b.b (omega arith) (omega arith))

pub loop-b-preserved : goal.loop-b-preserved
loop-b-preserved c = (omega arith, concat_more (edge_text c.args.a c.args.mask) c.loop-b.b c.loop-b.invariant.1 c.put_edge-end.ensures)

pub returns : goal.returns
unfolding edges_text
returns c = concat_end (edge_text c.args.a c.args.mask) c.loop-b.b 32 c.loop-b.invariant.1 (omega arith)
