-- `listing::put_chosen` meets its contract.
use native.Mathlib.Omega.{arith}
use Rattle.containment.specs.Listing.{view_text, chosen_text}
use Rattle.containment.proofs.ListingLaws.{chosen_so_far}
use Rattle.listing.proofs.WrittenLaws.{concat_none, concat_more, concat_end}
use Rattle.listing.proofs.lines.put_chosen.Goals as goal

pub loop-a-init : goal.loop-a-init
loop-a-init c = (omega arith, concat_none (view_text c.args.set) c.args.out.now c.args.at)

pub put_view-end-requires : goal.put_view-end-requires
put_view-end-requires c = omega (arith, c.loop-a.invariant.1.end, chosen_so_far c.args.set c.loop-a.a (omega arith))

pub loop-a-preserved : goal.loop-a-preserved
loop-a-preserved c = (omega arith, concat_more (view_text c.args.set) c.loop-a.a c.loop-a.invariant.1 c.put_view-end.ensures)

pub returns : goal.returns
unfolding chosen_text
returns c = concat_end (view_text c.args.set) c.loop-a.a 16 c.loop-a.invariant.1 (omega arith)
