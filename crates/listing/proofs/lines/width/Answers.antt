-- `listing::width` meets its contract.
use native.Mathlib.Omega.{arith}
use Rattle.containment.proofs.ListingLaws.{decimal_length}
use Rattle.listing.proofs.WrittenLaws.{count_more, count_end}
use Rattle.listing.proofs.lines.width.Goals as goal

pub overflow_add-w : goal.overflow_add-w
overflow_add-w c = omega (arith, c.loop-m.invariant.count, decimal_length c.args.n)

pub loop-m-preserved : goal.loop-m-preserved
loop-m-preserved c = count_more c.loop-m.invariant (omega arith)

pub returns : goal.returns
returns c = count_end c.loop-m.invariant (omega arith)
