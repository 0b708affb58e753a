-- `listing::put_number` meets its contract.
use native.Mathlib.Omega.{arith}
use Rattle.containment.proofs.ListingLaws.{decimal_length}
use Rattle.listing.proofs.WrittenLaws.{number_within, number_more, number_end}
use Rattle.listing.proofs.lines.put_number.Goals as goal

pub overflow_add-end : goal.overflow_add-end
overflow_add-end c = omega (arith, c.width.ensures, decimal_length c.args.n)

pub overflow_sub-i : goal.overflow_sub-i
overflow_sub-i c = number_within c.loop-m.invariant.0 (omega arith)

pub loop-m-preserved : goal.loop-m-preserved
loop-m-preserved c = (rw (c.store.ensures, c.last_digit.ensures) (number_more c.loop-m.invariant.0 (omega arith)), c.loop-m.invariant.1)

pub returns : goal.returns
returns c = rw (c.store-2.ensures, c.last_digit-2.ensures) (number_end c.loop-m.invariant.0 (omega arith) c.loop-m.invariant.1)
