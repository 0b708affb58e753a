-- `listing::put` meets its contract.
use native.Mathlib.Omega.{arith}
use Rattle.listing.proofs.WrittenLaws.{text_more}
use Rattle.listing.proofs.lines.put.Goals as goal

pub loop-i-preserved : goal.loop-i-preserved
loop-i-preserved c = (omega arith, rw c.store.ensures (text_more c.args.text.now c.loop-i.i c.loop-i.invariant.1 (omega arith)))
