-- `listing::line` meets its contract.
use Rattle.packed.proofs.CallLaws.{none_lent}
use Rattle.containment.specs.Listing.{line_outcome}
use Rattle.listing.proofs.WrittenLaws.{line_tight, line_given}
use Rattle.listing.proofs.lines.line.Goals as goal

pub returns-then-out-n : goal.returns-then-out-n
unfolding line_outcome
returns-then-out-n c =
    let s = none_lent c.args.out.now c.put_line-n.new.out c.put_line-n.auto.out in
    rw s (line_tight c.args.out.now _ c.put_line-n.ensures.end (rw s at c.if-out-n.true))

pub returns : goal.returns
unfolding line_outcome
returns c =
    let s = none_lent c.args.out.now c.put_line-n.new.out c.put_line-n.auto.out in
    line_given c.args.out.now _ c.put_line-n.ensures.end (rw s at c.if-out-n.false) (rw s at c.put_line.ensures.is)
