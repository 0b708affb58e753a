-- `listing::put_line` meets its contract.
use native.Mathlib.Omega.{arith}
use Rattle.containment.proofs.ListingLaws.{line_first, line_beyond, line_last, line_link}
use Rattle.listing.proofs.WrittenLaws.{written_none, is_line}
use Rattle.listing.proofs.lines.put_line.Goals as goal

pub returns-then-k-eq0 : goal.returns-then-k-eq0
returns-then-k-eq0 c = is_line _ (line_first c.args.q c.args.k c.if-k-eq0.true) c.put_first.ensures

pub returns-then-last-k : goal.returns-then-last-k
returns-then-last-k c = is_line _ (line_beyond c.args.q c.args.k c.if-k-eq0.false (omega (arith, c.lines_after-last.ensures.0))) (written_none _ 0)

pub returns-then-k-last : goal.returns-then-k-last
returns-then-k-last c = is_line _ (line_last c.args.q c.args.k c.if-k-eq0.false (omega (arith, c.lines_after-last.ensures.0))) c.put_extracts.ensures

pub returns : goal.returns
returns c = is_line _ (line_link c.args.q c.args.k c.if-k-eq0.false (omega (arith, c.lines_after-last.ensures.0))) c.put_link.ensures
