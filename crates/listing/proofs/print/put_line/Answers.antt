-- `listing::print::put_line` meets its contract.
use native.Mathlib.Omega.{arith}
use Rattle.listing.proofs.WrittenLaws.{line_whole, line_never_refused}
use Rattle.listing.proofs.print.put_line.Goals as goal

pub returns-in_default : goal.returns-in_default
returns-in_default c =
    let a = c.args in
    absurd (line_never_refused a.q a.k a.buf.now (omega arith) c.in_default.field-0 (rw c.in_default.is at c.line.ensures))

pub returns : goal.returns
returns c =
    let a = c.args in
    line_whole a.q a.k a.buf.now (omega arith) (rw c.in-Ok.is at c.line.ensures)
