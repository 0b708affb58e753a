-- `packed::sheet::read_sheets` meets its contract.
use native.Mathlib.Omega.{arith}
use Rattle.packed.proofs.Passing.{err_is}
use Rattle.packed.proofs.ReadingLaws.{left_is}
use Rattle.packed.proofs.Sheets.{book_end, sheet_passes, sheet_refused}
use Rattle.packed.proofs.sheet.read_sheets.Goals as goal

pub returns-in_err-next : goal.returns-in_err-next
returns-in_err-next c =
    let l = c.loop-m in
    rw (err_is c.from_residual.result c.from_residual.ensures.1) (sheet_refused c.args.counts.now l.m-index (omega arith) l.invariant.1 c.in_err-next.ensures)

pub loop-m-preserved : goal.loop-m-preserved
loop-m-preserved c =
    let l = c.loop-m in
    (omega (arith, l.invariant.0, c.read_sheet.auto), sheet_passes c.args.counts.now l.m-index (omega arith) l.invariant.1 c.in_ok-next.ensures)

pub returns : goal.returns
returns c =
    let l = c.loop-m in
    left_is (book_end c.args.counts.now l.m-index (omega arith)) l.invariant.1
