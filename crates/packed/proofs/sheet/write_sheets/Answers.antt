-- `packed::sheet::write_sheets` meets its contract.
use borrow.Author.Rules.{rules}
use mathlib.Core.Path.{refl}
use native.Mathlib.Omega.{arith}
use Rattle.packed.proofs.Passing.{err_is}
use Rattle.packed.proofs.WritingLaws.{same_to, left_to}
use Rattle.packed.proofs.Lent.{lent_from, lent_rejected}
use Rattle.packed.proofs.Sheets.{book_end, sheet_accepted, sheet_rejected}
use Rattle.packed.proofs.sheet.write_sheets.Goals as goal

pub returns-in_err-next : goal.returns-in_err-next
returns-in_err-next c =
    let l = c.loop-m in
    rw (err_is c.from_residual.result c.from_residual.ensures.1) (sheet_rejected c.args.counts.now l.m-index (omega arith) l.invariant.2
    (lent_rejected l.byte c.in_err-next.ensures))

pub loop-m-preserved : goal.loop-m-preserved
loop-m-preserved c =
    let l = c.loop-m in
    let q = c.in_ok-next.ensures in
    let r = lent_from l.out l.byte c.within-from.result c.within-from.ensures q.0 in (
      omega (arith, q.1, l.invariant.0),
      search rules,
      same_to refl (omega arith) (sheet_accepted c.args.counts.now l.m-index (omega arith) l.invariant.2 r),
    )

pub returns : goal.returns
returns c =
    let l = c.loop-m in
    (left_to (book_end c.args.counts.now l.m-index (omega arith)) l.invariant.2, omega (arith, l.invariant.0, c.requires.0))
