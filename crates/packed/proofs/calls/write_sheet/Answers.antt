-- `packed::calls::write_sheet` meets its contract.
use mathlib.Core.Path.{refl}
use lib.ListN.{length}
use Rattle.packed.specs.Calls.{fit_file, write_sheet, judged, sheet_written}
use Rattle.packed.proofs.Passing.{err_is}
use Rattle.packed.proofs.CallLaws.{body_refused, body_goes_on}
use Rattle.packed.proofs.AcceptLaws.{pattern_few}
use Rattle.packed.proofs.calls.write_sheet.Goals as goal

pub returns-in_err-f : goal.returns-in_err-f
unfolding sheet_written
returns-in_err-f c =
    let a = c.args in
    rw (err_is c.from_residual.result c.from_residual.ensures.1) (body_refused (λ ps. judged (write_sheet ps a.fields.now) (fit_file (length a.out.now))) a.out.now refl c.in_err-f.field-0.0 c.in_err-f.ensures)

pub write_sheet_of-requires : goal.write_sheet_of-requires
write_sheet_of-requires c =
    let args = c.args in
    let q = c.in_ok-f.ensures in
    pattern_few args.pattern.now q

pub returns : goal.returns
unfolding sheet_written
returns c =
    let write-sheet-of = c.write_sheet_of in
    let a = c.args in
    let q = c.in_ok-f.ensures in
    body_goes_on (λ ps. judged (write_sheet ps a.fields.now) (fit_file (length a.out.now))) q.is (rw q.holds.edges at write-sheet-of.ensures)
