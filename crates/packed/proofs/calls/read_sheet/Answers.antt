-- `packed::calls::read_sheet` meets its contract.
use mathlib.Core.Path.{refl}
use borrow.Author.Tests.{lt-ltb, le-ltb}
use lib.ListN.{length}
use Rattle.packed.specs.Calls.{fit, read_sheet, judged, sheet_read}
use Rattle.packed.proofs.Passing.{err_is}
use Rattle.packed.proofs.CallLaws.{fit_fits, fitted_tight, fitted_again, body_refused, body_goes_on, none_lent}
use Rattle.packed.proofs.calls.read_sheet.Goals as goal

pub returns-in_err-f : goal.returns-in_err-f
unfolding sheet_read
returns-in_err-f c =
    let a = c.args in
    rw (err_is c.from_residual.result c.from_residual.ensures.1) (body_refused (λ ps. judged (read_sheet ps a.bytes.now) (fit (length a.out.now))) a.out.now refl c.in_err-f.field-0.0 c.in_err-f.ensures)

pub returns-in_err-n : goal.returns-in_err-n
unfolding sheet_read
returns-in_err-n c =
    let a = c.args in
    let j = c.accept_sheet in
    let q = c.in_ok-f.ensures in
    rw (err_is c.from_residual-in_err-n.result c.from_residual-in_err-n.ensures.1) (body_goes_on (λ ps. judged (read_sheet ps a.bytes.now) (fit (length a.out.now))) q.is
    (body_refused (fit (length a.out.now)) a.out.now (none_lent a.out.now j.new.words j.auto.words) c.in_err-n.field-0.0 (rw q.holds.edges at (rw c.in_err-n.was at j.ensures))))

pub returns-then-out-n : goal.returns-then-out-n
unfolding sheet_read
returns-then-out-n c =
    let a = c.args in
    let j = c.accept_sheet in
    let q = c.in_ok-f.ensures in
    let t = rw q.holds.edges at (rw c.in_ok-n.was at j.ensures) in
    body_goes_on (λ ps. judged (read_sheet ps a.bytes.now) (fit (length a.out.now))) q.is
    (body_goes_on (fit (length a.out.now)) t.is
    (fitted_tight fit_fits a.out.now t.fields (none_lent a.out.now j.new.words j.auto.words) refl t.number (lt-ltb _ _ c.if-out-n.true)))

pub returns : goal.returns
unfolding sheet_read
returns c =
    let if1 = c.if-out-n in
    let accept-sheet2 = c.accept_sheet-2 in
    let a = c.args in
    let j = c.accept_sheet in
    let q = c.in_ok-f.ensures in
    let t = rw q.holds.edges at (rw c.in_ok-n.was at j.ensures) in
    body_goes_on (λ ps. judged (read_sheet ps a.bytes.now) (fit (length a.out.now))) q.is
    (body_goes_on (fit (length a.out.now)) t.is
    (fitted_again fit_fits a.out.now t.fields (none_lent a.out.now j.new.words j.auto.words) refl t.number accept-sheet2.result _ (le-ltb _ _ if1.false) t.is (rw q.holds.edges at accept-sheet2.ensures)))
