-- `packed::calls::write_book` meets its contract.
use mathlib.Core.Path.{refl}
use lib.ListN.{length}
use Rattle.packed.specs.Calls.{fit_file, write_book, within_pairs, judged, book_written}
use Rattle.packed.proofs.Passing.{err_is}
use Rattle.packed.proofs.CallLaws.{body_refused, body_goes_on}
use Rattle.packed.proofs.calls.write_book.Goals as goal

pub returns-in_err-views : goal.returns-in_err-views
unfolding book_written
returns-in_err-views c =
    let a = c.args in
    rw (err_is c.from_residual.result c.from_residual.ensures.1) (body_refused (λ cs. judged (write_book cs a.fields.now) (λ s. within_pairs cs a.fields.now (fit_file (length a.out.now) s))) a.out.now refl c.in_err-views.field-0.0 c.in_err-views.ensures)

pub returns : goal.returns
unfolding book_written
returns c =
    let write-book-of = c.write_book_of in
    let a = c.args in
    let q = c.in_ok-views.ensures in
    body_goes_on (λ cs. judged (write_book cs a.fields.now) (λ s. within_pairs cs a.fields.now (fit_file (length a.out.now) s))) q.is (rw q.holds.are at write-book-of.ensures)
