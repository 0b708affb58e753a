-- `packed::calls::read_book` meets its contract.
use mathlib.Core.Path.{refl, ◌∙◌}
use borrow.Author.Tests.{lt-ltb, le-ltb}
use lib.ListN.{length}
use Rattle.packed.specs.Formats.{book}
use Rattle.packed.specs.Contents.{edge_counts}
use Rattle.packed.specs.Calls.{fit, read_book, within_pairs, judged, book_read}
use Rattle.packed.specs.declared.reply.File.TheVariants.{Sheet}
use Rattle.packed.specs.declared.reply.Refusal.TheVariants.{TooManyPairs}
use Rattle.packed.proofs.Passing.{err_is}
use Rattle.packed.proofs.WalkLaws.{book_pairs_lem}
use Rattle.packed.proofs.CallLaws.{read_says, fit_fits, fitted_tight, fitted_again, body_refused, body_declined, body_goes_on, gathered_many, gathered_few, none_lent}
use Rattle.packed.proofs.calls.read_book.Goals as goal

pub returns-in_err-views : goal.returns-in_err-views
unfolding book_read
returns-in_err-views c =
    let a = c.args in
    rw (err_is c.from_residual.result c.from_residual.ensures.1) (body_refused (λ cs. judged (read_book cs a.bytes.now) (λ o. within_pairs cs o (fit (length a.out.now) o))) a.out.now refl c.in_err-views.field-0.0 c.in_err-views.ensures)

pub returns-in_err-n : goal.returns-in_err-n
unfolding book_read
returns-in_err-n c =
    let a = c.args in
    let j = c.accept_book in
    let q = c.in_ok-views.ensures in
    rw (err_is c.from_residual-in_err-n.result c.from_residual-in_err-n.ensures.1) (body_goes_on (λ cs. judged (read_book cs a.bytes.now) (λ o. within_pairs cs o (fit (length a.out.now) o))) q.is
    (body_refused (λ o. within_pairs q.fields o (fit (length a.out.now) o)) a.out.now (none_lent a.out.now j.new.words j.auto.words) c.in_err-n.field-0.0 (rw q.holds.are at (rw c.in_err-n.was at j.ensures))))

pub gather_book-requires : goal.gather_book-requires
gather_book-requires c =
    let pre = c.requires in
    let accept-catalogue = c.accept_catalogue in
    let a = c.args in
    let j = c.accept_book in
    let q = c.in_ok-views.ensures in
    let t = rw q.holds.are at (rw c.in_ok-n.was at j.ensures) in
    let ms = edge_counts q.fields in
    let d = read_says 65536 4 (book ms) a.bytes.now t.fields t.is in
    (d.1, q.holds.few, q.holds.small, accept-catalogue.auto.work ∙ pre)

pub returns-then-gather_book-gt-PAIRS_MOST : goal.returns-then-gather_book-gt-PAIRS_MOST
unfolding book_read
returns-then-gather_book-gt-PAIRS_MOST c =
    let gather-book = c.gather_book in
    let a = c.args in
    let j = c.accept_book in
    let q = c.in_ok-views.ensures in
    let t = rw q.holds.are at (rw c.in_ok-n.was at j.ensures) in
    let ms = edge_counts q.fields in
    let d = read_says 65536 4 (book ms) a.bytes.now t.fields t.is in
    body_goes_on (λ cs. judged (read_book cs a.bytes.now) (λ o. within_pairs cs o (fit (length a.out.now) o))) q.is
    (body_declined (λ o. within_pairs q.fields o (fit (length a.out.now) o)) t.is a.out.now (none_lent a.out.now j.new.words j.auto.words) (TooManyPairs Sheet)
    (gathered_many ms t.fields (rw q.holds.are at gather-book.ensures) (book_pairs_lem ms a.bytes.now t.fields d.0) (fit (length a.out.now) t.fields) c.if-gather_book-gt-PAIRS_MOST.true))

pub returns-then-out-n : goal.returns-then-out-n
unfolding book_read
returns-then-out-n c =
    let gather-book = c.gather_book in
    let if1 = c.if-gather_book-gt-PAIRS_MOST in
    let a = c.args in
    let j = c.accept_book in
    let q = c.in_ok-views.ensures in
    let t = rw q.holds.are at (rw c.in_ok-n.was at j.ensures) in
    let ms = edge_counts q.fields in
    let d = read_says 65536 4 (book ms) a.bytes.now t.fields t.is in
    body_goes_on (λ cs. judged (read_book cs a.bytes.now) (λ o. within_pairs cs o (fit (length a.out.now) o))) q.is
    (body_goes_on (λ o. within_pairs q.fields o (fit (length a.out.now) o)) t.is
    (fitted_tight fit_fits a.out.now t.fields (none_lent a.out.now j.new.words j.auto.words)
    (gathered_few ms t.fields (rw q.holds.are at gather-book.ensures) (book_pairs_lem ms a.bytes.now t.fields d.0) (fit (length a.out.now) t.fields) if1.false) t.number (lt-ltb _ _ c.if-out-n.true)))

pub returns : goal.returns
unfolding book_read
returns c =
    let gather-book = c.gather_book in
    let if1 = c.if-gather_book-gt-PAIRS_MOST in
    let if2 = c.if-out-n in
    let accept-book2 = c.accept_book-2 in
    let a = c.args in
    let j = c.accept_book in
    let q = c.in_ok-views.ensures in
    let t = rw q.holds.are at (rw c.in_ok-n.was at j.ensures) in
    let ms = edge_counts q.fields in
    let d = read_says 65536 4 (book ms) a.bytes.now t.fields t.is in
    body_goes_on (λ cs. judged (read_book cs a.bytes.now) (λ o. within_pairs cs o (fit (length a.out.now) o))) q.is
    (body_goes_on (λ o. within_pairs q.fields o (fit (length a.out.now) o)) t.is
    (fitted_again fit_fits a.out.now t.fields (none_lent a.out.now j.new.words j.auto.words)
    (gathered_few ms t.fields (rw q.holds.are at gather-book.ensures) (book_pairs_lem ms a.bytes.now t.fields d.0) (fit (length a.out.now) t.fields) if1.false) t.number accept-book2.result _ (le-ltb _ _ if2.false) t.is (rw q.holds.are at accept-book2.ensures)))
