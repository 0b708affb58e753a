-- `packed::write_book` meets its contract.
use lib.ListN.{length}
use Rattle.packed.specs.Calls.{book_written}
use Rattle.packed.proofs.CallLaws.{settles_small, settles_lent}
use Rattle.packed.proofs.write_book.Goals as goal

pub returns-then-work-lt-WORKSPACE : goal.returns-then-work-lt-WORKSPACE
returns-then-work-lt-WORKSPACE c =
    let args = c.args in
    let a = c.args in
    settles_small (book_written a.catalogue.now a.fields.now (length a.out.now)) a.out.now a.work.now c.if-work-lt-WORKSPACE.true

pub returns : goal.returns
returns c =
    let args = c.args in
    let if1 = c.if-work-lt-WORKSPACE in
    let write-book = c.write_book-r in
    let clear = c.clear in
    let a = c.args in
    let k = c.write_book-r in
    settles_lent (book_written a.catalogue.now a.fields.now (length a.out.now)) a.out.now a.work.now k.new.work if1.false
    k.ensures k.auto.work clear.ensures
