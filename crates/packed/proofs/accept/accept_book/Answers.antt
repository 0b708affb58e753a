-- `packed::accept::accept_book` meets its contract.
use lib.ListN.{take}
use Rattle.packed.specs.Formats.{book}
use Rattle.packed.proofs.Counted.{all_left}
use Rattle.packed.proofs.CallLaws.{read_finds, read_long, accepts_by}
use Rattle.packed.proofs.accept.accept_book.Goals as goal

pub returns-then-s-gt-BOOK_MOST : goal.returns-then-s-gt-BOOK_MOST
returns-then-s-gt-BOOK_MOST c =
    let args = c.args in
    let a = c.args in read_long 65536 4 (book (take a.k a.edges)) a.s.now c.if-s-gt-BOOK_MOST.true

pub returns : goal.returns
returns c =
    let args = c.args in
    let if1 = c.if-s-gt-BOOK_MOST in
    let judge-book = c.judge_book in
    let a = c.args in
    rw c.reply_of.ensures (accepts_by (read_finds 65536 4 (book (take a.k a.edges)) a.s.now if1.false) judge-book.result _ _ (rw (all_left c.args.k) at judge-book.ensures))
