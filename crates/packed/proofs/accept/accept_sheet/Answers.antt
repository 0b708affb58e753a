-- `packed::accept::accept_sheet` meets its contract.
use Rattle.packed.specs.Formats.{sheet}
use Rattle.packed.proofs.CallLaws.{read_finds, read_long, accepts_by}
use Rattle.packed.proofs.accept.accept_sheet.Goals as goal

pub returns-then-s-gt-BOOK_MOST : goal.returns-then-s-gt-BOOK_MOST
returns-then-s-gt-BOOK_MOST c =
    let args = c.args in
    let a = c.args in read_long 65536 4 (sheet a.m) a.s.now c.if-s-gt-BOOK_MOST.true

pub returns : goal.returns
returns c =
    let args = c.args in
    let if1 = c.if-s-gt-BOOK_MOST in
    let judge-sheet = c.judge_sheet in
    let a = c.args in
    rw c.reply_of.ensures (accepts_by (read_finds 65536 4 (sheet a.m) a.s.now if1.false) judge-sheet.result _ _ judge-sheet.ensures)
