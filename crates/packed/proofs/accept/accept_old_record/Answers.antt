-- `packed::accept::accept_old_record` meets its contract.
use Rattle.packed.specs.OldRecord.{old_record}
use Rattle.packed.proofs.CallLaws.{read_finds, read_long, accepts_by}
use Rattle.packed.proofs.accept.accept_old_record.Goals as goal

pub returns-then-s-gt-OLD_RECORD_MOST : goal.returns-then-s-gt-OLD_RECORD_MOST
returns-then-s-gt-OLD_RECORD_MOST c =
    let args = c.args in
    let a = c.args in (read_long 40964 3 old_record a.s.now c.if-s-gt-OLD_RECORD_MOST.true, tt)

pub returns : goal.returns
returns c =
    let args = c.args in
    let if1 = c.if-s-gt-OLD_RECORD_MOST in
    let judge-old-record = c.judge_old_record in
    let a = c.args in
    (rw c.reply_of.ensures (accepts_by (read_finds 40964 3 old_record a.s.now if1.false) judge-old-record.result _ _ judge-old-record.ensures.0), rw c.reply_of.ensures judge-old-record.ensures.1)
