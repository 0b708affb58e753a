-- `packed::accept::accept_record` meets its contract.
use mathlib.Core.List.{[]}
use Rattle.packed.specs.Formats.{record'}
use Rattle.packed.proofs.CallLaws.{read_finds, read_long, accepts_by}
use Rattle.packed.proofs.accept.accept_record.Goals as goal

pub returns-then-s-gt-RECORD_MOST : goal.returns-then-s-gt-RECORD_MOST
returns-then-s-gt-RECORD_MOST c = (read_long 44036 3 record' c.args.s.now c.if-s-gt-RECORD_MOST.true, tt)

pub returns : goal.returns
returns c = (rw c.reply_of.ensures (accepts_by (read_finds 44036 3 record' c.args.s.now c.if-s-gt-RECORD_MOST.false) c.judge_record.result [] [] c.judge_record.ensures.0), rw c.reply_of.ensures c.judge_record.ensures.1)
