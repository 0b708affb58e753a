-- `packed::write_record` meets its contract.
use lib.ListN.{length}
use Rattle.packed.specs.Calls.{record_written}
use Rattle.packed.proofs.CallLaws.{settles_small, settles}
use Rattle.packed.proofs.write_record.Goals as goal

pub returns-then-work-lt-WORKSPACE : goal.returns-then-work-lt-WORKSPACE
returns-then-work-lt-WORKSPACE c =
    let args = c.args in
    let a = c.args in
    settles_small (record_written a.fields.now (length a.out.now)) a.out.now a.work.now c.if-work-lt-WORKSPACE.true

pub returns : goal.returns
returns c =
    let args = c.args in
    let if1 = c.if-work-lt-WORKSPACE in
    let write-record = c.write_record-r in
    let clear = c.clear in
    let a = c.args in
    settles (record_written a.fields.now (length a.out.now)) a.out.now a.work.now if1.false write-record.ensures clear.ensures
