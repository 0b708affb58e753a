-- `packed::write_sheet` meets its contract.
use lib.ListN.{length}
use Rattle.packed.specs.Calls.{sheet_written}
use Rattle.packed.proofs.CallLaws.{settles_small, settles_lent}
use Rattle.packed.proofs.write_sheet.Goals as goal

pub returns-then-work-lt-WORKSPACE : goal.returns-then-work-lt-WORKSPACE
returns-then-work-lt-WORKSPACE c =
    let args = c.args in
    let a = c.args in
    settles_small (sheet_written a.pattern.now a.fields.now (length a.out.now)) a.out.now a.work.now c.if-work-lt-WORKSPACE.true

pub returns : goal.returns
returns c =
    let args = c.args in
    let if1 = c.if-work-lt-WORKSPACE in
    let write-sheet = c.write_sheet-r in
    let clear = c.clear in
    let a = c.args in
    let k = c.write_sheet-r in
    settles_lent (sheet_written a.pattern.now a.fields.now (length a.out.now)) a.out.now a.work.now k.new.work if1.false
    k.ensures k.auto.work clear.ensures
