-- `packed::write_catalogue` meets its contract.
use lib.ListN.{length}
use Rattle.packed.specs.Calls.{catalogue_written}
use Rattle.packed.proofs.CallLaws.{settles_small, settles}
use Rattle.packed.proofs.write_catalogue.Goals as goal

pub returns-then-work-lt-WORKSPACE : goal.returns-then-work-lt-WORKSPACE
returns-then-work-lt-WORKSPACE c =
    let args = c.args in
    let a = c.args in
    settles_small (catalogue_written a.fields.now (length a.out.now)) a.out.now a.work.now c.if-work-lt-WORKSPACE.true

pub returns : goal.returns
returns c =
    let args = c.args in
    let if1 = c.if-work-lt-WORKSPACE in
    let write-catalogue = c.write_catalogue-r in
    let clear = c.clear in
    let a = c.args in
    settles (catalogue_written a.fields.now (length a.out.now)) a.out.now a.work.now if1.false write-catalogue.ensures clear.ensures
