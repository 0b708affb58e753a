-- `packed::record::judge_record` meets its contract.
use Rattle.packed.proofs.Passing.{err_is}
use Rattle.packed.proofs.Files.{judged_bad}
use Rattle.packed.proofs.record.judge_record.Goals as goal

pub returns-in_err-nodes : goal.returns-in_err-nodes
returns-in_err-nodes c =
    let v = c.in_err-nodes.ensures in
    rw (err_is c.from_residual.result c.from_residual.ensures.1) ((judged_bad v, tt))
