-- `packed::catalogue::judge_questions` meets its contract.
use Rattle.packed.proofs.Passing.{err_is}
use Rattle.packed.proofs.Files.{judged_bad}
use Rattle.packed.proofs.catalogue.judge_questions.Goals as goal

pub returns-in_err-byte : goal.returns-in_err-byte
returns-in_err-byte c = rw (err_is c.from_residual.result c.from_residual.ensures.1) (judged_bad c.in_err-byte.ensures)

pub returns : goal.returns
returns c =
    let p = c.close_file.ensures in
    p.0 _ _ _ c.in_ok-byte.ensures.0
