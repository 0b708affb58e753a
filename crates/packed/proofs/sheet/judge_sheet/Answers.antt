-- `packed::sheet::judge_sheet` meets its contract.
use Rattle.packed.proofs.Passing.{err_is}
use Rattle.packed.proofs.Files.{judged_bad}
use Rattle.packed.proofs.sheet.judge_sheet.Goals as goal

pub returns-in_err-at : goal.returns-in_err-at
returns-in_err-at c = rw (err_is c.from_residual.result c.from_residual.ensures.1) (judged_bad c.in_err-at.ensures)

pub returns : goal.returns
returns c =
    let p = c.close_file.ensures in
    p.0 _ _ _ c.in_ok-at.ensures
