-- `packed::pattern::judge_pattern` meets its contract.
use native.Mathlib.Omega.{arith}
use Rattle.packed.proofs.Passing.{err_is}
use Rattle.packed.proofs.Files.{judged_bad, up_to}
use Rattle.packed.proofs.pattern.judge_pattern.Goals as goal

pub returns-in_err-at : goal.returns-in_err-at
returns-in_err-at c = rw (err_is c.from_residual.result c.from_residual.ensures.1) (judged_bad c.in_err-at.ensures)

pub returns : goal.returns
returns c =
    let p = c.close_file.ensures in
    let q = c.in_ok-at.ensures in
    up_to _ _ c.close_file.result _ _ (p.0 _ _ _ q.0) p.1 (omega (arith, q.1))
