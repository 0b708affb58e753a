-- `packed::catalogue::judge_catalogue` meets its contract.
use native.Mathlib.Omega.{arith}
use Rattle.packed.proofs.Passing.{err_is}
use Rattle.packed.proofs.Files.{judged_bad, up_to}
use Rattle.packed.proofs.catalogue.judge_catalogue.Goals as goal

pub returns-in_err-byte : goal.returns-in_err-byte
returns-in_err-byte c = rw (err_is c.from_residual.result c.from_residual.ensures.1) (judged_bad c.in_err-byte.ensures)

pub returns : goal.returns
returns c =
    let p = c.close_file.ensures in
    let q = c.in_ok-byte.ensures in
    up_to _ _ c.close_file.result _ _ (p.0 _ _ _ q.0) p.1 (omega (arith, q.1))
