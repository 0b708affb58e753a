-- `packed::catalogue::judge_catalogue_fields` meets its contract.
use mathlib.Core.Path.{refl}
use native.Mathlib.Omega.{arith}
use Rattle.packed.proofs.Passing.{err_is}
use Rattle.packed.proofs.Files.{written_ok, written_tail, written_bad}
use Rattle.packed.proofs.catalogue.judge_catalogue_fields.Goals as goal

pub returns-in_err-n : goal.returns-in_err-n
returns-in_err-n c = rw (err_is c.from_residual.result c.from_residual.ensures.1) (written_bad c.in_err-n.ensures)

pub returns-then-i-words : goal.returns-then-i-words
returns-then-i-words c =
    let q = c.in_ok-n.ensures in
    (written_tail c.in_ok-n.n q.0 (omega arith), refl)

pub returns : goal.returns
returns c =
    let q = c.in_ok-n.ensures in
    written_ok c.in_ok-n.n q.0 (omega arith) (λ j. omega (arith, c.slice_known-1.given j)) (λ j. omega (arith, c.slice_known-2-1.given j))
