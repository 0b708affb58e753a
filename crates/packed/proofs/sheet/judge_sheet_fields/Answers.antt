-- `packed::sheet::judge_sheet_fields` meets its contract.
use native.Mathlib.Omega.{arith}
use mathlib.Core.Path.{refl}
use Rattle.packed.specs.Formats.{sheet}
use Rattle.packed.proofs.Passing.{err_is}
use Rattle.packed.proofs.Files.{written_whole_ok, written_whole_tail, written_whole_bad}
use Rattle.packed.proofs.sheet.judge_sheet_fields.Goals as goal

pub returns-in_err-n : goal.returns-in_err-n
returns-in_err-n c =
    let args = c.args in
    rw (err_is c.from_residual.result c.from_residual.ensures.1) (written_whole_bad (sheet args.m) c.in_err-n.ensures)

pub returns-then-i-words : goal.returns-then-i-words
returns-then-i-words c =
    let q = c.in_ok-n.ensures in
    (written_whole_tail (sheet c.args.m) c.in_ok-n.n q.0 (omega arith), refl)

pub returns : goal.returns
returns c =
    let q = c.in_ok-n.ensures in
    written_whole_ok (sheet c.args.m) c.in_ok-n.n q.0 (omega arith) (λ j. omega (arith, c.slice_known-1.given j)) (λ j. omega (arith, c.slice_known-2-1.given j))
