-- `packed::record::judge_parts` meets its contract.
use mathlib.Core.List.{[]}
use native.Mathlib.Omega.{arith}
use Rattle.packed.specs.Formats.{record'}
use Rattle.packed.proofs.Passing.{err_is}
use Rattle.packed.proofs.Files.{judged_bad}
use Rattle.packed.proofs.Records.{record_short, record_read_lem, record_refused, words_loaded}
use Rattle.packed.proofs.record.judge_parts.Goals as goal

pub returns-then-s-n : goal.returns-then-s-n
returns-then-s-n c = (judged_bad (record_short c.requires.2 c.requires.3 (omega (arith, c.if-s-n.true))), tt)

pub returns-in_err-at : goal.returns-in_err-at
returns-in_err-at c =
    let p = c.in_err-at.ensures in
    rw (err_is c.from_residual.result c.from_residual.ensures.1) (judged_bad (record_refused c.requires.2 c.requires.3 (omega (arith, c.if-s-n.false)) p), tt)

pub returns : goal.returns
returns c =
    let p = c.in_ok-at.ensures in
    (c.close_file.ensures.0 record' [] [] (record_read_lem c.requires.2 c.requires.3 (omega (arith, c.if-s-n.false)) p.0), words_loaded c.close_file.result c.requires.2.is c.requires.3.is p.1)
