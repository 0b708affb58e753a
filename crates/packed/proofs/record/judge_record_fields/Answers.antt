-- `packed::record::judge_record_fields` meets its contract.
use mathlib.Core.Path.{refl}
use Rattle.packed.proofs.Passing.{err_is}
use Rattle.packed.proofs.Files.{written_bad}
use Rattle.packed.proofs.Closing.{next_byte}
use Rattle.packed.proofs.Records.{filled_ok, filled_tail}
use Rattle.packed.proofs.record.judge_record_fields.Goals as goal

pub returns-in_err-at : goal.returns-in_err-at
returns-in_err-at c =
    let q = c.in_err-at.ensures in
    rw (err_is c.from_residual.result c.from_residual.ensures.1) (written_bad q)

pub returns-then-i-words : goal.returns-then-i-words
returns-then-i-words c =
    let q = c.in_ok-at.ensures in
    (filled_tail _ (next_byte _) q.0 c.if-i-words.true, refl)

pub returns : goal.returns
returns c =
    let q = c.in_ok-at.ensures in
    filled_ok _ c.write_padding-byte.ensures.0 q.0 c.write_padding-byte.ensures.1 c.if-i-words.false (λ j. (c.slice_known-1.given j).fits) (λ j. (c.slice_known-3-1.given j).fits)
