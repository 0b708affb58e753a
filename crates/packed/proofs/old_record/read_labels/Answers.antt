-- `packed::old_record::read_labels` meets its contract. The loop: what was read so far, then the labels that are left.
use borrow.Author.Rules.{rules}
use native.Mathlib.Omega.{arith}
use Rattle.packed.proofs.Counted.{one_less}
use Rattle.packed.proofs.Passing.{err_is}
use Rattle.packed.proofs.ReadingLaws.{left_is, reads, refused}
use Rattle.packed.proofs.Records.{labels_next, labels_none}
use Rattle.packed.proofs.old_record.read_labels.Goals as goal

pub loop-preserved : goal.loop-preserved
loop-preserved c =
    let p = c.in_ok-read_field.ensures in
    (search rules, rw (← one_less c.args.n c.loop.counter) (reads (left_is (labels_next _ (omega (arith, c.loop-test.true))) c.loop.invariant.1) p), search rules)

pub returns-in_err-read_field : goal.returns-in_err-read_field
returns-in_err-read_field c =
    let at-loop = c.loop in
    let loop-test = c.loop-test in
    let p = c.in_err-read_field.ensures in
    rw (err_is c.from_residual.result c.from_residual.ensures.1) ((refused (left_is (labels_next _ (omega (arith, loop-test.true))) at-loop.invariant.1) (p _), tt))

pub returns : goal.returns
returns c = (left_is (labels_none _ (omega (arith, c.loop-test.false))) c.loop.invariant.1, omega arith)
