-- `packed::record::write_labels` meets its contract. The loop: what was written so far, then the labels that are left.
use borrow.Author.Rules.{rules}
use native.Mathlib.Omega.{arith}
use Rattle.packed.proofs.Counted.{one_less}
use Rattle.packed.proofs.Passing.{err_is}
use Rattle.packed.proofs.WritingLaws.{left_to, writes, rejected}
use Rattle.packed.proofs.Records.{labels_next, labels_none}
use Rattle.packed.proofs.record.write_labels.Goals as goal

pub loop-preserved : goal.loop-preserved
loop-preserved c =
    let p = c.in_ok-write_field.ensures in
    (search rules, omega arith, rw (← one_less c.args.n c.loop.counter) (writes (left_to (labels_next _ (omega (arith, c.loop-test.true))) c.loop.invariant.2) p))

pub returns-in_err-write_field : goal.returns-in_err-write_field
returns-in_err-write_field c =
    let at-loop = c.loop in
    let loop-test = c.loop-test in
    let p = c.in_err-write_field.ensures in
    rw (err_is c.from_residual.result c.from_residual.ensures.1) (rejected (left_to (labels_next _ (omega (arith, loop-test.true))) at-loop.invariant.2) (p _))

pub returns : goal.returns
returns c = (left_to (labels_none _ (omega (arith, c.loop-test.false))) c.loop.invariant.2, omega arith)
