-- `packed::field::write_two` meets its contract.
use Rattle.packed.proofs.Passing.{err_is}
use Rattle.packed.proofs.WritingLaws.{begins, writes, rejected}
use Rattle.packed.proofs.field.write_two.Goals as goal

pub returns-in_err-a : goal.returns-in_err-a
returns-in_err-a c =
    let p = c.in_err-a.ensures in
    rw (err_is c.from_residual.result c.from_residual.ensures.1) (λ f. p _)

pub returns : goal.returns
returns c =
    let p = c.in_ok-a.ensures in
    let q = c.in_ok-b.ensures in
    record { between = _; first = p; second = q }

pub returns-in_err-b : goal.returns-in_err-b
returns-in_err-b c =
    let pre = c.requires in
    let p = c.in_ok-a.ensures in
    let q = c.in_err-b.ensures in
    rw (err_is c.from_residual-in_err-b.result c.from_residual-in_err-b.ensures.1) (λ f. rejected (writes (begins pre.0) p) (q _))
