-- `packed::sheet::write_pair` meets its contract.
use Rattle.packed.proofs.Passing.{err_is}
use Rattle.packed.proofs.WritingLaws.{begins, writes, rejected}
use Rattle.packed.proofs.Sheets.{from_put, pair_at_once}
use Rattle.packed.proofs.sheet.write_pair.Goals as goal

pub returns-in_err-from : goal.returns-in_err-from
returns-in_err-from c = rw (err_is c.from_residual.result c.from_residual.ensures.1) (λ f. c.in_err-from.ensures _ _)

pub returns-in_err-to : goal.returns-in_err-to
returns-in_err-to c =
    let p = c.in_ok-from.ensures in
    rw (err_is c.from_residual-in_err-to.result c.from_residual-in_err-to.ensures.1) (λ f. rejected (writes (begins c.requires.0) (from_put c.args.out.now c.args.at p.0 p.1 p.2)) (c.in_err-to.ensures _ _))

pub returns : goal.returns
returns c =
    let p = c.in_ok-from.ensures in
    let q = c.in_ok-to.ensures in
    pair_at_once c.args.out.now c.args.at p.0 p.1 p.2 q.0 q.1 q.2 c.put_three.ensures
