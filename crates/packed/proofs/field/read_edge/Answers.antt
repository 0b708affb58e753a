-- `packed::field::read_edge` meets its contract.
use Rattle.packed.proofs.Passing.{err_is}
use Rattle.packed.proofs.Edges.{kind_refused}
use Rattle.packed.proofs.field.read_edge.Goals as goal

pub returns : goal.returns
returns c =
    let p = c.in_ok-a.ensures in
    let q = c.in_ok-k.ensures in
    record { between = _; ends = p; kind = q }

pub returns-in_err-k : goal.returns-in_err-k
returns-in_err-k c =
    let p = c.in_ok-a.ensures in
    let q = c.in_err-k.ensures in
    rw (err_is c.from_residual-in_err-k.result c.from_residual-in_err-k.ensures.1) (kind_refused c.requires.0.inside p q)

pub returns-in_err-a : goal.returns-in_err-a
returns-in_err-a c =
    let p = c.in_err-a.ensures in
    rw (err_is c.from_residual.result c.from_residual.ensures.1) (λ f. p _)
