-- `packed::record::read_counts` meets its contract.
use Rattle.packed.proofs.Passing.{err_is}
use Rattle.packed.proofs.ReadingLaws.{refused}
use Rattle.packed.proofs.Records.{record_is, value_none, record_nodes}
use Rattle.packed.proofs.record.read_counts.Goals as goal

pub returns-in_err-nodes : goal.returns-in_err-nodes
returns-in_err-nodes c =
    let p = c.in_err-nodes.ensures in
    rw (err_is c.from_residual.result c.from_residual.ensures.1) (rw record_is (p _))

pub returns : goal.returns
returns c =
    let p = c.in_ok-nodes.ensures in
    let q = c.in_ok-v.ensures in
    (value_none p, value_none q)

pub returns-in_err-v : goal.returns-in_err-v
returns-in_err-v c =
    let p = c.in_ok-nodes.ensures in
    let q = c.in_err-v.ensures in
    rw (err_is c.from_residual-in_err-v.result c.from_residual-in_err-v.ensures.1) (refused (record_nodes (value_none p)) (q _))
