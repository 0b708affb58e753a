-- `packed::record::write_fields` meets its contract.
use native.Mathlib.Omega.{arith}
use Prim.Native.Nat.{◌*◌}
use Rattle.packed.proofs.Passing.{err_is}
use Rattle.packed.proofs.WritingLaws.{rejected, parts_rejected, closes}
use Rattle.packed.proofs.Records.{record_is, nodes_written, number_written, labels_written}
use Rattle.packed.proofs.record.write_fields.Goals as goal

pub returns-in_err-nodes : goal.returns-in_err-nodes
returns-in_err-nodes c =
    let p = c.in_err-nodes.ensures in
    rw (err_is c.from_residual.result c.from_residual.ensures.1) (rw record_is (p _))

pub returns-in_err-number : goal.returns-in_err-number
returns-in_err-number c =
    let p = c.in_ok-nodes.ensures in
    let q = c.in_err-number.ensures in
    rw (err_is c.from_residual-in_err-number.result c.from_residual-in_err-number.ensures.1) (rejected (nodes_written p) (q _))

pub returns-in_err-at : goal.returns-in_err-at
returns-in_err-at c =
    let p = c.in_ok-nodes.ensures in
    let q = c.in_ok-number.ensures in
    let r = c.in_err-at.ensures in
    rw (err_is c.from_residual-in_err-at.result c.from_residual-in_err-at.ensures.1) (parts_rejected _ _ (number_written p q) r)

pub returns : goal.returns
returns c =
    let p = c.in_ok-nodes.ensures in
    let q = c.in_ok-number.ensures in
    let r = c.in_ok-at.ensures in
    closes (27 * c.in_ok-number.number) 352283 3 c.write_edges.result _ (labels_written p q r.0) c.write_edges.ensures (omega (arith, r.1, p.most, q.most))
