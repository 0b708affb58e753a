-- `containment::query::write_graph` meets its contract.
use Rattle.containment.proofs.QueryLaws.{graphed, not_refused}
use Rattle.containment.proofs.query.write_graph.Goals as goal

pub returns-in-Ok : goal.returns-in-Ok
returns-in-Ok c =
    let graph-fields = c.graph_fields-f in
    let judge-record-fields = c.judge_record_fields-r in
    let q = rw c.in-Ok.is at judge-record-fields.ensures in
    λ t. graphed t _ graph-fields.ensures q

pub returns-in-Err : goal.returns-in-Err
returns-in-Err c =
    let graph-fields = c.graph_fields-f in
    let judge-record-fields = c.judge_record_fields-r in
    let q = rw c.in-Err.is at judge-record-fields.ensures in
    λ t. not_refused t _ graph-fields.ensures q.0
