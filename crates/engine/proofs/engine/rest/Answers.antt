-- `engine::engine::rest` meets its contract.
use Rattle.engine.proofs.RoundLaws.{fixed_then}
use Rattle.engine.proofs.engine.rest.Goals as goal

pub returns : goal.returns
returns c =
    let fix = c.fix-lost in
    let rest-by = c.rest_by-2 in
    fixed_then fix.ensures rest-by.ensures
