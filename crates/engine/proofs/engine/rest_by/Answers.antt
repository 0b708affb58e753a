-- `engine::engine::rest_by` meets its contract.
use Rattle.engine.proofs.TurnLaws.{late_fixed}
use Rattle.engine.proofs.engine.rest_by.Goals as goal

pub returns : goal.returns
returns c =
    let pre = c.requires in
    let late = c.late in
    let sweep = c.sweep in
    let clear = c.clear in
    late_fixed pre.0 late.ensures sweep.ensures clear.ensures
