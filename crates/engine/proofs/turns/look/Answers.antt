-- `engine::turns::look` meets its contract.
use native.Mathlib.Omega.{arith}
use Rattle.engine.proofs.IndexLaws.{looked_by}
use Rattle.engine.proofs.TurnLaws.{missed_side, half_none, half_some}
use Rattle.engine.proofs.turns.look.Goals as goal

pub returns-then-miss-eq0 : goal.returns-then-miss-eq0
returns-then-miss-eq0 g c =
    let pre = c.requires in
    let P = pre.0.placed c.args.v pre.2 in
    half_none g.N.Side.end g.F.Side.end _ _ _ _ _ _ _ pre.2 (missed_side g.N.Side.end g.F.Side.end P (looked_by g.F.Side.end _ c.start-a.ensures c.start-b.ensures P.rises c.look-miss.ensures)) c.if-miss-eq0.true

pub returns : goal.returns
returns g c =
    let pre = c.requires in
    let P = pre.0.placed c.args.v pre.2 in
    half_some g.N.Side.end g.F.Side.end _ _ _ _ _ _ _ pre.2 (missed_side g.N.Side.end g.F.Side.end P (looked_by g.F.Side.end _ c.start-a.ensures c.start-b.ensures P.rises c.look-miss.ensures))
    c.look_up.ensures c.look_up-gone.ensures pre.3 pre.4 pre.0.below pre.1.below c.if-miss-eq0.false (omega (arith, c.look-miss.type_inv)) c.mark_by.ensures c.mark_by-2.ensures
