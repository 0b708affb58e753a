-- `engine::turns::mark_by` meets its contract.
use native.Mathlib.Omega.{arith}
use Rattle.engine.proofs.SetLaws.{range_next, none_marked}
use Rattle.engine.proofs.turns.mark_by.Goals as goal

pub returns-then-lost-eq0 : goal.returns-then-lost-eq0
returns-then-lost-eq0 g c = none_marked g.N.Side.end _ _ _ _ _ _ _ c.if-lost-eq0.true

pub loop-k-preserved : goal.loop-k-preserved
loop-k-preserved g c =
    let h = c.loop-k.invariant in
    (omega (arith, h.0), omega (arith, c.loop-k-test.true), range_next g.N.Side.end _ _ _ _ h.2 h.0 c.number-i.ensures c.mark_end.ensures)
