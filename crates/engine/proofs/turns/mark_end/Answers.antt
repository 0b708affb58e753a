-- `engine::turns::mark_end` meets its contract.
use native.Mathlib.Omega.{arith}
use Rattle.engine.proofs.SetLaws.{end_whole, end_marked}
use Rattle.engine.proofs.turns.mark_end.Goals as goal

pub returns-then-hurt-eq0 : goal.returns-then-hurt-eq0
returns-then-hurt-eq0 g c = end_whole g.N.Side.end _ _ _ _ _ (rw c.end-t.ensures at c.if-hurt-eq0.true)

pub returns : goal.returns
returns g c = end_marked g.N.Side.end _ _ _ _ (rw c.end-t.ensures at c.if-hurt-eq0.false) (omega arith) (rw c.end-t.ensures at c.mark.ensures)
