-- `packed::cursor::standing` meets its contract.
use native.Mathlib.Omega.{arith}
use Rattle.packed.proofs.Walks.{standing_none, standing_all}
use Rattle.packed.proofs.cursor.standing.Goals as goal

pub returns-then-lead-eq0 : goal.returns-then-lead-eq0
returns-then-lead-eq0 c = (standing_none _ _ c.if-lead-eq0.true, omega arith)

pub returns-else-lead-eq0 : goal.returns-else-lead-eq0
returns-else-lead-eq0 c = (standing_all _ _ c.if-lead-eq0.false, omega arith)
