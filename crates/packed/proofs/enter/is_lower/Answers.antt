-- `packed::enter::is_lower` meets its contract.
use mathlib.Core.Path.{sym}
use Rattle.packed.proofs.OrderCases.{one_lt, one_ge}
use Rattle.packed.proofs.enter.is_lower.Goals as goal

pub returns-then-a-b : goal.returns-then-a-b
returns-then-a-b c = sym (one_lt _ _ c.if-a-b.true)

pub returns : goal.returns
returns c = sym (one_ge _ _ c.if-a-b.false)
