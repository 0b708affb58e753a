use Prim.Native.Nat.{◌≤◌}
use Rattle.engine.specs.Rows.{RowOf}
use Rattle.engine.proofs.link_tables.row.Given as goal

abbrev pub invariant-loop-k : goal.invariant-loop-k
invariant-loop-k l = (l.k ≤ l.m) × RowOf l.b l.k l.x l.r
