-- `engine::link_tables::by_item` meets its contract.
use Prim.Native.Nat.{◌≤◌}
use lib.ListN.{get_or}
use Rattle.engine.proofs.StartLaws.{Grouped}
use Rattle.engine.proofs.link_tables.by_item.Given as goal

abbrev pub invariant-loop-k : goal.invariant-loop-k
invariant-loop-k l = (l.k ≤ l.m) × Grouped 64 (λ j. get_or l.b j 0) l.k l.t
