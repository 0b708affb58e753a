-- `engine::start::by_kind` meets its contract.
use Prim.Native.Nat.{◌≤◌}
use lib.ListN.{get_or}
use Rattle.engine.proofs.StartLaws.{Grouped}
use Rattle.engine.proofs.start.by_kind.Given as goal

abbrev pub invariant-loop-e : goal.invariant-loop-e
invariant-loop-e l = (l.e ≤ l.m) × Grouped 8 (λ k. get_or l.kinds k 0) l.e l.t
