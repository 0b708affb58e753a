-- `engine::start::by_label` meets its contract.
use Prim.Native.Nat.{◌≤◌}
use lib.ListN.{get_or}
use Rattle.engine.proofs.StartLaws.{Grouped}
use Rattle.engine.proofs.start.by_label.Given as goal

abbrev pub invariant-loop-e : goal.invariant-loop-e
invariant-loop-e l = (l.e ≤ l.m) × Grouped 32 (λ k. get_or l.labels (get_or l.ends k 0) 0) l.e l.t
