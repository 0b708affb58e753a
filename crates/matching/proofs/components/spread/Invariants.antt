-- `matching::components::spread` meets its contract.
use Prim.Native.Nat.{◌≤◌}
use Rattle.matching.proofs.ReachLaws.{Spreading}
use Rattle.matching.proofs.components.spread.Given as goal

abbrev pub invariant-loop-e : goal.invariant-loop-e
invariant-loop-e l = (l.e ≤ l.m) × Spreading l.from l.to l.m l.x l.e l.r
