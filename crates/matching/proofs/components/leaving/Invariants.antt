-- `matching::components::leaving` meets its contract.
use Prim.Native.Nat.{◌≤◌}
use Rattle.matching.specs.Stepping.{LeavingLinks}
use Rattle.matching.proofs.components.leaving.Given as goal

abbrev pub invariant-loop-e : goal.invariant-loop-e
invariant-loop-e l = (l.e ≤ l.m) × LeavingLinks l.from l.e l.x l.r
