-- `engine::sweeps::arrivals` meets its contract.
use Prim.Native.Nat.{◌≤◌}
use Rattle.engine.specs.Sweeping.{Arrived}
use Rattle.engine.proofs.sweeps.arrivals.Given as goal

abbrev pub invariant-loop-i : goal.invariant-loop-i
invariant-loop-i l = (l.i ≤ l.d) × Arrived l.i l.work l.initial.held l.held
