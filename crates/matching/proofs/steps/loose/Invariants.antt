-- `matching::steps::loose` meets its contract.
use Prim.Native.Nat.{◌≤◌}
use Rattle.matching.specs.Stepping.{LooseLinks}
use Rattle.matching.proofs.steps.loose.Given as goal

abbrev pub invariant-loop-i : goal.invariant-loop-i
invariant-loop-i l = (l.i ≤ l.d) × LooseLinks l.i l.work l.leave l.arrive l.r
