-- `matching::candidates::reach` meets its contract.
use Prim.Native.Nat.{◌≤◌, ◌<◌, ◌-◌}
use Rattle.matching.proofs.candidates.reach.Given as goal

abbrev pub invariant-loop-end : goal.invariant-loop-end
invariant-loop-end l = (l.first < l.end) × (0 < l.step) × (l.step ≤ l.end)

abbrev pub decreases-loop-end : goal.decreases-loop-end
decreases-loop-end l = l.d - l.end
