-- `matching::steps::pairs_at_front` meets its contract.
use Prim.Native.Nat.{◌≤◌}
use Rattle.matching.proofs.SteppingLaws.{Front}
use Rattle.matching.proofs.steps.pairs_at_front.Given as goal

abbrev pub invariant-loop-i : goal.invariant-loop-i
invariant-loop-i l = Front l.work l.least l.i × (l.i ≤ l.d)
