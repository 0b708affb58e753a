-- `matching::candidates::find` meets its contract.
use Prim.Native.Nat.{◌-◌}
use Rattle.matching.proofs.Taking.{Halving}
use Rattle.matching.proofs.candidates.find.Given as goal

abbrev pub invariant-loop-high : goal.invariant-loop-high
invariant-loop-high l = Halving l.work l.first l.last l.code l.low l.high

abbrev pub decreases-loop-high : goal.decreases-loop-high
decreases-loop-high l = l.high - l.low
