-- `engine::marked::mark_all` meets its contract.
use Prim.Native.Nat.{◌≤◌}
use Rattle.engine.specs.MarkedSet.{AllMarked}
use Rattle.engine.proofs.marked.mark_all.Given as goal

abbrev pub invariant-loop-v : goal.invariant-loop-v
invariant-loop-v l = (l.v ≤ l.n) × AllMarked l.v l.set
