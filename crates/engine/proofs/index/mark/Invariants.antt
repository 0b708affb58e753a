-- `engine::index::mark` meets its contract.
use Prim.Native.Nat.{◌≤◌}
use Rattle.engine.specs.Places.{Marked}
use Rattle.engine.proofs.index.mark.Given as goal

abbrev pub invariant-loop-i : goal.invariant-loop-i
invariant-loop-i l = (l.i ≤ l.d) × Marked l.i l.n l.work l.initial.first l.first
