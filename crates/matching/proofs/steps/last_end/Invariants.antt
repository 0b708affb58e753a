-- `matching::steps::last_end` meets its contract.
use Prim.Native.Nat.{ℕ, ◌≤◌, ◌<◌}
use Rattle.engine.specs.Sweeping.{to_of}
use Rattle.matching.proofs.steps.last_end.Given as goal

abbrev pub invariant-loop-i : goal.invariant-loop-i
invariant-loop-i l = (l.i ≤ l.d) × (l.r < 4096) × ((j : ℕ) → j < l.i → to_of l.work j ≤ l.r) × ((k : ℕ) → ((j : ℕ) → j < l.i → to_of l.work j ≤ k) → l.r ≤ k)
