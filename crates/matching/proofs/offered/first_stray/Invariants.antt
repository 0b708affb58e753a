-- `matching::offered::first_stray` meets its contract.
use Prim.Native.Nat.{ℕ, ◌≤◌, ◌<◌}
use Rattle.engine.specs.Masks.{Has}
use Rattle.matching.proofs.offered.first_stray.Given as goal

abbrev pub invariant-loop-a : goal.invariant-loop-a
invariant-loop-a l = (l.k ≤ l.a) × (l.a ≤ 16) × ((d : ℕ) → d < l.a → Has l.set d → d < l.k)
