-- `matching::components::next` meets its contract.
use Prim.Native.Nat.{◌≤◌}
use Rattle.matching.proofs.ReachLaws.{Passed}
use Rattle.matching.proofs.components.next.Given as goal

abbrev pub invariant-loop-u : goal.invariant-loop-u
invariant-loop-u l = (l.u ≤ l.n) × Passed l.t l.components l.n l.settled l.u
