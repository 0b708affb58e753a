-- `packed::pattern::are_ends` meets its contract.
use mathlib.Core.Path.{◌≡◌}
use Prim.Native.Nat.{◌≤◌}
use Rattle.packed.specs.Formats.{all_ends}
use Rattle.packed.proofs.pattern.are_ends.Given as goal

abbrev pub invariant-loop-x : goal.invariant-loop-x
invariant-loop-x l = (l.x ≤ l.n) × (l.all ≡ all_ends l.x l.edges)
