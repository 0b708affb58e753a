-- `containment::costing::reach_of` meets its contract: the words up to the view passed.
use mathlib.Core.Path.{◌≡◌}
use Prim.Native.Nat.{ℕ, ◌+◌, ◌<◌}
use lib.ListN.{length, get_or}
use Rattle.containment.specs.Tries.{reached}
use Rattle.containment.proofs.costing.reach_of.Given as goal

abbrev pub invariant-loop-a : goal.invariant-loop-a
invariant-loop-a l = (length l.reach ≡ 17) × ((b : ℕ) → b < l.a + 1 → get_or l.reach b 0 ≡ reached l.masks b)
