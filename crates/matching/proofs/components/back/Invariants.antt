-- `matching::components::back` meets its contract.
use mathlib.Core.Path.{◌≡◌}
use Prim.Native.Nat.{◌≤◌}
use lib.ListN.{get_or}
use Rattle.engine.specs.Masks.{Has, Mask, OneOf}
use Rattle.matching.proofs.components.back.Given as goal

abbrev pub invariant-loop-v : goal.invariant-loop-v
invariant-loop-v l = (l.v ≤ l.n) × Mask (λ k. OneOf l.v (λ j. (j ≡ k) × Has (get_or l.t j 0) l.u)) l.r
