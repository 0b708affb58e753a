-- `engine::start::labels_used` meets its contract.
use mathlib.Core.Path.{◌≡◌}
use Prim.Native.Nat.{◌≤◌}
use lib.ListN.{get_or}
use Rattle.engine.specs.Masks.{Mask, OneOf}
use Rattle.engine.proofs.start.labels_used.Given as goal

abbrev pub invariant-loop-u : goal.invariant-loop-u
invariant-loop-u a = (a.u ≤ a.n) × Mask (λ l. OneOf a.u (λ j. get_or a.labels j 0 ≡ l)) a.r
