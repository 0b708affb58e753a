-- `containment::choose::masks_of` meets its contract: the masks of the views passed.
use mathlib.Core.Path.{◌≡◌}
use Prim.Native.Nat.{ℕ, ◌<◌}
use lib.ListN.{length, get_or}
use Rattle.engine.specs.Masks.{Mask}
use Rattle.containment.specs.Masked.{EdgeMatchedBy}
use Rattle.containment.proofs.choose.masks_of.Given as goal

abbrev pub invariant-loop-a : goal.invariant-loop-a
invariant-loop-a l = (length l.masks ≡ 16) × ((b : ℕ) → b < l.a → Mask (EdgeMatchedBy l.mapping b l.m) (get_or l.masks b 0))
