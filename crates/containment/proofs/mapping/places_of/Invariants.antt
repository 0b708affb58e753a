-- `containment::mapping::places_of` meets its contract.
use Prim.Native.Nat.{ℕ, ◌<◌}
use mathlib.Core.Path.{◌≡◌}
use lib.ListN.{length, get_or}
use Rattle.containment.specs.Steps.{word_at}
use Rattle.containment.proofs.mapping.places_of.Given as goal

abbrev pub invariant-loop-e : goal.invariant-loop-e
invariant-loop-e l = (length l.places ≡ 32) × ((d : ℕ) → d < l.e → (get_or l.places d 0 < l.m) × (get_or l.work (get_or l.places d 0) 0 ≡ word_at l.q d))
