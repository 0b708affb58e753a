-- `packed::matches::add_bits` meets its contract. The invariant: the first k bits were looked at.
use Prim.Native.Nat.{◌-◌, ◌/◌, ◌^◌}
use mathlib.Core.Path.{◌≡◌}
use Rattle.packed.proofs.MatchLaws.{Adding}
use Rattle.packed.proofs.matches.add_bits.Given as goal

abbrev pub invariant-loop-left : goal.invariant-loop-left
invariant-loop-left l = Adding l.x l.initial.c l.c l.k × (l.left ≡ l.x / 2 ^ l.k)

abbrev pub decreases-loop-left : goal.decreases-loop-left
decreases-loop-left l = 32 - l.k
