-- `packed::matches::put_pair` meets its contract. The invariant: the first k bits of the mask were looked at.
use Prim.Native.Nat.{◌-◌}
use Rattle.packed.proofs.ScatterLaws.{Putting}
use Rattle.packed.proofs.matches.put_pair.Given as goal

abbrev pub invariant-loop-left : goal.invariant-loop-left
invariant-loop-left l = Putting l.x l.v l.initial.places l.initial.out l.places l.out l.k l.left

abbrev pub decreases-loop-left : goal.decreases-loop-left
decreases-loop-left l = 32 - l.k
