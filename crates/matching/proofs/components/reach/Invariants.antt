-- `matching::components::reach` meets its contract.
use Prim.Native.Nat.{◌-◌, ◌^◌}
use Rattle.matching.proofs.ReachLaws.{Within}
use Rattle.matching.proofs.components.reach.Given as goal

abbrev pub invariant-loop-x : goal.invariant-loop-x
invariant-loop-x l = Within l.q l.u l.x

abbrev pub decreases-loop-x : goal.decreases-loop-x
decreases-loop-x l = 2 ^ 16 - l.x
