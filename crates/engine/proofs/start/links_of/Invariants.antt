-- `engine::start::links_of` meets its contract.
use Prim.Native.Nat.{ℕ}
use Rattle.engine.specs.Masks.{Has}
use Rattle.engine.proofs.StartLaws.{TakenOf}
use Rattle.engine.proofs.start.links_of.Given as goal

abbrev pub invariant-loop-left : goal.invariant-loop-left
invariant-loop-left a = ((l : ℕ) → Has a.left l → Has a.x l) × TakenOf a.leaving a.x a.left a.leave × TakenOf a.arriving a.x a.left a.arrive

abbrev pub decreases-loop-left : goal.decreases-loop-left
decreases-loop-left l = l.left
