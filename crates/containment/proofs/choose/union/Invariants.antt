-- `containment::choose::union` meets its contract.
use mathlib.Core.List.{List}
use Prim.Native.Nat.{ℕ}
use Rattle.engine.specs.Masks.{Mask}
use Rattle.containment.specs.Masked.{EdgeMatchedIn, Masked}
use Rattle.containment.proofs.choose.union.Given as goal

abbrev pub invariant-loop-a : goal.invariant-loop-a
invariant-loop-a l = (t : List ℕ) (m : ℕ) → Masked t l.k m l.masks → Mask (EdgeMatchedIn t m l.set l.a) l.matched
