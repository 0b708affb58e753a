-- `matching::candidates::matched_by` meets its contract.
use mathlib.Core.Path.{◌≡◌}
use Prim.Native.Nat.{◌≤◌, ◌+◌, ◌*◌}
use lib.ListN.{get_or}
use Rattle.engine.specs.Masks.{Has, Mask, OneOf}
use Rattle.matching.proofs.candidates.matched_by.Given as goal

abbrev pub invariant-loop-e : goal.invariant-loop-e
invariant-loop-e l = (l.e ≤ l.m) × Mask (λ k. OneOf l.e (λ j. (j ≡ k) × Has (get_or l.t (16 * j + l.a) 0) l.f)) l.r
