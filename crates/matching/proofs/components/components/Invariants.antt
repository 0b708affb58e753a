-- `matching::components::components` meets its contract.
use Prim.Native.Nat.{◌<◌}
use lib.ListN.{get_or}
use Rattle.engine.specs.Masks.{Has, Mask}
use Rattle.engine.proofs.Filling.{Filling}
use Rattle.matching.proofs.components.components.Given as goal

abbrev pub invariant-loop-u : goal.invariant-loop-u
invariant-loop-u l = Filling 0 l.n (λ j x. Mask (λ v. Has (get_or l.t j 0) v × (v < l.n) × Has (get_or l.t v 0) j) x) l.initial.c l.c l.u
