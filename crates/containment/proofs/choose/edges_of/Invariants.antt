-- `containment::choose::edges_of` meets its contract: the mask of the edges passed.
use Rattle.engine.specs.Masks.{Mask}
use Rattle.containment.specs.Masked.{EdgeMatchedBy}
use Rattle.containment.proofs.choose.edges_of.Given as goal

abbrev pub invariant-loop-e : goal.invariant-loop-e
invariant-loop-e l = Mask (EdgeMatchedBy l.mapping l.a l.e) l.mask
