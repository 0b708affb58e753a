-- `answering::parting::nodes_at` meets its contract.
use Prim.Native.Nat.{◌≤◌}
use Rattle.engine.specs.Masks.{Mask}
use Rattle.answering.specs.Parting.{EndTaken}
use Rattle.answering.proofs.parting.nodes_at.Given as goal

abbrev pub invariant-loop-e : goal.invariant-loop-e
invariant-loop-e l = (l.e ≤ l.q.edges) × Mask (EndTaken l.q l.taken l.e) l.nodes
