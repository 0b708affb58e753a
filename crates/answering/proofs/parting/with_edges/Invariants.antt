-- `answering::parting::with_edges` meets its contract.
use Prim.Native.Nat.{◌+◌, ◌*◌, ◌≤◌}
use Rattle.answering.specs.Parting.{Adds, taken_fields}
use Rattle.answering.proofs.parting.with_edges.Given as goal

abbrev pub invariant-loop-e : goal.invariant-loop-e
invariant-loop-e l = (l.e ≤ l.q.edges) × (l.g.number ≤ l.initial.g.number + 3 * l.e) × Adds (taken_fields l.q l.taken l.nodes l.e) l.initial.g l.g
