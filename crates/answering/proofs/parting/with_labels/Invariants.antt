-- `answering::parting::with_labels` meets its contract.
use Prim.Native.Nat.{◌+◌, ◌≤◌}
use lib.ListN.{take}
use Rattle.engine.specs.Simulation.{bit}
use Rattle.matching.specs.Part.{at_places}
use Rattle.answering.specs.Parting.{Adds}
use Rattle.answering.proofs.parting.with_labels.Given as goal

abbrev pub invariant-loop-u : goal.invariant-loop-u
invariant-loop-u l = (l.u ≤ l.q.nodes) × (l.g.number ≤ l.initial.g.number + l.u) × Adds (at_places (bit l.nodes) (take l.u l.q.labels)) l.initial.g l.g
