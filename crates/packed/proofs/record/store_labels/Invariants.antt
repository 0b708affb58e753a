-- `packed::record::store_labels` meets its contract.
use Prim.Native.Nat.{◌≤◌}
use Rattle.packed.specs.LoadedGraph.{LabelsStored}
use Rattle.packed.proofs.record.store_labels.Given as goal

abbrev pub invariant-loop-v : goal.invariant-loop-v
invariant-loop-v l = (l.v ≤ l.nodes) × LabelsStored l.s l.v l.initial.out l.out
