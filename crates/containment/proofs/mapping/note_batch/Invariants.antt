-- `containment::mapping::note_batch` meets its contract.
use Prim.Native.Nat.{ℕ, ◌+◌}
use mathlib.Core.Path.{◌≡◌}
use lib.ListN.{length}
use Rattle.packed.specs.Matches.{Named, sum_of}
use Rattle.containment.specs.Steps.{BatchNoted}
use Rattle.containment.proofs.mapping.note_batch.Given as goal

abbrev pub invariant-loop-j : goal.invariant-loop-j
invariant-loop-j l = (l.at + sum_of l.a l.counts ≡ sum_of l.j l.counts) × ((d : ℕ) → Named d l.work l.named → BatchNoted l.a l.j (length l.places) l.counts d l.work l.places l.initial.table l.table)
