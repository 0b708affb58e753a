-- `containment::mapping::note_views` meets its contract.
use Prim.Native.Nat.{◌≤◌, ◌-◌}
use mathlib.Core.Path.{◌≡◌}
use lib.ListN.{length}
use Rattle.engine.specs.Loaded.{Edges}
use Rattle.engine.specs.Starting.{NodeRoom}
use Rattle.containment.proofs.NotingLaws.{Noted}
use Rattle.containment.proofs.mapping.note_views.Given as goal

abbrev pub invariant-loop-a : goal.invariant-loop-a
invariant-loop-a l = (l.a ≤ l.k) × Edges l.initial.work l.work × Noted l.q l.catalogue l.one_way l.k l.a l.byte l.mapping × NodeRoom l.n l.leave l.arrive l.held × (length l.leave ≡ 16) × (length l.arrive ≡ 16) × (length l.held ≡ 16)

abbrev pub decreases-loop-a : goal.decreases-loop-a
decreases-loop-a l = l.k - l.a
