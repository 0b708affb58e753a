-- `matching::asking::changed_views` meets its contract.
use Prim.Native.Nat.{◌-◌}
use mathlib.Core.Path.{◌≡◌}
use lib.ListN.{length}
use Rattle.engine.specs.Starting.{NodeRoom}
use Rattle.matching.proofs.AskLaws.{Asking}
use Rattle.matching.proofs.asking.changed_views.Given as goal

abbrev pub invariant-loop-a : goal.invariant-loop-a
invariant-loop-a l = Asking l.catalogue l.one_way l.record l.n l.m l.initial.work l.at l.k l.set l.byte l.a l.work × NodeRoom l.n l.leave l.arrive l.held × (length l.leave ≡ 4096) × (length l.arrive ≡ 4096) × (length l.held ≡ 4096)

abbrev pub decreases-loop-a : goal.decreases-loop-a
decreases-loop-a l = l.k - l.a
