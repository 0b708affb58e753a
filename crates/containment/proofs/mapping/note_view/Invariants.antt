-- `containment::mapping::note_view` meets its contract.
use Prim.Native.Nat.{◌+◌, ◌/◌, ◌%◌, ◌^◌}
use mathlib.Core.Path.{◌≡◌}
use lib.ListN.{get_or}
use Rattle.containment.specs.Steps.{Column}
use Rattle.containment.proofs.mapping.note_view.Given as goal

abbrev pub invariant-loop-e : goal.invariant-loop-e
invariant-loop-e l = Column l.a l.e (λ d x. x ≡ get_or l.work (8192 + get_or l.places d 0) 0 / 2 ^ l.o % 2 ^ l.m) l.initial.table l.table
