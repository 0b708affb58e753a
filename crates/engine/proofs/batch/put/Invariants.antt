-- `engine::batch::put` meets its contract.
use mathlib.Core.Path.{◌≡◌}
use Prim.Native.Nat.{◌+◌}
use lib.ListN.{get_or}
use Rattle.engine.proofs.Filling.{Filling}
use Rattle.engine.proofs.batch.put.Given as goal

abbrev pub invariant-loop-e : goal.invariant-loop-e
invariant-loop-e g l = Filling l.o l.m (λ j y. y ≡ l.first + get_or l.others j 0) l.initial.t l.t l.e
