-- `packed::gather::gather_pair_fields` meets its contract.
use mathlib.Core.Path.{◌≡◌}
use Prim.Native.Nat.{◌+◌, ◌*◌, ◌-◌}
use Rattle.packed.specs.Walks.{codes_from}
use Rattle.packed.proofs.Gathering.{Walked}
use Rattle.packed.proofs.gather.gather_pair_fields.Given as goal

abbrev pub invariant-loop : goal.invariant-loop
invariant-loop l = Walked (codes_from l.words l.first l.n) l.initial.sofar l.initial.work (codes_from l.words l.i (l.n - l.counter)) l.sofar l.work × (l.i + 2 * (l.n - l.counter) ≡ l.first + 2 * l.n)
