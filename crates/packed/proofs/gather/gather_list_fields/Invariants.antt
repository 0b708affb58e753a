-- `packed::gather::gather_list_fields` meets its contract.
use mathlib.Core.Path.{◌≡◌}
use Prim.Native.Nat.{◌+◌, ◌*◌, ◌≤◌, ◌-◌}
use Rattle.packed.specs.Walks.{pairs_from, fields_end}
use Rattle.packed.proofs.Gathering.{Walked}
use Rattle.packed.proofs.gather.gather_list_fields.Given as goal

abbrev pub invariant-loop : goal.invariant-loop
invariant-loop l =
    Walked (pairs_from l.words l.first l.m) l.initial.sofar l.initial.work (pairs_from l.words l.at (l.m - l.counter)) l.sofar l.work
    × (fields_end l.words l.first l.m ≡ fields_end l.words l.at (l.m - l.counter))
    × (l.at + 32769 * (l.m - l.counter) ≤ l.first + 32769 * l.m)
