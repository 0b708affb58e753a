-- `packed::gather::gather_lists` meets its contract.
use mathlib.Core.Path.{◌≡◌}
use Prim.Native.Nat.{◌+◌, ◌*◌, ◌≤◌, ◌-◌}
use Rattle.packed.specs.Walks.{pairs_at, lists_end, list_bits}
use Rattle.packed.proofs.Gathering.{Walked}
use Rattle.packed.proofs.gather.gather_lists.Given as goal

abbrev pub invariant-loop : goal.invariant-loop
invariant-loop l =
    Walked (pairs_at l.s l.start l.m) l.initial.sofar l.initial.work (pairs_at l.s l.at (l.m - l.counter)) l.sofar l.work
    × (lists_end l.s l.start l.m ≡ lists_end l.s l.at (l.m - l.counter))
    × (l.at + list_bits * (l.m - l.counter) ≤ l.start + list_bits * l.m)
