-- `packed::gather::gather_fields` meets its contract.
use mathlib.Core.List.{[]}
use Prim.Native.Nat.{◌+◌, ◌*◌, ◌≤◌}
use lib.ListN.{take, drop}
use Rattle.packed.specs.Walks.{book_pairs_from, Gathers}
use Rattle.packed.proofs.Gathering.{Walked}
use Rattle.packed.proofs.gather.gather_fields.Given as goal

abbrev pub invariant-loop-j : goal.invariant-loop-j
invariant-loop-j l =
    Gathers [] l.initial.sofar l.initial.work
    × Walked (book_pairs_from l.words 0 (take l.k l.counts)) l.initial.sofar l.initial.work (book_pairs_from l.words l.at (drop l.j (take l.k l.counts))) l.sofar l.work
    × (l.j ≤ l.k)
    × (l.at ≤ (32 * 32769 + 1) * l.j)
