-- `packed::gather::gather_book` meets its contract.
use mathlib.Core.List.{[]}
use Prim.Native.Nat.{◌+◌, ◌*◌, ◌≤◌}
use lib.ListN.{take, drop}
use Rattle.packed.specs.Walks.{book_pairs, list_bits, Gathers}
use Rattle.packed.proofs.Gathering.{Walked}
use Rattle.packed.proofs.gather.gather_book.Given as goal

abbrev pub invariant-loop-j : goal.invariant-loop-j
invariant-loop-j l =
    Gathers [] l.initial.sofar l.initial.work
    × Walked (book_pairs l.s 0 (take l.k l.counts)) l.initial.sofar l.initial.work (book_pairs l.s l.at (drop l.j (take l.k l.counts))) l.sofar l.work
    × (l.j ≤ l.k)
    × (l.at ≤ (32 * list_bits + 8) * l.j)
