-- `packed::pattern::read_edges` meets its contract.
use mathlib.Core.Path.{◌≡◌}
use mathlib.Core.List.{[]}
use Prim.Native.Nat.{◌+◌, ◌-◌, ◌*◌, ◌≤◌, ◌-◌}
use lib.ListN.{length, take, drop}
use Rattle.packed.specs.Formats.{edges, joined}
use Rattle.packed.specs.Reading.{Reading}
use Rattle.packed.proofs.NotedLaws.{Noted}
use Rattle.packed.proofs.pattern.read_edges.Given as goal

abbrev pub invariant-loop : goal.invariant-loop
invariant-loop l =
    (l.first ≤ l.i) × (l.i + 3 * (l.number - l.counter) ≡ l.first + 3 * l.number) × (length l.words ≡ length l.initial.words)
    × Reading (edges 4 3 l.nodes (joined l.nodes) l.number []) l.s l.start l.initial.words l.first (edges 4 3 l.nodes (joined l.nodes) (l.number - l.counter) (take (l.i - l.first) (drop l.first l.words))) l.at l.words l.i
    × Noted (take (l.i - l.first) (drop l.first l.words)) l.kinds
