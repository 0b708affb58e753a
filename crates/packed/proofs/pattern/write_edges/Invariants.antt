-- `packed::pattern::write_edges` meets its contract.
use mathlib.Core.Path.{◌≡◌}
use mathlib.Core.List.{[]}
use Prim.Native.Nat.{◌+◌, ◌-◌, ◌*◌, ◌≤◌, ◌-◌}
use lib.ListN.{length, take, drop}
use Rattle.packed.specs.Formats.{edges, joined}
use Rattle.packed.specs.Writing.{Writing}
use Rattle.packed.proofs.NotedLaws.{Noted}
use Rattle.packed.proofs.pattern.write_edges.Given as goal

abbrev pub invariant-loop : goal.invariant-loop
invariant-loop l =
    (l.first ≤ l.i) × (l.at + 11 * (l.number - l.counter) ≡ l.start + 11 * l.number) × (length l.out ≡ length l.initial.out)
    × Writing (edges 4 3 l.nodes (joined l.nodes) l.number []) l.words l.first l.initial.out l.start (edges 4 3 l.nodes (joined l.nodes) (l.number - l.counter) (take (l.i - l.first) (drop l.first l.words))) l.i l.out l.at
    × Noted (take (l.i - l.first) (drop l.first l.words)) l.kinds
