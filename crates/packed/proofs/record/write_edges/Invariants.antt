-- `packed::record::write_edges` meets its contract. The invariant: what is left are so many edges, of at least the rank `least`, of 27 bits each.
use mathlib.Core.Path.{◌≡◌}
use Prim.Native.Nat.{◌+◌, ◌*◌, ◌-◌}
use lib.ListN.{length}
use Rattle.packed.specs.Formats.{rising}
use Rattle.packed.specs.Writing.{Writing}
use Rattle.packed.proofs.record.write_edges.Given as goal

abbrev pub invariant-loop : goal.invariant-loop
invariant-loop l = (l.at + 27 * (l.number - l.counter) ≡ l.start + 27 * l.number) × (length l.out ≡ length l.initial.out) × Writing (rising l.nodes l.number 0) l.words l.first l.initial.out l.start (rising l.nodes (l.number - l.counter) l.least) l.i l.out l.at
