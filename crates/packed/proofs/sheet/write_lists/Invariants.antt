-- `packed::sheet::write_lists` meets its contract. The invariant: what is left are so many lists, of at most 196622 bits each.
use mathlib.Core.Path.{◌≡◌}
use Prim.Native.Nat.{◌+◌, ◌*◌, ◌≤◌, ◌-◌}
use lib.ListN.{length}
use Rattle.packed.specs.Formats.{lists}
use Rattle.packed.specs.Writing.{Writing}
use Rattle.packed.proofs.sheet.write_lists.Given as goal

abbrev pub invariant-loop : goal.invariant-loop
invariant-loop l = (l.at + 196622 * (l.m - l.counter) ≤ 1 + 196622 * l.m) × (length l.out ≡ length l.initial.out) × Writing (lists l.m) l.words l.first l.initial.out 1 (lists (l.m - l.counter)) l.i l.out l.at
