-- `packed::sheet::read_lists` meets its contract. The invariant: what is left are so many lists.
use mathlib.Core.Path.{◌≡◌}
use Prim.Native.Nat.{◌-◌}
use lib.ListN.{length}
use Rattle.packed.specs.Formats.{lists}
use Rattle.packed.specs.Reading.{Reading}
use Rattle.packed.proofs.sheet.read_lists.Given as goal

abbrev pub invariant-loop : goal.invariant-loop
invariant-loop l = (length l.words ≡ length l.initial.words) × Reading (lists l.m) l.s l.start l.initial.words l.first (lists (l.m - l.counter)) l.at l.words l.i
