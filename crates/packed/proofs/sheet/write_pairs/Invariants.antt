-- `packed::sheet::write_pairs` meets its contract. The invariant: what is left are so many pairs, with a code of at least `least`, of 24 bits each.
use mathlib.Core.Path.{◌≡◌}
use Prim.Native.Nat.{◌+◌, ◌-◌, ◌*◌}
use lib.ListN.{length}
use Rattle.packed.specs.Formats.{pairs}
use Rattle.packed.specs.Writing.{Writing}
use Rattle.packed.proofs.sheet.write_pairs.Given as goal

abbrev pub invariant-loop : goal.invariant-loop
invariant-loop l = (l.at ≡ l.start + 24 * l.counter) × (length l.out ≡ length l.initial.out) × Writing (pairs l.n 0) l.words l.first l.initial.out l.start (pairs (l.n - l.counter) l.least) l.i l.out l.at
