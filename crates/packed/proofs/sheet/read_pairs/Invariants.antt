-- `packed::sheet::read_pairs` meets its contract. The invariant: what is left are so many pairs, with a code of at least `least`.
use mathlib.Core.Path.{◌≡◌}
use lib.ListN.{length}
use Prim.Native.Nat.{◌-◌}
use Rattle.packed.specs.Formats.{pairs}
use Rattle.packed.specs.Reading.{Reading}
use Rattle.packed.proofs.sheet.read_pairs.Given as goal

abbrev pub invariant-loop : goal.invariant-loop
invariant-loop l = (length l.words ≡ length l.initial.words) × Reading (pairs l.n 0) l.s l.start l.initial.words l.first (pairs (l.n - l.counter) l.least) l.at l.words l.i
