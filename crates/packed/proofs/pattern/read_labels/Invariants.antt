-- `packed::pattern::read_labels` meets its contract.
use mathlib.Core.Path.{◌≡◌}
use Prim.Native.Nat.{◌+◌, ◌-◌}
use lib.ListN.{length}
use Rattle.packed.specs.Format.{times}
use Rattle.packed.specs.Formats.{label}
use Rattle.packed.specs.Reading.{Reading}
use Rattle.packed.proofs.pattern.read_labels.Given as goal

abbrev pub invariant-loop : goal.invariant-loop
invariant-loop l = (l.i + (l.n - l.counter) ≡ l.first + l.n) × (length l.words ≡ length l.initial.words) × Reading (times l.n label) l.s l.start l.initial.words l.first (times (l.n - l.counter) label) l.at l.words l.i
