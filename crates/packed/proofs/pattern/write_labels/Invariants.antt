-- `packed::pattern::write_labels` meets its contract.
use mathlib.Core.Path.{◌≡◌}
use Prim.Native.Nat.{◌+◌, ◌*◌, ◌-◌}
use lib.ListN.{length}
use Rattle.packed.specs.Format.{times}
use Rattle.packed.specs.Formats.{label}
use Rattle.packed.specs.Writing.{Writing}
use Rattle.packed.proofs.pattern.write_labels.Given as goal

abbrev pub invariant-loop : goal.invariant-loop
invariant-loop l = (l.at + 5 * (l.n - l.counter) ≡ l.start + 5 * l.n) × (length l.out ≡ length l.initial.out) × Writing (times l.n label) l.words l.first l.initial.out l.start (times (l.n - l.counter) label) l.i l.out l.at
