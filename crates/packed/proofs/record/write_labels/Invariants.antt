-- `packed::record::write_labels` meets its contract. The loop: what was written so far, then the labels that are left.
use mathlib.Core.Path.{◌≡◌}
use lib.ListN.{length}
use Prim.Native.Nat.{◌+◌, ◌*◌, ◌-◌}
use Rattle.packed.specs.Format.{times}
use Rattle.packed.specs.Formats.{labels}
use Rattle.packed.specs.Writing.{Writing}
use Rattle.packed.proofs.record.write_labels.Given as goal

abbrev pub invariant-loop : goal.invariant-loop
invariant-loop l = (length l.out ≡ length l.initial.out) × (l.at + 32 * (l.n - l.counter) ≡ l.start + 32 * l.n) × Writing (times l.n labels) l.words l.first l.initial.out l.start (times (l.n - l.counter) labels) l.i l.out l.at
