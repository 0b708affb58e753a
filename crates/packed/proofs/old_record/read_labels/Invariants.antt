-- `packed::old_record::read_labels` meets its contract. The loop: what was read so far, then the labels that are left.
use mathlib.Core.Path.{◌≡◌}
use Prim.Native.Nat.{◌+◌, ◌*◌, ◌-◌}
use lib.ListN.{length}
use Rattle.packed.specs.Format.{times}
use Rattle.packed.specs.Formats.{labels}
use Rattle.packed.specs.Reading.{Reading}
use Rattle.packed.proofs.old_record.read_labels.Given as goal

abbrev pub invariant-loop : goal.invariant-loop
invariant-loop l = (length l.words ≡ length l.initial.words) × Reading (times l.n labels) l.s l.start l.initial.words l.first (times (l.n - l.counter) labels) l.at l.words l.i × (l.at + 32 * (l.n - l.counter) ≡ l.start + 32 * l.n)
