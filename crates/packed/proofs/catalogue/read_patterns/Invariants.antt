-- `packed::catalogue::read_patterns` meets its contract.
use mathlib.Core.Path.{◌≡◌}
use Prim.Native.Nat.{◌+◌, ◌*◌, ◌≤◌, ◌-◌}
use lib.ListN.{length}
use Rattle.packed.specs.Format.{times, whole}
use Rattle.packed.specs.Formats.{pattern}
use Rattle.packed.specs.Reading.{Reading}
use Rattle.packed.proofs.catalogue.read_patterns.Given as goal

abbrev pub invariant-loop : goal.invariant-loop
invariant-loop l =
    (l.i + 114 * (l.number - l.counter) ≤ l.first + 114 * l.number) × (length l.words ≡ length l.initial.words)
    × Reading (times l.number (whole pattern)) l.s (8 * l.start) l.initial.words l.first (times (l.number - l.counter) (whole pattern)) (8 * l.byte) l.words l.i
