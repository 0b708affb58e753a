-- `packed::catalogue::write_patterns` meets its contract.
use mathlib.Core.Path.{◌≡◌}
use Prim.Native.Nat.{◌+◌, ◌*◌, ◌≤◌, ◌-◌}
use lib.ListN.{length}
use Rattle.packed.specs.Format.{times, whole}
use Rattle.packed.specs.Formats.{pattern}
use Rattle.packed.specs.Writing.{Writing}
use Rattle.packed.proofs.catalogue.write_patterns.Given as goal

abbrev pub invariant-loop : goal.invariant-loop
invariant-loop l =
    (l.byte + 56 * (l.number - l.counter) ≤ l.start + 56 * l.number) × (length l.out ≡ length l.initial.out)
    × Writing (times l.number (whole pattern)) l.words l.first l.initial.out (8 * l.start) (times (l.number - l.counter) (whole pattern)) l.i l.out (8 * l.byte)
