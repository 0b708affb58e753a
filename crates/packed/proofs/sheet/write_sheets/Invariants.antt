-- `packed::sheet::write_sheets` meets its contract. The invariant: what is left is the book from its next sheet on, and each sheet took at most 800000 bytes.
use mathlib.Core.Path.{◌≡◌}
use Prim.Native.Nat.{◌*◌, ◌≤◌}
use lib.ListN.{length}
use Rattle.packed.specs.Formats.{book}
use Rattle.packed.specs.Writing.{Writing}
use Rattle.packed.proofs.Sheets.{book_from}
use Rattle.packed.proofs.sheet.write_sheets.Given as goal

abbrev pub invariant-loop-m : goal.invariant-loop-m
invariant-loop-m l = (l.byte ≤ 800000 * l.m-index) × (length l.out ≡ length l.initial.out) × Writing (book l.counts) l.words 0 l.initial.out 0 (book_from l.counts l.m-index) l.i l.out (8 * l.byte)
