-- `packed::sheet::read_sheets` meets its contract. The invariant: what is left is the book from its next sheet on.
use mathlib.Core.Path.{◌≡◌}
use Prim.Native.Nat.{◌*◌}
use lib.ListN.{length}
use Rattle.packed.specs.Formats.{book}
use Rattle.packed.specs.Reading.{Reading}
use Rattle.packed.proofs.Sheets.{book_from}
use Rattle.packed.proofs.sheet.read_sheets.Given as goal

abbrev pub invariant-loop-m : goal.invariant-loop-m
invariant-loop-m l = (length l.words ≡ length l.initial.words) × Reading (book l.counts) l.s 0 l.initial.words 0 (book_from l.counts l.m-index) (8 * l.byte) l.words l.i
