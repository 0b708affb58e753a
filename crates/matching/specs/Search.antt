-- What the calls of this crate answer.
use Rattle.std.specs.Prelude.{List, [], ◌∷◌, ◌++◌, ℕ, length}
use Rattle.packed.specs.Format.{encode}
use Rattle.packed.specs.Formats.{sheet}
use Rattle.packed.specs.Contents.{sheet_fields}
use Rattle.packed.specs.Calls.{Outcome, judged, read_pattern, read_record, fit_file, bytes_in}
use Rattle.engine.specs.Lists.{each}
use Rattle.engine.specs.Simulation.{Pattern, Graph, pattern_of, graph_of, match_sets, view_sheet}
use Rattle.matching.specs.Offered.{Brought, Offered, view_patterns, offered}

-- a sheet with these lists, in bytes
unfoldable pub sheet_bytes : List (List ℕ) → List ℕ
sheet_bytes ls = bytes_in (encode (sheet (length ls)) (sheet_fields ls))

-- sheets laid out as a book: each starts on the byte after the one before
unfoldable pub book_bytes : List (List (List ℕ)) → List ℕ
book_bytes [] = []
book_bytes (ls ∷ sheets) = sheet_bytes ls ++ book_bytes sheets

-- searching a record for a pattern: the pattern's sheet
abbrev pub search_for : Pattern → List ℕ → ℕ → Outcome
search_for P r room = judged (read_record r) (λ rs. fit_file room (sheet_bytes (match_sets P (graph_of rs))))

unfoldable pub search_outcome : List ℕ → List ℕ → ℕ → Outcome
search_outcome p r room = judged (read_pattern p) (λ ps. search_for (pattern_of ps) r room)

-- the sheets of a catalogue's views on a record, each by its own rule
unfoldable pub view_sheets : Offered → Graph → List (List (List ℕ))
view_sheets o G = each (λ P. view_sheet P G) (view_patterns o)

-- making the book of a catalogue from a record
abbrev pub book_for : Offered → List ℕ → ℕ → Outcome
book_for o r room = judged (read_record r) (λ rs. fit_file room (book_bytes (view_sheets o (graph_of rs))))

unfoldable pub make_book_outcome : Brought → List ℕ → ℕ → Outcome
make_book_outcome c r room = offered c (λ o. book_for o r room)
