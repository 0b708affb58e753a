-- What the calls that make, check and use an index answer.
use Rattle.std.specs.Prelude.{ℕ, List, [], ◌∷◌, length, Option, None, Some}
use Rattle.std.specs.Borrow.{Bor}
use Rattle.packed.specs.Calls.{Outcome, give, judged, read_pattern, read_record, fit, fit_file}
use Rattle.engine.specs.Simulation.{Pattern, pattern_of, graph_of, match_sets}
use Rattle.engine.specs.Index.{index_of, own_index}
use Rattle.matching.specs.Search.{sheet_bytes, search_for}

-- "built from a record": "where an index is the output, 12 counts entries"
unfoldable pub make_index_outcome : List ℕ → ℕ → Outcome
make_index_outcome r room = judged (read_record r) (λ rs. fit room (index_of (graph_of rs)))

-- "checked against one": the number of its entries, if it is the record's own
unfoldable pub check_index_outcome : List ℕ → List ℕ → Outcome
check_index_outcome r index = judged (read_record r) (λ rs. own_index (index_of (graph_of rs)) index (give (length index ∷ []) []))

-- "used by the search": 16 stands "right after the record is read"
abbrev pub search_indexed_for : Pattern → List ℕ → List ℕ → ℕ → Outcome
search_indexed_for P r index room = judged (read_record r) (λ rs. own_index (index_of (graph_of rs)) index (fit_file room (sheet_bytes (match_sets P (graph_of rs)))))

unfoldable pub search_indexed_outcome : List ℕ → List ℕ → List ℕ → ℕ → Outcome
search_indexed_outcome p r index room = judged (read_pattern p) (λ ps. search_indexed_for (pattern_of ps) r index room)

-- inner: either search, by the index if there is one
abbrev pub search_by : Pattern → List ℕ → Option (Bor (List ℕ)) → ℕ → Outcome
search_by P r None room = search_for P r room
search_by P r (Some index) room = search_indexed_for P r index.now room

-- inner: the same, once the pattern is judged
abbrev pub search_by_outcome : List ℕ → List ℕ → Option (Bor (List ℕ)) → ℕ → Outcome
search_by_outcome p r index room = judged (read_pattern p) (λ ps. search_by (pattern_of ps) r index room)
