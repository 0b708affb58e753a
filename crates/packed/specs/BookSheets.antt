-- inner: where the sheets of a book and their lists stand among its bits.
use Rattle.std.specs.Prelude.{ℕ, zero, suc, List, [], ◌∷◌}
use Rattle.packed.specs.Walks.{codes_at, list_first, list_count, lists_end, sheet_end}

-- the codes of the list f of those from a bit offset on
unfoldable pub list_at : List ℕ → ℕ → ℕ → List ℕ
list_at s at f = codes_at s (list_first (lists_end s at f)) (list_count s (lists_end s at f))

-- where the sheet a begins, of those from a bit offset on
unfoldable pub sheet_at : List ℕ → ℕ → List ℕ → ℕ → ℕ
sheet_at s at ms zero = at
sheet_at s at [] (suc a) = at
sheet_at s at (m ∷ ms) (suc a) = sheet_at s (sheet_end s at m) ms a
