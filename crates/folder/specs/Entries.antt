-- The entries of an index and the bytes of its file: two bytes an entry, most significant first.
use Rattle.std.specs.Prelude.{ℕ, zero, suc, ◌+◌, ◌*◌, ◌/◌, ◌%◌, List, [], ◌∷◌}

-- the bytes of entries, two for each
unfoldable pub entry_bytes : List ℕ → List ℕ
entry_bytes [] = []
entry_bytes (x ∷ es) = x / 256 ∷ x % 256 ∷ entry_bytes es

-- the entries of bytes, one for every two; an odd byte at the end is none
unfoldable pub entries_of : List ℕ → List ℕ
entries_of [] = []
entries_of (b ∷ []) = []
entries_of (high ∷ low ∷ bs) = (256 * high + low) ∷ entries_of bs

-- inner: the first byte of the entry x at 0, and the second elsewhere
unfoldable pub byte_of : ℕ → ℕ → ℕ
byte_of x zero = x / 256
byte_of x (suc n) = x % 256
