-- Coverage and the chosen views, from the table of masks: 16 for each edge of the query, one for each view. A set of views says which of them may
-- be used.
use Rattle.std.specs.Prelude.{ℕ, zero, suc, ◌+◌, ◌-◌, ◌*◌, ◌%◌, ◌^◌, ◌<◌, ◌≡◌, List, [], ◌∷◌, Bool, true, false, not, ◌&&◌, ◌||◌, get_or, eqb, ltb}
use Rattle.packed.specs.Format.{pick}
use Rattle.engine.specs.Simulation.{bit}

-- whether the view a matches the edge e: some edge of it does
unfoldable pub matches : List ℕ → ℕ → ℕ → Bool
matches t e a = not (eqb (get_or t (16 * e + a) 0) 0)

-- whether one of the first k views that are in the set matches the edge e
unfoldable pub matched_in : List ℕ → ℕ → ℕ → ℕ → Bool
matched_in t set e zero = false
matched_in t set e (suc k) = matched_in t set e k || (bit set k && matches t e k)

-- whether the views in the set, of k, match each of the first m edges
unfoldable pub covers_in : List ℕ → ℕ → ℕ → ℕ → Bool
covers_in t set k zero = true
covers_in t set k (suc m) = covers_in t set k m && matched_in t set m k

-- all views
abbrev pub every_view : ℕ
every_view = 65535

-- the words of a table from place k on, with the columns of the views in the set alone: elsewhere they are zero
unfoldable pub columns_from : ℕ → ℕ → List ℕ → List ℕ
columns_from set k [] = []
columns_from set k (x ∷ t) = pick (bit set (k % 16)) x 0 ∷ columns_from set (suc k) t

abbrev pub columns_in : ℕ → List ℕ → List ℕ
columns_in set t = columns_from set 0 t

-- whether the view a matches one of the first m edges that no view of the set below a does
unfoldable pub adds_to : List ℕ → ℕ → ℕ → ℕ → Bool
adds_to t set a zero = false
adds_to t set a (suc m) = adds_to t set a m || (matches t m a && not (matched_in t set m a))

-- going up the catalogue: a view of the set is taken if it matches an edge not matched before
unfoldable pub taken : List ℕ → ℕ → ℕ → ℕ → ℕ
taken t set m zero = 0
taken t set m (suc a) = pick (bit set a && adds_to t (taken t set m a) a m) (taken t set m a + 2 ^ a) (taken t set m a)

-- going up again: a view is dropped if those still kept, of k, cover the query without it
unfoldable pub kept : List ℕ → ℕ → ℕ → ℕ → ℕ → ℕ
kept t m k set zero = set
kept t m k set (suc a) =
    pick (bit (kept t m k set a) a && covers_in t (kept t m k set a - 2 ^ a) k m) (kept t m k set a - 2 ^ a) (kept t m k set a)

-- the views chosen from the set: none for a query that it doesn't cover
unfoldable pub chosen : List ℕ → ℕ → ℕ → ℕ → ℕ
chosen t set m k = pick (covers_in t set k m) (kept t m k (taken t set m k) k) 0

-- the lowest of m edges that no view of the set matches, or m
unfoldable pub lowest_unmatched : List ℕ → ℕ → ℕ → ℕ → ℕ
lowest_unmatched t set k zero = 0
lowest_unmatched t set k (suc m) = pick (ltb (lowest_unmatched t set k m) m) (lowest_unmatched t set k m) (pick (matched_in t set m k) (suc m) m)

-- inner: e is a number below m that passes the test
abbrev pub Passing : (ℕ → Bool) → ℕ → ℕ → Type 0
Passing p m e = (e < m) × (p e ≡ true)

-- the views that answer a query: those chosen from the set, or the whole set where it doesn't cover the query
unfoldable pub used : List ℕ → ℕ → ℕ → ℕ → ℕ
used t set m k = pick (covers_in t set k m) (chosen t set m k) set
