-- Answering a query from a book: the views in a set, each with its sheet, are joined.
use Rattle.std.specs.Prelude.{ℕ, ◌/◌, List, [], ◌∷◌, drop, get_or}
use Rattle.packed.specs.Format.{pick}
use Rattle.packed.specs.Contents.{edge_counts, sheets_in}
use Rattle.packed.specs.Calls.{Outcome, refuse, judged, read_book, within_pairs, fit_file}
use Rattle.engine.specs.Simulation.{Pattern, bit, pattern_of}
use Rattle.matching.specs.Join.{View, answer_sets}
use Rattle.matching.specs.Offered.{Brought, view_patterns}
use Rattle.matching.specs.Search.{sheet_bytes}
use Rattle.containment.specs.Quote.{Quoted, quoted, covering, lowest_left, used_by}

-- those of the views that are in the set, each with its sheet
unfoldable pub views_in : ℕ → List Pattern → List (List (List ℕ)) → List View
views_in set [] sheets = []
views_in set (P ∷ Ps) sheets =
    pick (bit set 0) (record { pattern = P; sheet = get_or sheets 0 [] } ∷ views_in (set / 2) Ps (drop 1 sheets)) (views_in (set / 2) Ps (drop 1 sheets))

-- the answer to the query with content qs from the sheets of the views in the set, as a sheet
unfoldable pub answer_bytes : List ℕ → ℕ → List Pattern → List (List (List ℕ)) → List ℕ
answer_bytes qs set Ps sheets = sheet_bytes (answer_sets (pattern_of qs) (views_in set Ps sheets))

-- answering by the views in a set: 10, 11 with the lowest edge that they leave unmatched, 12
unfoldable pub answer_in : ℕ → Quoted → List ℕ → ℕ → Outcome
answer_in set x bs room =
    within_pairs x.offer.content bs
    (pick (covering x set)
    (fit_file room (answer_bytes x.content set (view_patterns x.offer) (sheets_in (edge_counts x.offer.content) bs)))
    (refuse 11 (lowest_left x set)))

-- a set of views, from what was judged
abbrev pub Choose : Type 0
Choose = Quoted → ℕ

-- the book is judged after the question and the catalogue
unfoldable pub answer_for : Choose → List ℕ → ℕ → Quoted → Outcome
answer_for choose b room x = judged (read_book x.offer.content b) (λ bs. answer_in (choose x) x bs room)

unfoldable pub answer_by : Choose → List ℕ → Brought → List ℕ → ℕ → Outcome
answer_by choose q c b room = quoted q c (answer_for choose b room)

-- answering by a set that the client names: all of it gives the candidates
abbrev pub answer_from : List ℕ → Brought → ℕ → List ℕ → ℕ → Outcome
answer_from q c set b room = answer_by (λ x. set) q c b room

-- answering by those chosen from all views
abbrev pub answer_outcome : List ℕ → Brought → List ℕ → ℕ → Outcome
answer_outcome q c b room = answer_by used_by q c b room
