-- The part of a query that the views do answer, and its answer from a book.
use Rattle.std.specs.Prelude.{ℕ, List, ◌∷◌, length, ltb}
use Rattle.packed.specs.Format.{pick}
use Rattle.packed.specs.Calls.{Outcome, give, refuse, judged, read_book, within_pairs}
use Rattle.engine.specs.Lists.{some}
use Rattle.engine.specs.Simulation.{Pattern, pattern_of}
use Rattle.matching.specs.Offered.{Brought}
use Rattle.matching.specs.Join.{matched}
use Rattle.matching.specs.Part.{part_of, pattern_fields, pattern_bytes}
use Rattle.containment.specs.Quote.{Quoted, quoted, usable_views, used_by}
use Rattle.containment.specs.Answer.{answer_for}

-- "its matched links, with their items renumbered upward": the edges that a usable view matches; and the same in bytes
unfoldable pub part_from : Quoted → Pattern
part_from x = part_of (matched (pattern_of x.content) (usable_views x)) (pattern_of x.content)

abbrev pub part_bytes : Quoted → List ℕ
part_bytes x = pattern_bytes (part_from x)

-- the part in the place of the query
abbrev pub part_quoted : Quoted → Quoted
part_quoted x = record { content = pattern_fields (part_from x); offer = x.offer; usable = x.usable }

-- the outcome with p as its first output
unfoldable pub with_first : List ℕ → Outcome → Outcome
with_first p (give values outputs) = give values (p ∷ outputs)
with_first p (refuse n d) = refuse n d

-- the part and what it is answered by itself: 12 where the part doesn't fit, and then what falls to its answer
unfoldable pub fit_part : ℕ → List ℕ → Outcome → Outcome
fit_part room p answer = pick (ltb room (length p)) (refuse 12 (length p)) (with_first p answer)

-- the book is judged after the question and the catalogue: 10, and 11 where no edge is matched; the part is answered "from the book by the part's own quote"
unfoldable pub part_for : List ℕ → ℕ → ℕ → Quoted → Outcome
part_for b room room' x =
    judged (read_book x.offer.content b) (λ bs.
    within_pairs x.offer.content bs
    (pick (some (matched (pattern_of x.content) (usable_views x)) (pattern_of x.content).edges)
    (fit_part room (part_bytes x) (answer_for used_by b room' (part_quoted x)))
    (refuse 11 0)))

-- the part of the question q that the views of the catalogue c answer, and its answer from the book b
unfoldable pub part_outcome : List ℕ → Brought → List ℕ → ℕ → ℕ → Outcome
part_outcome q c b room room' = quoted q c (part_for b room room')
