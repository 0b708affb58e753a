-- Showing why a query is not covered: the query read as a record, and the same without its lowest unmatched edge.
use Rattle.std.specs.Prelude.{ℕ, ◌+◌, ◌*◌, ◌/◌, ◌^◌, List, ◌∷◌, ◌++◌, map, length, take, drop}
use Rattle.packed.specs.Format.{pick}
use Rattle.packed.specs.Contents.{nodes_of, sorted_edges}
use Rattle.packed.specs.Calls.{Outcome, refuse, record_bytes, fit_both}
use Rattle.matching.specs.Offered.{Brought}
use Rattle.containment.specs.Quote.{Quoted, quoted, covering, lowest_left}

-- the query with content ws read as a record with these edges, by their fields: each node has its own label alone, and the edges ascend
unfoldable pub as_record : List ℕ → List ℕ → List ℕ
as_record ws es = nodes_of ws ∷ length es / 3 ∷ (map (λ k. 2 ^ k) (take (nodes_of ws) (drop 2 ws)) ++ sorted_edges es)

-- the content of the query read as a record
unfoldable pub graph_fields : List ℕ → List ℕ
graph_fields ws = as_record ws (drop (2 + nodes_of ws) ws)

-- the same without the edge e
unfoldable pub fewer_fields : List ℕ → ℕ → List ℕ
fewer_fields ws e = as_record ws (take (3 * e) (drop (2 + nodes_of ws) ws) ++ drop (2 + nodes_of ws + 3 * e + 3) ws)

-- 13 where the usable views cover the query
unfoldable pub show_for : ℕ → ℕ → Quoted → Outcome
show_for room room' x =
    pick (covering x x.usable) (refuse 13 0)
    (fit_both room room' (record_bytes (graph_fields x.content)) (record_bytes (fewer_fields x.content (lowest_left x x.usable))))

unfoldable pub show_outcome : List ℕ → Brought → ℕ → ℕ → Outcome
show_outcome q c room room' = quoted q c (show_for room room')
