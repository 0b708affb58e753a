-- The pattern that some of a pattern's edges are: the edges in their order, and the nodes at them, numbered upward.
use Rattle.std.specs.Prelude.{Bool, List, [], ◌∷◌, ◌++◌, ℕ, zero, suc, ◌+◌, length, eqb}
use Rattle.packed.specs.Bits.{one}
use Rattle.packed.specs.Format.{encode}
use Rattle.packed.specs.Formats.{pattern}
use Rattle.packed.specs.Calls.{bytes_in}
use Rattle.engine.specs.Lists.{◌or◌, some, put, keep, gather, each}
use Rattle.engine.specs.Simulation.{Edge, between, Pattern}

-- how many numbers below v pass the test
unfoldable pub rank : (ℕ → Bool) → ℕ → ℕ
rank t zero = 0
rank t (suc v) = one (t 0) + rank (λ i. t (suc i)) v

-- the members whose positions pass the test, in order
unfoldable pub at_places : {A : Type 0} → (ℕ → Bool) → List A → List A
at_places t [] = []
at_places t (x ∷ l) = put (t 0) x (at_places (λ i. t (suc i)) l)

-- whether the node v is an end of one of the edges es
unfoldable pub touches : List Edge → ℕ → Bool
touches es v = some (λ e. eqb e.from v or eqb e.to v) es

-- the new number of the node v: how many of the nodes below it are at the edges es
abbrev pub number : List Edge → ℕ → ℕ
number es v = rank (touches es) v

-- an edge between the nodes with the new numbers, of the same kind
abbrev pub moved : (ℕ → ℕ) → Edge → Edge
moved f e = between (f e.from) (f e.to) e.kind

-- the pattern with those edges of Q alone that the test takes ("its matched links, with their items renumbered upward", where it takes the matched
-- ones); nodes at none of them are left out, and it is matched by the rule of Q
unfoldable pub part_of : (Edge → Bool) → Pattern → Pattern
part_of takes Q =
    let es = keep takes Q.edges in
    record { labels = at_places (touches es) Q.labels; edges = each (moved (number es)) es; rule = Q.rule }

-- the fields of edges: from, to, kind, from, to, kind, ..
unfoldable pub edge_fields : List Edge → List ℕ
edge_fields es = gather (λ e. e.from ∷ e.to ∷ e.kind ∷ []) es

-- a pattern's content, and a pattern in bytes
unfoldable pub pattern_fields : Pattern → List ℕ
pattern_fields P = length P.labels ∷ length P.edges ∷ (P.labels ++ edge_fields P.edges)

unfoldable pub pattern_bytes : Pattern → List ℕ
pattern_bytes P = bytes_in (encode pattern (pattern_fields P))
