-- The formats of the five files, in the order of the requirements.
use Rattle.std.specs.Prelude.{ℕ, zero, suc, ◌+◌, ◌*◌, ◌^◌, List, [], ◌∷◌, ◌++◌, Bool, true, false, not, ◌&&◌, ◌||◌, eqb, leb}
use Rattle.packed.specs.Format.{Format, done, ask, test, pad, then, times, whole, pick}
use Rattle.packed.specs.Limits.{pattern_nodes_most, pattern_edges_most, views_most, nodes_most, edges_most, kinds_most, count_most}
use Rattle.packed.specs.Limits.{pattern_nodes_width, pattern_edges_width, label_width, end_width, kind_width, views_width, nodes_width, edges_width, labels_width, node_width, lead_width, count_width}

-- a count: w bits, low to high, else 3
abbrev pub count_field : ℕ → ℕ → ℕ → (ℕ → Format) → Format
count_field w low high f = ask w low (suc high) 3 f

-- ---- edges ("links") in any order, each once

-- whether the edge from a to b of the kind k is among those with these fields: from, to, kind, from, to, kind, ..
unfoldable pub linked : ℕ → ℕ → ℕ → List ℕ → Bool
linked a b k [] = false
linked a b k (x ∷ []) = false
linked a b k (x ∷ y ∷ []) = false
linked a b k (x ∷ y ∷ z ∷ es) = (eqb x a && (eqb y b && eqb z k)) || linked a b k es

-- an end of an edge: w bits, one of so many nodes ("items"), else 4
abbrev pub end : ℕ → ℕ → (ℕ → Format) → Format
end w nodes f = ask w 0 nodes 4 f

-- the kind of an edge: so many bits, else 3
abbrev pub kind : ℕ → (ℕ → Format) → Format
kind wide f = ask wide 0 (2 ^ wide) 3 f

-- so many edges more, after those with these fields, with w bits for an end and wide bits for a kind: no edge stands twice (5); at the end comes last
unfoldable pub edges : ℕ → ℕ → ℕ → (List ℕ → Format) → ℕ → List ℕ → Format
edges w wide nodes last zero es = last es
edges w wide nodes last (suc more) es =
    end w nodes (λ a. end w nodes (λ b. kind wide (λ k.
    test (not (linked a b k es)) 5 (edges w wide nodes last more (es ++ (a ∷ b ∷ k ∷ []))))))

-- ---- a pattern: a query ("question") or a view ("extract")

-- whether x is an end of an edge with these fields, and whether each node below n is one
unfoldable pub is_end : ℕ → List ℕ → Bool
is_end x [] = false
is_end x (a ∷ []) = false
is_end x (a ∷ b ∷ []) = false
is_end x (a ∷ b ∷ k ∷ es) = (eqb a x || eqb b x) || is_end x es

unfoldable pub all_ends : ℕ → List ℕ → Bool
all_ends zero es = true
all_ends (suc n) es = all_ends n es && is_end n es

-- a label ("kind")
unfoldable pub label : Format
label = ask label_width 0 (2 ^ label_width) 3 (λ v. done)

-- each node is an end of some edge (7)
unfoldable pub joined : ℕ → List ℕ → Format
joined nodes es = test (all_ends nodes es) 7 done

-- the numbers of nodes and edges, the labels, the edges
unfoldable pub pattern : Format
pattern =
    count_field pattern_nodes_width 1 pattern_nodes_most (λ nodes. count_field pattern_edges_width 1 pattern_edges_most (λ number.
    then (times nodes label) (edges end_width kind_width nodes (joined nodes) number [])))

-- ---- so many patterns, each on a byte: the questions of one call
abbrev pub patterns : ℕ → Format
patterns number = times number (whole pattern)

-- ---- a catalogue: the number of views, and the views, each on a byte
unfoldable pub catalogue : Format
catalogue = count_field views_width 0 views_most (λ number. pad (patterns number))

-- ---- pairs of nodes, in order: what a sheet lists

-- the code of a pair
abbrev pub code : ℕ → ℕ → ℕ
code a b = a * nodes_most + b

-- so many pairs of numbers that a node can have (3), each pair with a code of at least least (6)
unfoldable pub pairs : ℕ → ℕ → Format
pairs zero least = done
pairs (suc k) least =
    ask node_width 0 nodes_most 3 (λ a. ask node_width 0 nodes_most 3 (λ b.
    test (leb least (code a b)) 6 (pairs k (suc (code a b)))))

-- ---- a record

-- the labels of a node
unfoldable pub labels : Format
labels = ask labels_width 0 (2 ^ labels_width) 3 (λ v. done)

-- where an edge stands in the order by from, to, kind
abbrev pub rank : ℕ → ℕ → ℕ → ℕ
rank a b k = code a b * kinds_most + k

-- so many edges, each end one of so many nodes (4), and each edge of at least the rank least (6)
unfoldable pub rising : ℕ → ℕ → ℕ → Format
rising nodes zero least = done
rising nodes (suc n) least =
    end node_width nodes (λ a. end node_width nodes (λ b. kind kind_width (λ k.
    test (leb least (rank a b k)) 6 (rising nodes n (suc (rank a b k))))))

-- the numbers of nodes and edges, the labels, the edges, each after the one before
unfoldable pub record' : Format
record' =
    count_field nodes_width 0 nodes_most (λ nodes. count_field edges_width 0 edges_most (λ number.
    then (times nodes labels) (rising nodes number 0)))

-- ---- a sheet: the match sets of a pattern with m edges

-- so many lists, each a count that is not zero (8) and so many pairs
unfoldable pub lists : ℕ → Format
lists zero = done
lists (suc m) = count_field count_width 0 count_most (λ n. test (not (eqb n 0)) 8 (then (pairs n 0) (lists m)))

-- how many of the m lists stand, by the lead ("one bit") of the sheet: none after a 0, which says that nothing was found, and all after a 1
unfoldable pub standing : ℕ → ℕ → ℕ
standing lead m = pick (eqb lead 0) 0 m

-- the lead, and the lists
unfoldable pub sheet : ℕ → Format
sheet m = ask lead_width 0 (2 ^ lead_width) 3 (λ lead. lists (standing lead m))

-- ---- a book: a sheet for each view, whose numbers of edges are listed, each on a byte
unfoldable pub book : List ℕ → Format
book [] = done
book (m ∷ ms) = then (whole (sheet m)) (book ms)
