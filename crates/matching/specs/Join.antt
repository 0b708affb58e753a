-- A query's answer from its views' sheets.
use Rattle.std.specs.Prelude.{Bool, false, cond, not, List, [], ◌∷◌, ◌++◌, ℕ, ◌/◌, ◌%◌, eqb}
use Rattle.packed.specs.Formats.{code}
use Rattle.packed.specs.Contents.{member}
use Rattle.engine.specs.Lists.{◌and◌, ◌or◌, ◌implies◌, every, some, keep, gather, each}
use Rattle.engine.specs.Greatest.{greatest}
use Rattle.engine.specs.Simulation.{Pair, Edge, same_edge, asks_arrivals, Pattern, Graph, as_graph, ascending, view_sheet}

-- ---- answering

-- a view ("extract") and the lists of its sheet, by codes
pub record View : Type 0 where
  pub pattern : Pattern
  pub sheet : List (List ℕ)

-- the pair of a code
unfoldable pub pair_of : ℕ → Pair
pair_of c = (c / 4096, c % 4096)

-- the edge g of a view, whose list is l, matches the edge e: it has the kind of e, and the list has the ends of e
unfoldable pub is_match : Edge → Edge → List ℕ → Bool
is_match e g l = eqb g.kind e.kind and member (code e.from e.to) l

-- one of the edges gs, each with its list, matches e
unfoldable pub some_match : Edge → List Edge → List (List ℕ) → Bool
some_match e [] ls = false
some_match e (g ∷ gs) [] = false
some_match e (g ∷ gs) (l ∷ ls) = is_match e g l or some_match e gs ls

-- the edge e of the query ("question") Q is matched by an edge of the view P, by its list on Q read as a graph; by an edge of one of the views
unfoldable pub matched_by : Pattern → Edge → Pattern → Bool
matched_by Q e P = some_match e P.edges (view_sheet P (as_graph Q))

unfoldable pub matched : Pattern → List Pattern → Edge → Bool
matched Q Ps e = some (matched_by Q e) Ps

-- every edge of the query is matched by a view
unfoldable pub covered : Pattern → List Pattern → Bool
covered Q Ps = every (matched Q Ps) Q.edges

-- what the second sheet lists under those of the edges gs that match e by the first
unfoldable pub under : Edge → List Edge → List (List ℕ) → List (List ℕ) → List ℕ
under e [] ms ls = []
under e (g ∷ gs) [] ls = []
under e (g ∷ gs) (m ∷ ms) [] = []
under e (g ∷ gs) (m ∷ ms) (l ∷ ls) = cond (is_match e g m) l [] ++ under e gs ms ls

-- the candidates for the edge e of the query Q: the pairs listed under those edges of the views that match e, by their lists on Q read
-- as a graph
unfoldable pub candidates : Pattern → List View → Edge → List Pair
candidates Q vs e = each pair_of (gather (λ v. under e v.pattern.edges (view_sheet v.pattern (as_graph Q)) v.sheet) vs)

-- an edge of the query and a pair kept for it
abbrev pub Kept : Type 0
Kept = Edge × Pair

-- each edge of Q that leaves an end of the edge k.0 keeps some pair that begins at the same end of the pair k.1
unfoldable pub supported_out : Pattern → List Kept → Kept → Bool
supported_out Q l k =
    every
    (λ g.
    (eqb g.from k.0.from implies some (λ j. same_edge j.0 g and eqb j.1.0 k.1.0) l)
    and (eqb g.from k.0.to implies some (λ j. same_edge j.0 g and eqb j.1.0 k.1.1) l))
    Q.edges

-- each edge of Q that arrives at an end of the edge k.0 keeps some pair that ends at the same end of the pair k.1
unfoldable pub supported_in : Pattern → List Kept → Kept → Bool
supported_in Q l k =
    every
    (λ g.
    (eqb g.to k.0.from implies some (λ j. same_edge j.0 g and eqb j.1.1 k.1.0) l)
    and (eqb g.to k.0.to implies some (λ j. same_edge j.0 g and eqb j.1.1 k.1.1) l))
    Q.edges

-- the one test of whether a pair may be kept for an edge, as the rule of Q asks: by the edges that leave its ends, and both ways also by those that arrive
unfoldable pub supported : Pattern → List Kept → Kept → Bool
supported Q l k = supported_out Q l k and (asks_arrivals Q.rule implies supported_in Q l k)

-- candidates for each edge, from wherever they come
abbrev pub Offer : Type 0
Offer = Edge → List Pair

-- the greatest choice of pairs from candidates that is so supported
abbrev pub choice : Pattern → Offer → List Kept
choice Q cs = greatest (supported Q) (gather (λ e. each (λ f. (e, f)) (cs e)) Q.edges)

unfoldable pub join : Pattern → List View → List Kept
join Q vs = choice Q (candidates Q vs)

-- every edge of Q keeps some pair
unfoldable pub complete : Pattern → List Kept → Bool
complete Q ks = every (λ e. some (λ j. same_edge j.0 e) ks) Q.edges

-- the pairs kept for the edge e
unfoldable pub kept_for : List Kept → Edge → List Pair
kept_for ks e = each (λ j. j.1) (keep (λ j. same_edge j.0 e) ks)

-- the answer to Q from the sheets of views: a list for each edge of Q, all empty where some edge keeps none
unfoldable pub answer_sets : Pattern → List View → List (List ℕ)
answer_sets Q vs = let ks = join Q vs in let b = complete Q ks in each (λ e. ascending (cond b (kept_for ks e) [])) Q.edges

-- ---- showing

-- the graph without the edge e
unfoldable pub without : Edge → Graph → Graph
without e G = record { labels = G.labels; edges = keep (λ f. not (same_edge e f)) G.edges }
