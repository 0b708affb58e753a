-- Patterns, data graphs, the greatest simulation and the match sets.
use Rattle.std.specs.Prelude.{◌≡◌, Bool, true, false, cond, List, [], ◌∷◌, ℕ, ◌+◌, ◌/◌, ◌%◌, ◌^◌, ◌<◌, length, get_or, take, drop, T, eqb, ltb}
use Rattle.packed.specs.Formats.{code}
use Rattle.packed.specs.Contents.{nodes_of, distinct}
use Rattle.packed.specs.declared.by_value.Pattern.{Pattern as Given}
use Rattle.engine.specs.Lists.{◌and◌, ◌or◌, ◌implies◌, In, every, some, keep, gather, each, below, up_to}
use Rattle.engine.specs.Greatest.{greatest}

-- two numbers: a node of a pattern and a node of a graph, or what a sheet lists of an edge of a graph, its ends
abbrev pub Pair : Type 0
Pair = ℕ × ℕ

unfoldable pub same : Pair → Pair → Bool
same a b = eqb a.0 b.0 and eqb a.1 b.1

unfoldable pub has : Pair → List Pair → Bool
has a l = some (same a) l

unfoldable pub every_pair : ℕ → ℕ → List Pair
every_pair n m = gather (λ u. each (λ v. (u, v)) (below m)) (below n)

-- an edge ("link") of a pattern or of a graph, with its kind, which is its label: all its fields tell it from another, and one test compares them
pub record Edge : Type 0 where
  pub from : ℕ
  pub to : ℕ
  pub kind : ℕ

unfoldable pub same_edge : Edge → Edge → Bool
same_edge e f = eqb e.from f.from and (eqb e.to f.to and eqb e.kind f.kind)

-- the edge from a to b of the kind k
abbrev pub between : ℕ → ℕ → ℕ → Edge
between a b k = record { from = a; to = b; kind = k }

-- its ends, as a sheet lists them
abbrev pub as_pair : Edge → Pair
as_pair e = (e.from, e.to)

-- what stands for an edge beyond the last
abbrev pub no_edge : Edge
no_edge = between 0 0 0

-- bit k of the mask m
unfoldable pub bit : ℕ → ℕ → Bool
bit m k = eqb (m / 2 ^ k % 2) 1

-- by which rule a pattern is matched: by the edges that leave a node alone, or also by those that arrive at it
pub data Rule : Type 0 where
  one_way : Rule
  both_ways : Rule

-- whether a rule asks for the edges that arrive
unfoldable pub asks_arrivals : Rule → Bool
asks_arrivals one_way = false
asks_arrivals both_ways = true

-- a pattern: node ("item") u has the label ("kind") labels[u]; its edges are its links; it is matched by its rule
pub record Pattern : Type 0 where
  pub labels : List ℕ
  pub edges : List Edge
  pub rule : Rule

-- the pattern, matched by the rule r
abbrev pub ruled : Rule → Pattern → Pattern
ruled r P = record { labels = P.labels; edges = P.edges; rule = r }

-- a data graph, which is what a record means: node v has each label whose bit is set in labels[v]
pub record Graph : Type 0 where
  pub labels : List ℕ
  pub edges : List Edge

-- edges by their fields: from, to, kind, from, to, kind, ..
unfoldable pub edges_in : List ℕ → List Edge
edges_in [] = []
edges_in (a ∷ []) = []
edges_in (a ∷ b ∷ []) = []
edges_in (a ∷ b ∷ k ∷ es) = between a b k ∷ edges_in es

-- what the content of a pattern and of a record mean: patterns are matched both ways
unfoldable pub pattern_of : List ℕ → Pattern
pattern_of ws = record { labels = take (nodes_of ws) (drop 2 ws); edges = edges_in (drop (2 + nodes_of ws) ws); rule = both_ways }

unfoldable pub graph_of : List ℕ → Graph
graph_of ws = record { labels = take (nodes_of ws) (drop 2 ws); edges = edges_in (drop (2 + nodes_of ws) ws) }

-- the edge number e of a pattern that is given by value, and what that pattern means
abbrev pub given_edge : Given → ℕ → Edge
given_edge p e = between (get_or p.from e 0) (get_or p.to e 0) (get_or p.kind e 0)

unfoldable pub pattern_in : Given → Pattern
pattern_in p = record { labels = take p.nodes p.labels; edges = up_to (given_edge p) p.edges; rule = both_ways }

-- a pattern read as a graph ("read the question as a record"): each node has its own label alone
unfoldable pub as_graph : Pattern → Graph
as_graph Q = record { labels = each (λ k. 2 ^ k) Q.labels; edges = Q.edges }

-- the nodes x.0 of P and x.1 of G are there, and the second has the label of the first
unfoldable pub fits : Pattern → Graph → Pair → Bool
fits P G x =
    ltb x.0 (length P.labels) and (ltb x.1 (length G.labels) and bit (get_or G.labels x.1 0) (get_or P.labels x.0 0))

-- R is a simulation of P in G: partners have the label, and each edge that leaves u is followed by one of its kind that leaves its partner, to a partner;
-- where P is matched both ways, also each edge that arrives at u is followed by one of its kind that arrives at its partner, from a partner
pub record IsSim (P : Pattern) (G : Graph) (R : ℕ → ℕ → Type 0) : Type 0 where
  pub fit : (u v : ℕ) → R u v → T (fits P G (u, v))
  pub follow : (u v : ℕ) → R u v → (e : Edge) → In e P.edges → e.from ≡ u
      → (f : Edge) × In f G.edges × (f.from ≡ v) × (f.kind ≡ e.kind) × R e.to f.to
  pub arrive : P.rule ≡ both_ways → (u v : ℕ) → R u v → (e : Edge) → In e P.edges → e.to ≡ u
      → (f : Edge) × In f G.edges × (f.to ≡ v) × (f.kind ≡ e.kind) × R e.from f.from

-- the pair f matches the edge e of P, where R relates nodes of P to their partners in G: every node of P has a partner, and f has the two ends of an edge of G of
-- the kind of e, which are partners of the ends of e
pub record MatchingBy (R : ℕ → ℕ → Type 0) (P : Pattern) (G : Graph) (e : Edge) (f : Pair) : Type 0 where
  pub whole : (u : ℕ) → u < length P.labels → (v : ℕ) × R u v
  pub link : Edge
  pub edge : In link G.edges
  pub kind : link.kind ≡ e.kind
  pub ends : f ≡ as_pair link
  pub tail : R e.from f.0
  pub head : R e.to f.1

-- the tests of a simulation: each edge of P that leaves x.0 is followed by one of G of its kind that leaves x.1, to a partner in l
unfoldable pub follows_out : Pattern → Graph → List Pair → Pair → Bool
follows_out P G l x =
    every
    (λ e. eqb e.from x.0 implies some (λ f. eqb f.from x.1 and (eqb f.kind e.kind and has (e.to, f.to) l)) G.edges)
    P.edges

-- each edge of P that arrives at x.0 is followed by one of G of its kind that arrives at x.1, from a partner in l
unfoldable pub follows_in : Pattern → Graph → List Pair → Pair → Bool
follows_in P G l x =
    every
    (λ e. eqb e.to x.0 implies some (λ f. eqb f.to x.1 and (eqb f.kind e.kind and has (e.from, f.from) l)) G.edges)
    P.edges

-- as the rule of P asks: of the edges that leave, and both ways also of those that arrive
unfoldable pub follows : Pattern → Graph → List Pair → Pair → Bool
follows P G l x = follows_out P G l x and (asks_arrivals P.rule implies follows_in P G l x)

-- the greatest simulation of P in G
unfoldable pub sim : Pattern → Graph → List Pair
sim P G = greatest (follows P G) (keep (fits P G) (every_pair (length P.labels) (length G.labels)))

-- every node of P has a partner
unfoldable pub total : Pattern → List Pair → Bool
total P s = every (λ u. some (λ x. eqb x.0 u) s) (below (length P.labels))

-- the edges of G of the kind of e both of whose ends are partners of the ends of e, as a sheet lists them
unfoldable pub row : Graph → List Pair → Edge → List Pair
row G s e = each as_pair (keep (λ f. eqb f.kind e.kind and (has (e.from, f.from) s and has (e.to, f.to) s)) G.edges)

-- pairs by their codes, ascending
unfoldable pub ascending : List Pair → List ℕ
ascending l = distinct (each (λ f. code f.0 f.1) l)

-- the match sets of P in G: a list for each edge of P, all empty where some node of P has no partner
unfoldable pub match_sets : Pattern → Graph → List (List ℕ)
match_sets P G = let s = sim P G in let b = total P s in each (λ e. ascending (cond b (row G s e) [])) P.edges

-- the sheet that the view ("extract") P has on the graph G, on a record as on a query: a list for each edge of P, by the rule of P
unfoldable pub view_sheet : Pattern → Graph → List (List ℕ)
view_sheet P G = match_sets P G

-- each edge's ends are nodes, and each node is an end of an edge
unfoldable pub sound : Pattern → Bool
sound P =
    every (λ e. ltb e.from (length P.labels) and ltb e.to (length P.labels)) P.edges
    and every (λ u. some (λ e. eqb e.from u or eqb e.to u) P.edges) (below (length P.labels))
