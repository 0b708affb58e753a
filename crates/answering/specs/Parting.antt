-- inner: what the steps of making a part of a query promise one another. A mask says which of its edges are taken.
use Rattle.std.specs.Prelude.{ℕ, ◌/◌, ◌<◌, ◌≤◌, ◌≡◌, Bool, ◌⊎◌, List, ◌++◌, length, get_or, T}
use Rattle.packed.specs.declared.by_value.Pattern.{Pattern as Given}
use Rattle.engine.specs.Lists.{up_to, each}
use Rattle.engine.specs.Simulation.{Edge, bit}
use Rattle.engine.specs.Masks.{Has, Mask, OneOf}
use Rattle.engine.specs.Loaded.{given_edge}
use Rattle.matching.specs.Part.{rank, at_places, moved, edge_fields}
use Rattle.containment.specs.Choice.{Passing, matched_in}
use Rattle.containment.specs.Quote.{table_of}
use Rattle.containment.specs.Steps.{Query, ViewCounts, quoted_as, Loaded, HoldsFields}
use Rattle.containment.specs.declared.query.Fields.{Fields}

-- the node v is an end of one of the first m edges that are taken
abbrev pub EndTaken : Given → ℕ → ℕ → ℕ → Type 0
EndTaken q taken m v = OneOf m (λ e. Has taken e × ((get_or q.from e 0 ≡ v) ⊎ (get_or q.to e 0 ≡ v)))

-- the fields of those of the first m edges that are taken, between the nodes that are numbered among some
abbrev pub taken_fields : Given → ℕ → ℕ → ℕ → List ℕ
taken_fields q taken nodes m = edge_fields (each (moved (rank (bit nodes))) (at_places (bit taken) (up_to (given_edge q) m)))

-- r has these words more
abbrev pub Adds : List ℕ → Fields → Fields → Type 0
Adds more f r = (fs : List ℕ) → HoldsFields fs f → HoldsFields (fs ++ more) r

-- the mask has just those edges of the query that the test takes
abbrev pub Takes : Given → ℕ → (Edge → Bool) → Type 0
Takes q taken takes = (e : ℕ) → e < q.edges → takes (given_edge q e) ≡ bit taken e

-- the words of the table t at those of its first n places that pass the test, one after the other, in a table that is zero beyond them
pub record Picked (p : ℕ → Bool) (t : List ℕ) (n : ℕ) (r : List ℕ) : Type 0 where
  pub long : length r ≡ 512
  pub each : (k : ℕ) → k < n → T (p k) → get_or r (rank p k) 0 ≡ get_or t k 0
  pub rest : (k : ℕ) → rank p n ≤ k → get_or r k 0 ≡ 0

-- whether a place of a table with 16 columns is in the row of an edge that is taken
abbrev pub in_rows : ℕ → ℕ → Bool
in_rows taken k = bit taken (k / 16)

-- the part may be made and answered: the edges that some usable view matches are taken, and the pairs of a book stand in the workspace
pub record Partable (q : Given) (counts : List ℕ) (k : ℕ) (table : List ℕ) (usable taken : ℕ) (s : List ℕ) (d : ℕ) (w : List ℕ) : Type 0 where
  pub query : Query q
  pub views : ViewCounts counts k
  pub table_is : table ≡ table_of (quoted_as query views usable)
  pub matched : Mask (Passing (λ e. matched_in table usable e k) q.edges) taken
  pub some : taken ≡ 0 → ⊥
  pub book : Loaded views.views.content s counts k d w
