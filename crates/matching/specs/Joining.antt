-- inner: what the join leaves in the workspace, where a table and a set say which lists of a book are asked.
use Rattle.std.specs.Prelude.{ℕ, ◌<◌, ◌≡◌, List}
use Rattle.packed.specs.Limits.{pattern_nodes_most}
use Rattle.packed.specs.Matches.{matches_of}
use Rattle.packed.specs.declared.by_value.Pattern.{Pattern as Given}
use Rattle.engine.specs.Lists.{In}
use Rattle.engine.specs.Simulation.{Pair}
use Rattle.engine.specs.Loaded.{given_edge, pattern_in, Edges}
use Rattle.matching.specs.Join.{View, pair_of, candidates, answer_sets}
use Rattle.matching.specs.Components.{Holds, Ran, Pruned}
use Rattle.matching.specs.Candidates.{BookListing}

-- the book's lists, by the table t, have the candidates that the views vs give
pub record Agrees (q : Given) (t : List ℕ) (set : ℕ) (s counts : List ℕ) (k : ℕ) (vs : List View) : Type 0 where
  pub to : (e c : ℕ) → e < q.edges → BookListing s counts k t set q.edges c e → In (pair_of c) (candidates (pattern_in q) vs (given_edge q e))
  pub from : (e : ℕ) (f : Pair) → e < q.edges → In f (candidates (pattern_in q) vs (given_edge q e)) → (c : ℕ) × (f ≡ pair_of c) × BookListing s counts k t set q.edges c e

-- the pairs are marked with the edges that keep them, for whatever views the table and the set stand for; this came about by steps (specs/Components.antt), as
-- many as settle all nodes, from words that held the candidates that these views give, and by pruning both ways from what the steps left
pub record Joined (q : Given) (t : List ℕ) (set : ℕ) (s counts : List ℕ) (k d : ℕ) (w w' : List ℕ) : Type 0 where
  pub edges : Edges w w'
  pub sets : (vs : List View) → Agrees q t set s counts k vs → matches_of d q.edges w' ≡ answer_sets (pattern_in q) vs
  pub start : List ℕ
  pub settled : ℕ
  pub held : (vs : List View) → Agrees q t set s counts k vs → Holds q d start (candidates (pattern_in q) vs)
  pub middle : List ℕ
  pub ran : Ran q d pattern_nodes_most start settled middle
  pub pruned : Pruned q d middle w'
