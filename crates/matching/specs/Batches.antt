-- inner: the views of an accepted catalogue c with the set one, several in one batch: each owns bits of the batch's masks.
use Rattle.std.specs.Prelude.{ℕ, ◌+◌, ◌<◌, ◌≤◌, ◌≡◌, List, [], drop, get_or, T}
use Rattle.packed.specs.Contents.{edges_of, views_of, edge_counts, word_kind}
use Rattle.packed.specs.Calls.{accepted, read_catalogue}
use Rattle.packed.specs.ByValue.{HoldsPattern}
use Rattle.packed.specs.Matches.{matches_from, sum_of}
use Rattle.packed.specs.declared.by_value.Pattern.{Pattern as Given}
use Rattle.engine.specs.Simulation.{bit, no_edge, pattern_of, view_sheet}
use Rattle.engine.specs.Loaded.{pattern_in, graph_in, Fair}
use Rattle.engine.specs.Matched.{Proper, Ahead}
use Rattle.engine.specs.Batches.{FairBatch, PartOf}
use Rattle.engine.specs.declared.batch.Batch.{Batch}
use Rattle.matching.specs.declared.batches.Filled.{Filled}
use Rattle.matching.specs.Offered.{Offered, offers, rule_in, view_at}

-- the bits of the view j begin at `at`, where the batch begins with the view a
abbrev pub StandsAt : List ℕ → ℕ → ℕ → ℕ → Type 0
StandsAt cs a j at = at + sum_of a (edge_counts cs) ≡ sum_of j (edge_counts cs)

-- the views from a on stand in the catalogue from a byte on
abbrev pub BeginsAt : List ℕ → ℕ → ℕ → Type 0
BeginsAt c a byte = (cs : List ℕ) → read_catalogue c ≡ accepted cs → Ahead c byte (drop a (views_of cs))

-- the view j is a part of the batch, its edges from `at` on
pub record ViewIn (o : Offered) (b : Batch) (j at : ℕ) : Type 0 where
  pub given : Given
  pub holds : HoldsPattern (get_or (views_of o.content) j []) given
  pub means : pattern_in given ≡ pattern_of (get_or (views_of o.content) j [])
  pub fair : Fair given
  pub proper : Proper given
  pub node : ℕ
  pub part : PartOf b (rule_in o.one_way j) given node at

-- the views a .. next of the k are in the batch, the view `next` begins on the byte
pub record Fills (c : List ℕ) (one k a : ℕ) (r : Filled) : Type 0 where
  pub fair : FairBatch r.batch
  pub some : a < r.next
  pub most : r.next ≤ k
  pub ahead : BeginsAt c r.next r.byte
  pub few : (cs : List ℕ) → read_catalogue c ≡ accepted cs → sum_of r.next (edge_counts cs) ≤ sum_of a (edge_counts cs) + 32
  pub views : (cs : List ℕ) → read_catalogue c ≡ accepted cs → (j at : ℕ) → a ≤ j → j < r.next → StandsAt cs a j at → ViewIn (offers cs one) r.batch j at

-- a view's lists by its bits, and what its bits may say
pub record ViewMatched (o : Offered) (j at : ℕ) (s : List ℕ) (n m : ℕ) (w w' : List ℕ) : Type 0 where
  pub sets : matches_from at m (edges_of (get_or (views_of o.content) j [])) w' ≡ view_sheet (view_at o j) (graph_in s n m w)
  pub only : (i e : ℕ) → i < m → e < edges_of (get_or (views_of o.content) j []) → T (bit (get_or w' (8192 + i) 0) (at + e))
      → (get_or (view_at o j).edges e no_edge).kind ≡ word_kind (get_or w i 0)
