-- The index of a record, and what is judged of one that is lent.
use Rattle.std.specs.Prelude.{ℕ, suc, List, [], ◌∷◌, ◌++◌, length, eqb, ltb}
use Rattle.packed.specs.Format.{pick}
use Rattle.packed.specs.Calls.{Outcome, refuse}
use Rattle.engine.specs.Lists.{keep, up_to}
use Rattle.engine.specs.Simulation.{Edge, Graph}

-- "the number of links that begin at lower items" than v
unfoldable pub begin_below : List Edge → ℕ → ℕ
begin_below edges v = length (keep (λ e. ltb e.from v) edges)

-- "for each item the number of links that begin at lower items, then the total": of n nodes with these edges
unfoldable pub index_for : ℕ → List Edge → List ℕ
index_for n edges = up_to (begin_below edges) n ++ (length edges ∷ [])

-- the index of a data graph, which is a record's own
abbrev pub index_of : Graph → List ℕ
index_of G = index_for (length G.labels) G.edges

-- how many entries two lists have alike from the front on: "the first differing position, from 0"
unfoldable pub alike : List ℕ → List ℕ → ℕ
alike [] index = 0
alike (x ∷ own) [] = 0
alike (x ∷ own) (y ∷ index) = pick (eqb x y) (suc (alike own index)) 0

-- 16, "when the lent index isn't the record's own": "detail the first differing position", "or the number of its entries if that is wrong"
unfoldable pub own_index : List ℕ → List ℕ → Outcome → Outcome
own_index own index a =
    pick (eqb (length index) (length own))
    (pick (eqb (alike own index) (length own)) a (refuse 16 (alike own index)))
    (refuse 16 (length index))
