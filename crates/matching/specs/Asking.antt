-- inner: what the parts of asking settle, where the edges of a record, and a link among them, stand in the workspace.
use Rattle.std.specs.Prelude.{ℕ, zero, suc, ◌+◌, ◌/◌, ◌%◌, ◌^◌, ◌<◌, ◌≡◌, List, [], Bool, not, ◌&&◌, length, get_or, eqb, leb}
use Rattle.packed.specs.Format.{pick}
use Rattle.packed.specs.Contents.{views_of}
use Rattle.packed.specs.Matches.{any_empty, marked_from, codes_of, masks_of, Named}
use Rattle.packed.specs.Calls.{Fulfils, accepted, read_catalogue}
use Rattle.engine.specs.Loaded.{edge_of_word, graph_in}
use Rattle.matching.specs.Join.{without}
use Rattle.matching.specs.Offered.{offers}
use Rattle.matching.specs.Books.{bits_before}
use Rattle.matching.specs.Ask.{changed_views, ask_of, ask_told}
use Rattle.matching.specs.declared.state.State.{State}
use Rattle.matching.specs.declared.state.Link.{Link}
use Rattle.matching.specs.Ask.{Asked}

-- the mask x names one of so many edges whose bits begin at o, and none of their lists is empty, by the first d pairs of the workspace
unfoldable pub listed_by : ℕ → ℕ → ℕ → List ℕ → ℕ → Bool
listed_by o edges d w x = not (eqb (x / 2 ^ o % 2 ^ edges) 0) && not (any_empty (marked_from o edges (codes_of d w) (masks_of d w)))

-- the same of the edges of the view j, where the bits of the view a come first
abbrev pub listed_in : List ℕ → ℕ → ℕ → List ℕ → ℕ → ℕ → Bool
listed_in edges a d w x j = listed_by (bits_before edges a j) (get_or edges j 0) d w x

-- those numbers from a up to b that pass a test, as a set
unfoldable pub set_from : (ℕ → Bool) → ℕ → ℕ → ℕ
set_from f a zero = 0
set_from f a (suc b) = pick (leb a b) (set_from f a b + pick (f b) (2 ^ b) 0) 0

-- r is the set of the views a up to b that list what has the mask x, where `named` has the edges that some mask names
pub record ListsBy (edges : List ℕ) (a b x named r : ℕ) : Type 0 where
  pub small : r < 2 ^ b
  pub is : (d : ℕ) (w : List ℕ) → Named d w named → r ≡ set_from (listed_in edges a d w x) a b

-- r is the set of the views that the edge at a place changes: their lists are others without it
abbrev pub ChangedBy : List ℕ → ℕ → List ℕ → ℕ → ℕ → List ℕ → ℕ → ℕ → Type 0
ChangedBy c one s n m w at r =
    (cs : List ℕ) → read_catalogue c ≡ accepted cs
    → r ≡ changed_views (offers cs one) (without (edge_of_word (get_or w at 0)) (graph_in s n m w)) (graph_in s n m w) (length (views_of cs))

-- what asking answers, once the catalogue and its set were accepted
abbrev pub AskAnswered : List ℕ → ℕ → List ℕ → State → Link → Asked → Type 0
AskAnswered c one s st l r = (cs : List ℕ) → read_catalogue c ≡ accepted cs → Fulfils [] (ask_of (offers cs one) s st l) (ask_told r) [] []
