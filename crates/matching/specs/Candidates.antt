-- inner: what taking the candidates of a join needs and does: the d different pairs of a book stand ascending from word 0 on, and from 8192 on for
-- each a mask of the query's edges.
use Rattle.std.specs.Prelude.{ℕ, ◌+◌, ◌*◌, ◌^◌, ◌<◌, ◌≤◌, ◌≡◌, List, ◌⊎◌, length, get_or, take}
use Rattle.packed.specs.Limits.{book_most, pairs_most, pair_width, workspace}
use Rattle.packed.specs.ByValue.{Small}
use Rattle.packed.specs.Distinct.{Increasing}
use Rattle.packed.specs.Order.{Outside}
use Rattle.packed.specs.Walks.{codes_at, pair_place, list_first, list_count, lists_end, lists_first, lists_count}
use Rattle.packed.specs.BookSheets.{list_at, sheet_at}
use Rattle.engine.specs.Lists.{In}
use Rattle.engine.specs.Masks.{Has, Mask, OneOf}

-- the codes of d pairs ascend, each once, at the front of the workspace
pub record Pool (d : ℕ) (w : List ℕ) : Type 0 where
  pub most : d ≤ pairs_most
  pub long : length w ≡ workspace
  pub small : (i : ℕ) → i < d → get_or w i 0 < 2 ^ pair_width
  pub rises : (i j : ℕ) → i < j → j < d → get_or w i 0 < get_or w j 0

-- the codes from r on are greater
pub record Beyond (w : List ℕ) (first d code r : ℕ) : Type 0 where
  pub after : first < r
  pub upto : r ≤ d
  pub greater : (j : ℕ) → r ≤ j → j < d → code < get_or w j 0

-- r is the place of the code, if it stands there
pub record PlaceIn (w : List ℕ) (first last code r : ℕ) : Type 0 where
  pub from : first ≤ r
  pub upto : r < last
  pub is : (j : ℕ) → first ≤ j → j < last → get_or w j 0 ≡ code → r ≡ j

-- n pairs from a bit offset on ascend and stand among the d pairs
pub record Walkable (s : List ℕ) (first n d : ℕ) (w : List ℕ) : Type 0 where
  pub pool : Pool d w
  pub short : length s ≤ book_most
  pub fits : pair_place first n ≤ 8 * length s
  pub ascends : Increasing (codes_at s first n)
  pub present : (c : ℕ) → In c (codes_at s first n) → OneOf d (λ i. get_or w i 0 ≡ c)

-- the same of each of so many lists
pub record Sheeted (s : List ℕ) (start lists d : ℕ) (w : List ℕ) : Type 0 where
  pub pool : Pool d w
  pub short : length s ≤ book_most
  pub few : lists ≤ 32
  pub begins : start ≤ 8 * length s
  pub each : (f : ℕ) → f < lists → Walkable s (list_first (lists_end s start f)) (list_count s (lists_end s start f)) d w

-- the same of the lists that stand in the sheet at a bit offset, for so many edges
abbrev pub SheetedAt : List ℕ → ℕ → ℕ → ℕ → List ℕ → Type 0
SheetedAt s at edges d w = Sheeted s (lists_first at) (lists_count s at edges) d w

-- the same of the sheets of k views
pub record Booked (s counts : List ℕ) (k d : ℕ) (w : List ℕ) : Type 0 where
  pub pool : Pool d w
  pub short : length s ≤ book_most
  pub few : k ≤ 16
  pub small : Small counts
  pub each : (a : ℕ) → a < k → SheetedAt s (sheet_at s 0 (take k counts) a) (get_or counts a 0) d w

-- the masks are 0
pub record Blank (d : ℕ) (w w' : List ℕ) : Type 0 where
  pub around : Outside 8192 d w w'
  pub each : (i : ℕ) → i < d → get_or w' (8192 + i) 0 ≡ 0

-- the pair with the code c is taken also for the edges e with Q c e
pub record Taken (d : ℕ) (Q : ℕ → ℕ → Type 0) (w w' : List ℕ) : Type 0 where
  pub around : Outside 8192 d w w'
  pub each : (i : ℕ) → i < d → Mask (λ e. Has (get_or w (8192 + i) 0) e ⊎ Q (get_or w i 0) e) (get_or w' (8192 + i) 0)

-- c is listed, and e is one of the edges x
pub record Listing (s : List ℕ) (first n x c e : ℕ) : Type 0 where
  pub listed : In c (codes_at s first n)
  pub asked : Has x e

-- c is listed under an edge f of the view a, one of so many lists, and the table t says that f matches the edge e, which is below m
pub record SheetListing (s : List ℕ) (start lists : ℕ) (t : List ℕ) (a m c e : ℕ) : Type 0 where
  pub edge : e < m
  pub under : OneOf lists (λ f. In c (list_at s start f) × Has (get_or t (16 * e + a) 0) f)

-- the same in the sheet at a bit offset, for so many edges
abbrev pub SheetListingAt : List ℕ → ℕ → ℕ → List ℕ → ℕ → ℕ → ℕ → ℕ → Type 0
SheetListingAt s at edges t a m c e = SheetListing s (lists_first at) (lists_count s at edges) t a m c e

-- the same for one of the k views that is in the set
abbrev pub BookListing : List ℕ → List ℕ → ℕ → List ℕ → ℕ → ℕ → ℕ → ℕ → Type 0
BookListing s counts k t set m c e = OneOf k (λ a. Has set a × SheetListingAt s (sheet_at s 0 (take k counts) a) (get_or counts a 0) t a m c e)
