-- inner: what the loops over the batches of an accepted catalogue c with the set one need and leave, where the edges of the record s stand in the workspace.
use Rattle.std.specs.Prelude.{ℕ, zero, suc, ◌+◌, ◌-◌, ◌<◌, ◌≤◌, ◌≡◌, Bool, true, ◌⊎◌, List, [], ◌++◌, length, get_or, leb}
use Rattle.std.proofs.lemmas.List.Edits.{sets}
use Rattle.packed.specs.Format.{pick}
use Rattle.packed.specs.Contents.{pair_count, sheet_length}
use Rattle.packed.specs.Matches.{matches_from, sum_of, Counts}
use Rattle.packed.specs.Refusals.{Told}
use Rattle.packed.specs.Accepting.{HoldsViews}
use Rattle.packed.specs.Calls.{FulfilsOne, fit_file, accepted, read_catalogue}
use Rattle.engine.specs.Simulation.{view_sheet}
use Rattle.engine.specs.Loaded.{graph_in, Ready, Edges}
use Rattle.engine.specs.Matched.{Rises}
use Rattle.engine.specs.Batches.{BatchMatched}
use Rattle.engine.specs.declared.batch.Batch.{Batch}
use Rattle.matching.specs.Offered.{Offered, offers, view_at}
use Rattle.matching.specs.Search.{sheet_bytes, book_bytes, view_sheets, book_for}

-- the catalogue was accepted, and has k views
pub record Catalogued (c : List ℕ) (k : ℕ) : Type 0 where
  pub small : length c ≤ 65536
  pub fields : List ℕ
  pub is : read_catalogue c ≡ accepted fields
  pub number : k ≡ get_or fields 0 0

-- so many edges has each of them
abbrev pub EdgesCounted : List ℕ → ℕ → List ℕ → Type 0
EdgesCounted c k edges = (cs : List ℕ) → read_catalogue c ≡ accepted cs → HoldsViews cs k edges

-- and the record's edges stand in the workspace
pub record Bookable (c : List ℕ) (k : ℕ) (edges s : List ℕ) (n m : ℕ) (w : List ℕ) : Type 0 where
  pub views : Catalogued c k
  pub counted : EdgesCounted c k edges
  pub ready : Ready s n m w
  pub rises : Rises m w

-- the book of what is offered, and the sheet of the view j
abbrev pub book_in : Offered → List ℕ → ℕ → ℕ → List ℕ → List ℕ
book_in o s n m w = book_bytes (view_sheets o (graph_in s n m w))

abbrev pub sheet_at : Offered → List ℕ → ℕ → ℕ → List ℕ → ℕ → List (List ℕ)
sheet_at o s n m w j = view_sheet (view_at o j) (graph_in s n m w)

-- how many bytes the sheet of these lists takes
abbrev pub sheet_size : List (List ℕ) → ℕ
sheet_size ls = sheet_length (length ls) (pair_count ls)

-- ---- a batch of the views a up to b
-- they are some of sixteen, and have 32 edges together at most
pub record Batched (edges : List ℕ) (a b : ℕ) : Type 0 where
  pub since : a ≤ b
  pub most : b ≤ 16
  pub few : sum_of b edges ≤ sum_of a edges + 32

-- the bits of the view j begin behind those of the views from a on
abbrev pub bits_before : List ℕ → ℕ → ℕ → ℕ
bits_before edges a j = sum_of j edges - sum_of a edges

-- its lists, by the first d pairs of the workspace
unfoldable pub lists_at : List ℕ → ℕ → ℕ → List ℕ → ℕ → List (List ℕ)
lists_at edges a d w j = matches_from (bits_before edges a j) d (get_or edges j 0) w

-- the bytes of sheets, from the sheet a up to b
unfoldable pub sheets_from : (ℕ → List (List ℕ)) → ℕ → ℕ → List ℕ
sheets_from f a zero = []
sheets_from f a (suc b) = pick (leb a b) (sheets_from f a b ++ sheet_bytes (f b)) []

-- ---- sizes
-- those of the sheets of the batch are kept, by the counts q of its pairs
pub record SizesKept (edges : List ℕ) (a b : ℕ) (q sizes sizes' : List ℕ) : Type 0 where
  pub long : length sizes' ≡ length sizes
  pub each : (d : ℕ) (w : List ℕ) → Counts d w q → (j : ℕ) → a ≤ j → j < b → get_or sizes' j 0 ≡ sheet_length (get_or edges j 0) (pair_count (lists_at edges a d w j))
  pub rest : (j : ℕ) → (j < a) ⊎ (b ≤ j) → get_or sizes' j 0 ≡ get_or sizes j 0

-- those of the sheets of the views a up to b
pub record SizesFrom (c : List ℕ) (one : ℕ) (s : List ℕ) (n m : ℕ) (w : List ℕ) (a b : ℕ) (sizes : List ℕ) : Type 0 where
  pub each : (cs : List ℕ) → read_catalogue c ≡ accepted cs → (j : ℕ) → a ≤ j → j < b → get_or sizes j 0 ≡ sheet_size (sheet_at (offers cs one) s n m w j)

-- and they are kept, while the edges stay
pub record Sized (c : List ℕ) (one : ℕ) (s : List ℕ) (n m : ℕ) (w : List ℕ) (a b : ℕ) (sizes w' : List ℕ) : Type 0 where
  pub edges : Edges w w'
  pub long : length sizes ≡ 16
  pub kept : SizesFrom c one s n m w a b sizes

-- where r says so, the sheets list nothing
pub record ListNothing (sizes : List ℕ) (a b : ℕ) (r : Bool) : Type 0 where
  pub each : r ≡ true → (j : ℕ) → a ≤ j → j < b → get_or sizes j 0 ≡ 1

-- ---- bytes
-- the first d pairs are those of the batch b once it is matched, or none, where that is enough
pub record Paired (b : Batch) (enough : Bool) (s : List ℕ) (n m : ℕ) (w : List ℕ) (d : ℕ) (w' : List ℕ) : Type 0 where
  pub edges : Edges w w'
  pub either : ((enough ≡ true) × (d ≡ 0)) ⊎ ((d ≡ m) × BatchMatched b s n m w w')

-- the sheets a up to b were written from the byte `at` on, up to the byte r
pub record SheetsWritten (f : ℕ → List (List ℕ)) (a b at : ℕ) (out : List ℕ) (r : ℕ) (out' : List ℕ) : Type 0 where
  pub number : r ≡ at + length (sheets_from f a b)
  pub bytes : out' ≡ sets out at (sheets_from f a b)

-- so many bytes fit, and are no more than a book may have
pub record Room (size : ℕ) (out : List ℕ) : Type 0 where
  pub lent : size ≤ length out
  pub most : size ≤ 65536

-- the sheets of the views a up to b have room from the byte `at` on, and were written there, up to the byte r
pub record BookFits (c : List ℕ) (one : ℕ) (s : List ℕ) (n m : ℕ) (w : List ℕ) (a b at : ℕ) (out : List ℕ) : Type 0 where
  pub room : (cs : List ℕ) → read_catalogue c ≡ accepted cs → Room (at + length (sheets_from (sheet_at (offers cs one) s n m w) a b)) out

pub record BookWritten (c : List ℕ) (one : ℕ) (s : List ℕ) (n m : ℕ) (w : List ℕ) (a b at : ℕ) (out : List ℕ) (r : ℕ) (out' : List ℕ) : Type 0 where
  pub is : (cs : List ℕ) → read_catalogue c ≡ accepted cs → SheetsWritten (sheet_at (offers cs one) s n m w) a b at out r out'

-- what the book of the record in the workspace answers, and what making a book answers, once the catalogue and its set were accepted
abbrev pub BookGiven : List ℕ → ℕ → List ℕ → ℕ → ℕ → List ℕ → Told → List ℕ → List ℕ → Type 0
BookGiven c one s n m w r out out' = (cs : List ℕ) → read_catalogue c ≡ accepted cs → FulfilsOne (fit_file (length out) (book_in (offers cs one) s n m w)) r out out'

abbrev pub BookAnswered : List ℕ → ℕ → List ℕ → Told → List ℕ → List ℕ → Type 0
BookAnswered c one s r out out' = (cs : List ℕ) → read_catalogue c ≡ accepted cs → FulfilsOne (book_for (offers cs one) s (length out)) r out out'
