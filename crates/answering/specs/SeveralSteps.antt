-- inner: what the steps of answering several queries in one call promise one another.
use Rattle.std.specs.Prelude.{ℕ, ◌+◌, ◌<◌, ◌≤◌, ◌≡◌, length, get_or, ltb, Option, Some, None}
use mathlib.Core.List.{List, [], flatten}
use Rattle.std.proofs.lemmas.List.Edits.{sets}
use Rattle.packed.specs.Limits.{questions_most}
use Rattle.packed.specs.Format.{ok, pick, decode}
use Rattle.packed.specs.Formats.{patterns}
use Rattle.packed.specs.Contents.{edge_counts, sheets_in}
use Rattle.packed.specs.Matches.{matches_of, Marked}
use Rattle.packed.specs.Calls.{Outcome, refuse}
use Rattle.engine.specs.Lists.{up_to}
use Rattle.engine.specs.Simulation.{bit}
use Rattle.engine.specs.Loaded.{Edges}
use Rattle.matching.specs.Search.{sheet_bytes}
use Rattle.matching.specs.Offered.{offers}
use Rattle.containment.specs.Quote.{Quoted, table_of, used_by}
use Rattle.answering.specs.Several.{question_at, all_covered, is_needed, answer_at, any_long}
use Rattle.containment.specs.Steps.{Views, ViewCounts, Loaded}
use Rattle.answering.specs.declared.several.Sizes.{Sizes}

-- ---- the queries

-- accepted questions, so many in one file
pub record Asked (s : List ℕ) (number : ℕ) : Type 0 where
  pub content : List ℕ
  pub is : decode (patterns number) s ≡ ok content
  pub few : number ≤ questions_most
  pub short : length s ≤ 65536

-- the question i of them, beside the views of an accepted catalogue, of which those in the set one are matched one-way
abbrev pub asked_at : {s : List ℕ} {number : ℕ} → Asked s number → {c : List ℕ} {k : ℕ} → Views c k → ℕ → ℕ → Quoted
asked_at {number = number} a v one = question_at number a.content (offers v.content one)

-- ---- their tables

-- the lowest unmatched edge of the first query that isn't covered, if one isn't, where before is that of those before the last, whose own is low, or m
unfoldable pub first_lowest : Option ℕ → ℕ → ℕ → Option ℕ
first_lowest (Some e) low m = Some e
first_lowest None low m = pick (ltb low m) (Some low) None

-- 11 with that edge, or else another answer
abbrev pub uncovered_or : Option ℕ → Outcome → Outcome
uncovered_or (Some e) a = refuse 11 e
uncovered_or None a = a

-- the first n queries are mapped: their tables and the views that answer each stand at their places; the views that answer one of them, and the
-- lowest unmatched edge of the first that isn't covered, if one isn't
pub record Mapped (x : ℕ → Quoted) (n : ℕ) (tables : List (List ℕ)) (used : List ℕ) (needed : ℕ) (lowest : Option ℕ) : Type 0 where
  pub long : length tables ≡ 8
  pub eight : length used ≡ 8
  pub table : (i : ℕ) → i < n → get_or tables i [] ≡ table_of (x i)
  pub used_is : (i : ℕ) → i < n → get_or used i 0 ≡ used_by (x i)
  pub needs : (a : ℕ) → bit needed a ≡ is_needed x n a
  pub covers : (a : Outcome) → all_covered x n a ≡ uncovered_or lowest a

-- ---- their answers

-- the queries may be answered: they are mapped, and the pairs of a book stand in the workspace
pub record Answerable (s : List ℕ) (number : ℕ) (tables : List (List ℕ)) (used book counts : List ℕ) (k d : ℕ) (w : List ℕ) : Type 0 where
  pub asked : Asked s number
  pub views : ViewCounts counts k
  pub long : length tables ≡ 8
  pub eight : length used ≡ 8
  pub table : (i : ℕ) → i < number → get_or tables i [] ≡ table_of (asked_at asked views.views views.one_way i)
  pub used_is : (i : ℕ) → i < number → get_or used i 0 ≡ used_by (asked_at asked views.views views.one_way i)
  pub loaded : Loaded views.views.content book counts k d w

-- what each gets by itself
abbrev pub answers_of : {s : List ℕ} {number : ℕ} {tables : List (List ℕ)} {used book counts : List ℕ} {k d : ℕ} {w : List ℕ} → Answerable s number tables used book counts k d w → ℕ → List ℕ
answers_of x = answer_at (asked_at x.asked x.views.views x.views.one_way) (sheets_in (edge_counts x.views.views.content) x.loaded.fields)

-- the first d pairs of the workspace make the sheet for m edges with these lists
pub record Held (d m : ℕ) (lists : List (List ℕ)) (w : List ℕ) : Type 0 where
  pub few : m ≤ 32
  pub marked : Marked d w
  pub sets : matches_of d m w ≡ lists

-- the words make the output o, as the sheet for m edges
pub record Makes (d m : ℕ) (o : List ℕ) (w : List ℕ) : Type 0 where
  pub lists : List (List ℕ)
  pub held : Held d m lists w
  pub is : o ≡ sheet_bytes lists

-- the sizes of the first n outputs, and what is left in the workspace: the pairs, and what the last of them is made from
pub record Measured (o : ℕ → List ℕ) (n d : ℕ) (r : Sizes) (w w' : List ℕ) : Type 0 where
  pub eight : length r.each ≡ 8
  pub sizes : (i : ℕ) → i < n → get_or r.each i 0 ≡ length (o i)
  pub total : r.total ≡ length (flatten (up_to o n))
  pub long : r.long ≡ any_long o n
  pub edges : Edges w w'
  pub last : (i : ℕ) → n ≡ i + 1 → Makes d r.edges (o i) w'

-- the first n of all outputs may be written: their sizes are known, and there is room
pub record Writable (o : ℕ → List ℕ) (n all : ℕ) (sizes out : List ℕ) : Type 0 where
  pub most : n ≤ all
  pub eight : length sizes ≡ 8
  pub each : (i : ℕ) → i < n → get_or sizes i 0 ≡ length (o i)
  pub room : length (flatten (up_to o n)) ≤ length out

-- they stand at the front, one after the other
abbrev pub Written : (ℕ → List ℕ) → ℕ → List ℕ → List ℕ → Type 0
Written o n out out' = out' ≡ sets out 0 (flatten (up_to o n))
