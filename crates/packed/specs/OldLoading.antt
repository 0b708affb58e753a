-- inner: the edges of an old record, which are read first and judged for repeats afterwards, all at once, from their ranks in the workspace.
use Rattle.std.specs.Prelude.{ℕ, ◌+◌, ◌*◌, ◌<◌, ◌≤◌, ◌≡◌, List, Bool, true, false, length, take, drop, get_or, Ok, Err}
use Rattle.std.proofs.lemmas.List.Edits.{sets}
use Rattle.packed.specs.Bits.{field}
use Rattle.packed.specs.Format.{Format, Result, ok}
use Rattle.packed.specs.Formats.{edges, rank}
use Rattle.packed.specs.Contents.{nodes_of, edges_of, distinct, ranks}
use Rattle.packed.specs.OldRecord.{nothing}
use Rattle.packed.specs.Order.{all_different}
use Rattle.packed.specs.Reading.{Reading, Refuses}
use Rattle.packed.specs.Parts.{Reply, Part}
use Rattle.packed.specs.Refusals.{file_number}
use Rattle.packed.specs.declared.reply.File.{File}
use Rattle.packed.specs.declared.reply.Refusal.TheVariants.{DuplicateEdge}
use Rattle.packed.specs.declared.reply.Loaded.{Loaded}

-- whether no edge stands twice among those with these fields
abbrev pub once : List ℕ → Bool
once es = all_different (ranks es)

-- the ranks of the edges loaded so far stand at the front of the workspace
pub record RanksKept (es : List ℕ) (k : ℕ) (work work' : List ℕ) : Type 0 where
  pub held : work' ≡ sets work 0 (ranks es)
  pub number : k ≡ length (ranks es)
  pub few : k ≤ 8192

-- a reader of F that stands before m edges more, or would, if none of those read so far stood twice; else F is refused by 5
pub record Lazily (F : Format) (s : List ℕ) (at₀ : ℕ) (w₀ : List ℕ) (i₀ : ℕ) (file : File) (nodes m : ℕ) (es : List ℕ) (at : ℕ) (w : List ℕ) (i : ℕ) : Type 0 where
  pub clean : once es ≡ true → Reading F s at₀ w₀ i₀ (edges 12 0 nodes nothing m es) at w i
  pub dirty : once es ≡ false → Refuses F s at₀ (file_number file) (DuplicateEdge file)
  pub inside : at ≤ 8 * length s
  pub few : i ≤ at

abbrev pub LazyPart : Format → List ℕ → ℕ → List ℕ → ℕ → File → ℕ → List ℕ → Part → List ℕ → Type 0
LazyPart F s at₀ w₀ i₀ file nodes es (Ok (at, i)) w = Lazily F s at₀ w₀ i₀ file nodes 0 es at w i
LazyPart F s at₀ w₀ i₀ file nodes es (Err x) w =
    (once es ≡ true → Refuses F s at₀ (file_number file) x) × (once es ≡ false → Refuses F s at₀ (file_number file) (DuplicateEdge file))

-- what a reader of F, which ends with the edges of a record, leaves
pub record Loads (F : Format) (s : List ℕ) (at₀ : ℕ) (w₀ : List ℕ) (i₀ : ℕ) (file : File) (work : List ℕ) (r : Loaded) (w work' : List ℕ) : Type 0 where
  pub nodes : ℕ
  pub es : List ℕ
  pub kept : RanksKept es r.edges work work'
  pub part : LazyPart F s at₀ w₀ i₀ file nodes es r.part w

-- the ranks of m edges whose ends stand from the bit offset start on are at the front of the workspace
pub record RanksAt (s : List ℕ) (start m : ℕ) (w w' : List ℕ) : Type 0 where
  pub long : length w' ≡ length w
  pub each : (j : ℕ) → j < m → get_or w' j 0 ≡ rank (field s (start + 24 * j) 12) (field s (start + 24 * j + 12) 12) 0

-- all m ranks are loaded, unless something before or among the edges is refused
abbrev pub RanksLoaded : List ℕ → ℕ → ℕ → List ℕ → Part → ℕ → List ℕ → Type 0
RanksLoaded s start m w (Ok (at, i)) k w' = (k ≡ m) × RanksAt s start m w w'
RanksLoaded s start m w (Err x) k w' = Unit {0}

-- a part that is read ends at the bit offset end
abbrev pub EndsAt : ℕ → Part → Type 0
EndsAt end (Ok (at, i)) = at ≡ end
EndsAt end (Err x) = Unit {0}

-- an old record was accepted; the ranks of its edges stand at the front of the workspace, ascending
pub record Ordered (r : Result ℕ) (w w' : List ℕ) : Type 0 where
  pub fields : List ℕ
  pub is : r ≡ ok fields
  pub long : length w' ≡ length w
  pub front : take (edges_of fields) w' ≡ distinct (ranks (drop (2 + nodes_of fields) fields))

abbrev pub Orders : Result ℕ → Reply → List ℕ → List ℕ → Type 0
Orders r (Ok n) w w' = Ordered r w w'
Orders r (Err x) w w' = Unit {0}
