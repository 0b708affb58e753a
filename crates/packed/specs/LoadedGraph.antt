-- inner: a record's edges in the workspace, as they are judged.
use Rattle.std.specs.Prelude.{Option, Some, None, ℕ, ◌+◌, ◌-◌, ◌*◌, ◌<◌, ◌≤◌, ◌≡◌, List, [], length, take, drop, get_or, Ok, Err}
use Rattle.packed.specs.Bits.{field}
use Rattle.packed.specs.Format.{Format, done, ask, ok, decode}
use Rattle.packed.specs.Formats.{kind, rising, record'}
use Rattle.packed.specs.Contents.{nodes_of, edges_of, edge_word, edge_words}
use Rattle.packed.specs.Limits.{record_most}
use Rattle.packed.specs.Refusals.{number_of, detail_of}
use Rattle.packed.specs.Order.{Outside}
use Rattle.packed.specs.Reading.{Reading, Refuses, Value}
use Rattle.packed.specs.Calls.{rejected, read_record}
use Rattle.packed.specs.declared.reply.Refusal.{Refusal}
use Rattle.packed.specs.Parts.{Reply, Part, ReadTwo, GraphSizes}

-- the numbers of nodes and edges of a record
abbrev pub ReadsCounts : List ℕ → ReadTwo → Type 0
ReadsCounts s (Ok (n, m)) = Value 13 0 4097 s 0 [] 0 n [] × Value 14 0 8193 s 13 [] 1 m []
ReadsCounts s (Err x) = Refuses record' s 0 3 x

-- an edge whose bits are not all there is refused by x
abbrev pub Cut : List ℕ → ℕ → ℕ → Refusal → Type 0
Cut s at nodes x = (f : ℕ → ℕ → ℕ → Format) → Refuses (ask 12 0 nodes 4 (λ a. ask 12 0 nodes 4 (λ b. kind 3 (λ k. f a b k)))) s at 3 x

-- the words of the first k of m edges that stand from the bit offset start on are at the front of the workspace; those beyond the m are as they were
pub record WordsAt (s : List ℕ) (start k m : ℕ) (w w' : List ℕ) : Type 0 where
  pub long : length w' ≡ length w
  pub rest : (j : ℕ) → m ≤ j → get_or w' j 0 ≡ get_or w j 0
  pub each : (j : ℕ) → j < k → get_or w' j 0 ≡ edge_word (field s (start + 27 * j) 12) (field s (start + 27 * j + 12) 12) (field s (start + 27 * j + 24) 3)

-- k of the edges were read, with their words at the front of the workspace
pub record EdgesJudged (s : List ℕ) (start nodes number : ℕ) (w₀ w : List ℕ) (least k : ℕ) : Type 0 where
  pub reading : Reading (rising nodes number 0) s start [] 0 (rising nodes (number - k) least) (start + 27 * k) [] (3 * k)
  pub words : WordsAt s start k number w₀ w

-- n edges more were read, from the bit offset at on, with their words from the place k on; the rank of the next is at least r
pub record MoreJudged (s : List ℕ) (at nodes n least : ℕ) (w : List ℕ) (k r : ℕ) (w' : List ℕ) : Type 0 where
  pub around : Outside k n w w'
  pub judged : (start number : ℕ) (w₀ : List ℕ) → at ≡ start + 27 * k → k + n ≤ number
      → EdgesJudged s start nodes number w₀ w least k → EdgesJudged s start nodes number w₀ w' r (k + n)

-- one of n edges more is refused; the workspace is as it was outside their places
pub record MoreRefused (s : List ℕ) (at nodes n least : ℕ) (w : List ℕ) (k : ℕ) (w' : List ℕ) : Type 0 where
  pub around : Outside k n w w'
  pub refused : (start number : ℕ) (w₀ : List ℕ) → at ≡ start + 27 * k → k + n ≤ number
      → EdgesJudged s start nodes number w₀ w least k → (x : Refusal) × Refuses (rising nodes number 0) s start 3 x

-- n edges more were read, or one of them is refused
abbrev pub JudgesMore : List ℕ → ℕ → ℕ → ℕ → ℕ → List ℕ → ℕ → Option ℕ → List ℕ → Type 0
JudgesMore s at nodes n least w k (Some r) w' = MoreJudged s at nodes n least w k r w'
JudgesMore s at nodes n least w k None w' = MoreRefused s at nodes n least w k w'

-- m edges were read into the workspace, or refused
abbrev pub LoadsWords : List ℕ → ℕ → ℕ → ℕ → List ℕ → Part → List ℕ → Type 0
LoadsWords s start nodes m w (Ok (at, i)) w' = Reading (rising nodes m 0) s start [] 0 done at [] i × WordsAt s start m m w w'
LoadsWords s start nodes m w (Err x) w' = Refuses (rising nodes m 0) s start 3 x

-- unless the record is refused, the words of its edges stand there
abbrev pub WordsLoaded : List ℕ → List ℕ → Reply → List ℕ → Type 0
WordsLoaded s w (Ok n) w' = WordsAt s (27 + 32 * field s 0 13) (field s 13 14) (field s 13 14) w w'
WordsLoaded s w (Err x) w' = Unit {0}

-- a record was accepted, with so many nodes and edges; the words of its edges stand at the front of the workspace, in order
pub record Holds (s : List ℕ) (n m : ℕ) (w : List ℕ) : Type 0 where
  pub fields : List ℕ
  pub is : decode record' s ≡ ok fields
  pub nodes : n ≡ nodes_of fields
  pub edges : m ≡ edges_of fields
  pub long : length w ≡ 16384
  pub front : take m w ≡ edge_words (drop (2 + nodes_of fields) fields)

abbrev pub LoadsGraph : List ℕ → GraphSizes → List ℕ → Type 0
LoadsGraph s (Ok (n, m)) w = Holds s n m w × (length s ≤ record_most)
LoadsGraph s (Err x) w = read_record s ≡ rejected (number_of x) (detail_of x)

-- the labels of n nodes stand from the third word on
pub record LabelsStored (s : List ℕ) (n : ℕ) (w w' : List ℕ) : Type 0 where
  pub around : Outside 2 n w w'
  pub each : (v : ℕ) → v < n → get_or w' (2 + v) 0 ≡ field s (27 + 32 * v) 32
