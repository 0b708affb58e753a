-- inner: how a reader goes through the bytes s of a file, with its fields stored in a list of words as far as that goes.
use Rattle.std.specs.Prelude.{ℕ, ◌+◌, ◌*◌, ◌<◌, ◌≤◌, ◌≡◌, List, Bool, length, drop, set, Ok, Err}
use Rattle.std.proofs.lemmas.List.Edits.{sets}
use Rattle.packed.specs.Bits.{bits, field}
use Rattle.packed.specs.Format.{Format, done, ask, Got, push, fault, scan, Result, ok, bad, decode}
use Rattle.packed.specs.Refusals.{number_of, detail_of}
use Rattle.packed.specs.declared.reply.Refusal.{Refusal}
use Rattle.packed.specs.Parts.{Part, ReadThree, ReadTwo, ReadValue}

-- the format f, read from the bit offset at
unfoldable pub from : Format → List ℕ → ℕ → Got ℕ Bool
from f s at = scan f (drop at (bits s))

-- F is read from at₀ on, with its fields going to w₀ from i₀ on; by now G is left to read from at on, and the fields go to w from i on
pub record Reading (F : Format) (s : List ℕ) (at₀ : ℕ) (w₀ : List ℕ) (i₀ : ℕ) (G : Format) (at : ℕ) (w : List ℕ) (i : ℕ) : Type 0 where
  pub read : List ℕ
  pub comes : from F s at₀ ≡ push read (from G s at)
  pub holds : w ≡ sets w₀ i₀ read
  pub next : i ≡ i₀ + length read
  pub inside : at ≤ 8 * length s
  pub paced : i + at₀ ≤ i₀ + at

-- F is refused by x, in the file so numbered
pub record Refuses (F : Format) (s : List ℕ) (at₀ file : ℕ) (x : Refusal) : Type 0 where
  pub number : from F s at₀ ≡ fault (number_of x)
  pub detail : detail_of x ≡ file

-- what a reader of F answers
abbrev pub ReadsPart : Format → List ℕ → ℕ → List ℕ → ℕ → ℕ → Part → List ℕ → Type 0
ReadsPart F s at₀ w₀ i₀ file (Ok (at, i)) w = Reading F s at₀ w₀ i₀ done at w i
ReadsPart F s at₀ w₀ i₀ file (Err x) w = Refuses F s at₀ file x

-- the same from a byte on to a byte
abbrev pub ReadsBytes : Format → List ℕ → ℕ → List ℕ → ℕ → ℕ → Part → List ℕ → Type 0
ReadsBytes F s byte₀ w₀ i₀ file (Ok (byte, i)) w = Reading F s (8 * byte₀) w₀ i₀ done (8 * byte) w i
ReadsBytes F s byte₀ w₀ i₀ file (Err x) w = Refuses F s (8 * byte₀) file x

-- one field
pub record Value (wide low bound : ℕ) (s : List ℕ) (at : ℕ) (w : List ℕ) (i v : ℕ) (w' : List ℕ) : Type 0 where
  pub some : 1 ≤ wide
  pub fits : at + wide ≤ 8 * length s
  pub is : v ≡ field s at wide
  pub least : low ≤ v
  pub most : v < bound
  pub stored : w' ≡ set w i v

abbrev pub ReadsField : ℕ → ℕ → ℕ → ℕ → List ℕ → ℕ → List ℕ → ℕ → ℕ → ReadValue → List ℕ → Type 0
ReadsField wide low bound e s at w i file (Ok v) w' = Value wide low bound s at w i v w'
ReadsField wide low bound e s at w i file (Err x) w' = (f : ℕ → Format) → Refuses (ask wide low bound e f) s at file x

-- where a reader may stand, and which field it is at
pub record Stands (s : List ℕ) (at i : ℕ) : Type 0 where
  pub small : length s ≤ 65536
  pub inside : at ≤ 8 * length s
  pub few : i ≤ at

-- there is room for so many words from the place i on
pub record Room (w : List ℕ) (i k : ℕ) : Type 0 where
  pub fits : i + k ≤ length w
  pub small : length w ≤ 16384

-- a whole file was judged: its content goes to the front of the words as far as they go
pub record Content (r : Result ℕ) (n : ℕ) (w w' : List ℕ) : Type 0 where
  pub fields : List ℕ
  pub is : r ≡ ok fields
  pub number : n ≡ length fields
  pub front : w' ≡ sets w 0 fields

abbrev pub Judges : Result ℕ → ℕ → Part → List ℕ → List ℕ → Type 0
Judges r file (Ok (at, n)) w w' = Content r n w w'
Judges r file (Err x) w w' = (r ≡ bad (number_of x)) × (detail_of x ≡ file)

-- two fields of one kind, one after the other
pub record TwoValues (wide bound : ℕ) (s : List ℕ) (at : ℕ) (w : List ℕ) (i a b : ℕ) (w' : List ℕ) : Type 0 where
  pub between : List ℕ
  pub first : Value wide 0 bound s at w i a between
  pub second : Value wide 0 bound s (at + wide) between (i + 1) b w'

abbrev pub ReadsTwo : ℕ → ℕ → ℕ → List ℕ → ℕ → List ℕ → ℕ → ℕ → ReadTwo → List ℕ → Type 0
ReadsTwo wide bound e s at w i file (Ok (a, b)) w' = TwoValues wide bound s at w i a b w'
ReadsTwo wide bound e s at w i file (Err x) w' =
    (f : ℕ → ℕ → Format) → Refuses (ask wide 0 bound e (λ a. ask wide 0 bound e (λ b. f a b))) s at file x

-- an edge: two ends and a kind of 3 bits
pub record EdgeValues (wide nodes : ℕ) (s : List ℕ) (at : ℕ) (w : List ℕ) (i a b k : ℕ) (w' : List ℕ) : Type 0 where
  pub between : List ℕ
  pub ends : TwoValues wide nodes s at w i a b between
  pub kind : Value 3 0 8 s (at + 2 * wide) between (i + 2) k w'

abbrev pub ReadsEdge : ℕ → ℕ → List ℕ → ℕ → List ℕ → ℕ → ℕ → ReadThree → List ℕ → Type 0
ReadsEdge wide nodes s at w i file (Ok (a, b, k)) w' = EdgeValues wide nodes s at w i a b k w'
ReadsEdge wide nodes s at w i file (Err x) w' =
    (f : ℕ → ℕ → ℕ → Format) → Refuses (ask wide 0 nodes 4 (λ a. ask wide 0 nodes 4 (λ b. ask 3 0 8 3 (λ k. f a b k)))) s at file x

-- the end of a file: zero bits up to a whole byte, and nothing after; what any format that was read up to here then says of the file
abbrev pub Closes : List ℕ → ℕ → ℕ → ℕ → Part → Type 0
Closes s at i file r = (F : Format) (w w' : List ℕ) → Reading F s 0 w 0 done at w' i → Judges (decode F s) file r w w'

-- the same where F has at most k fields
abbrev pub ReadsUpTo : ℕ → Format → List ℕ → ℕ → List ℕ → ℕ → ℕ → Part → List ℕ → Type 0
ReadsUpTo k F s at₀ w₀ i₀ file (Ok (at, i)) w = Reading F s at₀ w₀ i₀ done at w i × (i ≤ i₀ + k)
ReadsUpTo k F s at₀ w₀ i₀ file (Err x) w = Refuses F s at₀ file x

abbrev pub ReadsBytesUpTo : ℕ → Format → List ℕ → ℕ → List ℕ → ℕ → ℕ → Part → List ℕ → Type 0
ReadsBytesUpTo k F s byte₀ w₀ i₀ file (Ok (byte, i)) w = Reading F s (8 * byte₀) w₀ i₀ done (8 * byte) w i × (i ≤ i₀ + k)
ReadsBytesUpTo k F s byte₀ w₀ i₀ file (Err x) w = Refuses F s (8 * byte₀) file x

abbrev pub JudgesUpTo : ℕ → Result ℕ → ℕ → Part → List ℕ → List ℕ → Type 0
JudgesUpTo k r file (Ok (at, n)) w w' = Content r n w w' × (n ≤ k)
JudgesUpTo k r file (Err x) w w' = (r ≡ bad (number_of x)) × (detail_of x ≡ file)
