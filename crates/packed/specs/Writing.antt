-- inner: how a writer goes through the fields ws of a content, with its bits stored in a list of bytes as far as that goes.
use Rattle.std.specs.Prelude.{ℕ, ◌+◌, ◌*◌, ◌^◌, ◌<◌, ◌≤◌, ◌≡◌, List, Bool, length, drop, get_or, Ok, Err}
use Rattle.std.proofs.lemmas.List.Edits.{sets}
use Rattle.packed.specs.Bits.{bits, bits_of}
use Rattle.packed.specs.Format.{Format, done, ask, push, fault, lay, Result, bad}
use Rattle.packed.specs.Refusals.{number_of, detail_of}
use Rattle.packed.specs.Reading.{Content}
use Rattle.packed.specs.declared.reply.Refusal.{Refusal}
use Rattle.packed.specs.Parts.{Part, ReadThree, ReadTwo, ReadValue}

-- F is written from the field i₀ on, with its bits going to b₀ from at₀ on; by now G is left to write from i on, and the bits go to b from at on
pub record Writing (F : Format) (ws : List ℕ) (i₀ : ℕ) (b₀ : List ℕ) (at₀ : ℕ) (G : Format) (i : ℕ) (b : List ℕ) (at : ℕ) : Type 0 where
  pub laid : List Bool
  pub comes : lay F at₀ (drop i₀ ws) ≡ push laid (lay G at (drop i ws))
  pub holds : bits b ≡ sets (bits b₀) at₀ laid
  pub next : at ≡ at₀ + length laid
  pub inside : i ≤ length ws

-- F is refused by x, in the file so numbered
pub record Rejects (F : Format) (ws : List ℕ) (i₀ at₀ file : ℕ) (x : Refusal) : Type 0 where
  pub number : lay F at₀ (drop i₀ ws) ≡ fault (number_of x)
  pub detail : detail_of x ≡ file

-- what a writer of F answers, where F has at most k bits
abbrev pub WritesPart : Format → List ℕ → ℕ → List ℕ → ℕ → ℕ → ℕ → Part → List ℕ → Type 0
WritesPart F ws i₀ b₀ at₀ k file (Ok (at, i)) b = Writing F ws i₀ b₀ at₀ done i b at × (at ≤ at₀ + k)
WritesPart F ws i₀ b₀ at₀ k file (Err x) b = Rejects F ws i₀ at₀ file x

-- the same from a byte on to a byte, with at most k bytes
abbrev pub WritesBytes : Format → List ℕ → ℕ → List ℕ → ℕ → ℕ → ℕ → Part → List ℕ → Type 0
WritesBytes F ws i₀ b₀ byte₀ k file (Ok (byte, i)) b = Writing F ws i₀ b₀ (8 * byte₀) done i b (8 * byte) × (byte ≤ byte₀ + k)
WritesBytes F ws i₀ b₀ byte₀ k file (Err x) b = Rejects F ws i₀ (8 * byte₀) file x

-- one field
pub record Put (wide low bound : ℕ) (ws : List ℕ) (i : ℕ) (b : List ℕ) (at v : ℕ) (b' : List ℕ) : Type 0 where
  pub there : i < length ws
  pub is : v ≡ get_or ws i 0
  pub least : low ≤ v
  pub most : v < bound
  pub narrow : v < 2 ^ wide
  pub stored : bits b' ≡ sets (bits b) at (bits_of wide v)

abbrev pub WritesField : ℕ → ℕ → ℕ → ℕ → List ℕ → ℕ → List ℕ → ℕ → ℕ → ReadValue → List ℕ → Type 0
WritesField wide low bound e ws i b at file (Ok v) b' = Put wide low bound ws i b at v b'
WritesField wide low bound e ws i b at file (Err x) b' = (f : ℕ → Format) → Rejects (ask wide low bound e f) ws i at file x

-- a whole content was judged: its bytes go to the front of the lent ones as far as they go
abbrev pub JudgesFields : Result ℕ → ℕ → Part → List ℕ → List ℕ → Type 0
JudgesFields r file (Ok (n, i)) b b' = Content r n b b'
JudgesFields r file (Err x) b b' = (r ≡ bad (number_of x)) × (detail_of x ≡ file)

-- two fields of one kind, one after the other
pub record TwoPut (wide bound : ℕ) (ws : List ℕ) (i : ℕ) (b : List ℕ) (at x y : ℕ) (b' : List ℕ) : Type 0 where
  pub between : List ℕ
  pub first : Put wide 0 bound ws i b at x between
  pub second : Put wide 0 bound ws (i + 1) between (at + wide) y b'

abbrev pub WritesTwo : ℕ → ℕ → ℕ → List ℕ → ℕ → List ℕ → ℕ → ℕ → ReadTwo → List ℕ → Type 0
WritesTwo wide bound e ws i b at file (Ok (x, y)) b' = TwoPut wide bound ws i b at x y b'
WritesTwo wide bound e ws i b at file (Err x) b' =
    (f : ℕ → ℕ → Format) → Rejects (ask wide 0 bound e (λ a. ask wide 0 bound e (λ b. f a b))) ws i at file x

-- the word i is a node of a pair
abbrev pub NodeIn : List ℕ → ℕ → ReadValue → Type 0
NodeIn ws i (Ok v) = (i < length ws) × (v ≡ get_or ws i 0) × (v < 4096)
NodeIn ws i (Err x) = (at : ℕ) (f : ℕ → Format) → Rejects (ask 12 0 4096 3 f) ws i at 4 x

-- an edge: two ends and a kind of 3 bits
pub record EdgePut (wide nodes : ℕ) (ws : List ℕ) (i : ℕ) (b : List ℕ) (at x y z : ℕ) (b' : List ℕ) : Type 0 where
  pub between : List ℕ
  pub ends : TwoPut wide nodes ws i b at x y between
  pub kind : Put 3 0 8 ws (i + 2) between (at + 2 * wide) z b'

abbrev pub WritesEdge : ℕ → ℕ → List ℕ → ℕ → List ℕ → ℕ → ℕ → ReadThree → List ℕ → Type 0
WritesEdge wide nodes ws i b at file (Ok (x, y, z)) b' = EdgePut wide nodes ws i b at x y z b'
WritesEdge wide nodes ws i b at file (Err x) b' =
    (f : ℕ → ℕ → ℕ → Format) → Rejects (ask wide 0 nodes 4 (λ a. ask wide 0 nodes 4 (λ b. ask 3 0 8 3 (λ k. f a b k)))) ws i at file x
