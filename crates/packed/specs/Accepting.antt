-- inner: what accepting a file answers, and where its content then stands.
use Rattle.std.specs.Prelude.{ℕ, ◌≤◌, ◌≡◌, List, length, take, get_or, Result, Ok, Err}
use Rattle.std.proofs.lemmas.List.Edits.{sets}
use Rattle.packed.specs.Contents.{edge_counts}
use Rattle.packed.specs.ByValue.{Small, HoldsPattern}
use Rattle.packed.specs.declared.reply.Refusal.{Refusal}
use Rattle.packed.specs.declared.accept.PatternFile.{PatternFile}
use Rattle.packed.specs.declared.accept.CatalogueFile.{CatalogueFile}
use Rattle.packed.specs.Refusals.{number_of, detail_of}
use Rattle.packed.specs.Calls.{Verdict, accepted, rejected}
use Rattle.packed.specs.Parts.{Reply, Part}

-- a part that is a whole file, as a reply: how many fields it has
abbrev pub reply_of : Part → Reply
reply_of (Ok (at, n)) = Ok n
reply_of (Err x) = Err x

-- a file with the verdict v was accepted: its content goes to the front of the words as far as they go
pub record ContentTaken (v : Verdict) (n : ℕ) (w w' : List ℕ) : Type 0 where
  pub fields : List ℕ
  pub is : v ≡ accepted fields
  pub number : n ≡ length fields
  pub front : w' ≡ sets w 0 fields

abbrev pub AcceptsFile : Verdict → Reply → List ℕ → List ℕ → Type 0
AcceptsFile v (Ok n) w w' = ContentTaken v n w w'
AcceptsFile v (Err x) w w' = v ≡ rejected (number_of x) (detail_of x)

-- the same with its content in the first n words, and H of it
pub record Held (H : List ℕ → Type 0) (v : Verdict) (n : ℕ) (w : List ℕ) : Type 0 where
  pub fields : List ℕ
  pub is : v ≡ accepted fields
  pub fits : n ≤ length w
  pub front : take n w ≡ fields
  pub holds : H fields

-- a pattern was accepted, and is given by value; or it was refused
abbrev pub AcceptsPattern : Verdict → Result PatternFile Refusal → List ℕ → Type 0
AcceptsPattern v (Ok f) w = Held (λ ws. HoldsPattern ws f.pattern) v f.fields w
AcceptsPattern v (Err x) w = v ≡ rejected (number_of x) (detail_of x)

-- the k views of a catalogue with the content cs, and the numbers of their edges, in a table that is zero beyond them
pub record HoldsViews (cs : List ℕ) (k : ℕ) (counts : List ℕ) : Type 0 where
  pub number : k ≡ get_or cs 0 0
  pub few : k ≤ 16
  pub are : take k counts ≡ edge_counts cs
  pub rest : (j : ℕ) → k ≤ j → get_or counts j 0 ≡ 0
  pub small : Small counts

-- a catalogue was accepted, and the numbers of its edges are given; or it was refused
abbrev pub AcceptsCatalogue : Verdict → Result CatalogueFile Refusal → List ℕ → Type 0
AcceptsCatalogue v (Ok f) w = Held (λ ws. HoldsViews ws f.views f.edges) v f.fields w
AcceptsCatalogue v (Err x) w = v ≡ rejected (number_of x) (detail_of x)
