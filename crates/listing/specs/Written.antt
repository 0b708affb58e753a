-- inner: what a part of a line does to the line buffer.
use Rattle.std.specs.Prelude.{ℕ, ◌+◌, ◌≡◌, List, length}
use Rattle.std.proofs.lemmas.List.Edits.{sets}

-- the text went to the buffer from at on, as far as that goes, and ends at r
pub record TextWritten (text before : List ℕ) (at : ℕ) (now : List ℕ) (r : ℕ) : Type 0 where
  pub is : now ≡ sets before at text
  pub end : r ≡ at + length text
