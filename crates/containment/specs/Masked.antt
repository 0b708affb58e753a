-- inner: coverage and choice by masks of edges, one for each view.
use Rattle.std.specs.Prelude.{ℕ, ◌<◌, List, get_or}
use Rattle.engine.specs.Masks.{Mask}
use Rattle.containment.specs.Choice.{Passing, matches, matched_in}

-- the view a matches the edge e, of m
abbrev pub EdgeMatchedBy : List ℕ → ℕ → ℕ → ℕ → Type 0
EdgeMatchedBy t a m e = Passing (λ i. matches t i a) m e

-- one of the first k views that are in the set matches the edge e, of m
abbrev pub EdgeMatchedIn : List ℕ → ℕ → ℕ → ℕ → ℕ → Type 0
EdgeMatchedIn t m set k e = Passing (λ i. matched_in t set i k) m e

-- these are the masks of the first k views, for m edges
abbrev pub Masked : List ℕ → ℕ → ℕ → List ℕ → Type 0
Masked t k m masks = (a : ℕ) → a < k → Mask (EdgeMatchedBy t a m) (get_or masks a 0)
