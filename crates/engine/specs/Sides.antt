-- inner: the two ends of a pair, and the index of the pairs by each: what is proved of one end is proved of the other with the two changed for each other.
use Rattle.std.specs.Prelude.{ℕ, ◌+◌, ◌<◌, ◌≤◌, ◌≡◌, List, length, get_or}
use Rattle.engine.specs.Masks.{OneOf}
use Rattle.engine.specs.Sweeping.{Ends}
use Rattle.engine.specs.Rounds.{End}
use Rattle.engine.specs.Places.{Firsts, Backs}

-- the pairs whose end is v are those whose numbers are num k, for k from the start of v up to that of the node after it
pub record Placed (end : End) (d : ℕ) (w : List ℕ) (start num : ℕ → ℕ) (v : ℕ) : Type 0 where
  pub rises : start v ≤ start (v + 1)
  pub most : start (v + 1) ≤ d
  pub at : (i : ℕ) → i < d → end (get_or w i 0) ≡ v → OneOf (start (v + 1)) (λ k. (start v ≤ k) × (num k ≡ i))
  pub of : (k : ℕ) → start v ≤ k → k < start (v + 1) → (num k < d) × (end (get_or w (num k) 0) ≡ v)

-- the ends are below n, and the index places the pairs by them: it has each number
pub record Sided (end : End) (n d : ℕ) (w : List ℕ) (start num : ℕ → ℕ) (has : ℕ → Type 0) : Type 0 where
  pub below : (i : ℕ) → i < d → end (get_or w i 0) < n
  pub placed : (v : ℕ) → v < n → Placed end d w start num v
  pub numbered : (k : ℕ) → k < d → has k

-- d pairs with ends below n, and the indexes of them by both
pub record BothPlaced (n d : ℕ) (w first back rev : List ℕ) : Type 0 where
  pub nodes : n ≤ 4096
  pub ends : Ends n d w
  pub long : n < length first
  pub firsts : Firsts d n w first
  pub backs : Backs d n w back rev
