-- inner: masks as sets of numbers, and the sets that the words of a table stand for.
use Rattle.std.specs.Prelude.{ℕ, ◌/◌, ◌%◌, ◌<◌, ◌≡◌, T}
use Rattle.engine.specs.Simulation.{bit}

-- the mask x has k
abbrev pub Has : ℕ → ℕ → Type 0
Has x k = T (bit x k)

-- the mask r has exactly the numbers k with Q k
pub record Mask (Q : ℕ → Type 0) (r : ℕ) : Type 0 where
  pub hit : (k : ℕ) → Q k → Has r k
  pub why : (k : ℕ) → Has r k → Q k

-- Q holds of a number below n
pub record OneOf (n : ℕ) (Q : ℕ → Type 0) : Type 0 where
  pub at : ℕ
  pub below : at < n
  pub holds : Q at

-- the node u is in the set that i names: i / 16 is a group of four nodes, and i % 16 a mask of its members
pub record Names (i u : ℕ) : Type 0 where
  pub group : u / 4 ≡ i / 16
  pub member : Has (i % 16) (u % 4)
