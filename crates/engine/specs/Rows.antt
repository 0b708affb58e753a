-- inner: the steps that make a table.
use Rattle.std.specs.Prelude.{ℕ, ◌<◌, ◌≤◌, ◌≡◌, List, length, get_or}
use Rattle.engine.specs.Masks.{Has, Mask, OneOf, Names}

-- r has the links below m that have x in b
abbrev pub RowOf : List ℕ → ℕ → ℕ → ℕ → Type 0
RowOf b m x r = Mask (λ k. OneOf m (λ j. (j ≡ k) × (x ≡ get_or b j 0))) r

-- for each item below 64 the links below m that have it in b
pub record ByItem (b : List ℕ) (m : ℕ) (t : List ℕ) : Type 0 where
  pub long : length t ≡ 64
  pub each : (x : ℕ) → x < 64 → RowOf b m x (get_or t x 0)

-- for each link below m the links that have in b what it has in a
pub record RowsOf (a b : List ℕ) (m : ℕ) (t : List ℕ) : Type 0 where
  pub each : (e : ℕ) → e < m → RowOf b m (get_or a e 0) (get_or t e 0)
  pub rest : (e : ℕ) → m ≤ e → get_or t e 0 ≡ 0

-- r has what the rows have that i names
abbrev pub WordOf : List ℕ → ℕ → ℕ → Type 0
WordOf t i r = Mask (λ k. OneOf 32 (λ e. Names i e × Has (get_or t e 0) k)) r
