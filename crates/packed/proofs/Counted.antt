-- The turns of a loop that are left.
use Prim.Native.Nat.{ℕ, ◌+◌, ◌-◌}
use mathlib.Core.Path.{◌≡◌}
use native.Mathlib.Omega.{arith}

-- at first all of them
pub all_left : (n : ℕ) → n - 0 ≡ n
all_left n = omega arith

-- after one more, one less
pub one_less : (n k : ℕ) → n - k - 1 ≡ n - (k + 1)
one_less n k = omega arith
