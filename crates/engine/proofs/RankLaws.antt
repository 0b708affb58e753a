-- The word of an edge by its parts, and the order by from, to and kind.
use Prim.Native.Nat.{ℕ, ◌+◌, ◌*◌, ◌/◌, ◌%◌, ◌^◌, ◌<◌, ◌≤◌}
use mathlib.Core.Path.{◌≡◌, sym, subst}
use native.Mathlib.Omega.{arith}
use Rattle.packed.specs.Formats.{code, rank}
use Rattle.packed.specs.Matches.{pair_in}
use Rattle.packed.specs.Contents.{word_rank}

-- the pair in a word is the code of its ends
pub pair_code : (c : ℕ) → pair_in c ≡ code (c / 4096 % 4096) (c % 4096)
pair_code c = omega arith

-- of two words in order the first has no higher from, and a lower pair where the kinds are the same
pub rank_from : (a b : ℕ) → b / 2 ^ 24 < 8 → word_rank a < word_rank b → a / 4096 % 4096 ≤ b / 4096 % 4096
rank_from a b k l = lower (a / 4096 % 4096) (a % 4096) (a / 2 ^ 24) (b / 4096 % 4096) (b % 4096) (b / 2 ^ 24) (omega arith) k l
  where
    lower : (a b k c d l : ℕ) → d < 4096 → l < 8 → rank a b k < rank c d l → a ≤ c
    lower a b k c d l h g r = omega arith

pub rank_less : (a b : ℕ) → a / 2 ^ 24 ≡ b / 2 ^ 24 → word_rank a < word_rank b → pair_in a < pair_in b
rank_less a b k l =
    subst (λ (p : ℕ). p < pair_in b) (sym (pair_code a))
    (subst (λ (q : ℕ). code (a / 4096 % 4096) (a % 4096) < q) (sym (pair_code b)) (lower _ _ (a / 2 ^ 24) (b / 2 ^ 24) k l))
  where
    lower : (p q k l : ℕ) → k ≡ l → p * 8 + k < q * 8 + l → p < q
    lower p q k l e r = omega arith
