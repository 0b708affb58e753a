-- The greatest part of a finite list in which every member is supported by the part itself.
use Rattle.std.specs.Prelude.{Bool, cond, List, ℕ, zero, suc, length}
use Rattle.engine.specs.Lists.{every, keep}

module _ {A : Type 0} (ok : List A → A → Bool) where
  -- drop what the list does not support until nothing more goes, at most n times
  unfoldable pub settle : ℕ → List A → List A
  settle zero l = l
  settle (suc n) l = let next = settle n (keep (ok l) l) in cond (every (ok l) l) l next

  unfoldable pub greatest : List A → List A
  greatest l = settle (length l) l
