-- A refusal has a number, which 0, success, is not.
use Prim.Native.Nat.{ℕ, ◌≤◌}
use mathlib.Core.Path.{◌≡◌, refl}
use mathlib.Core.Bool.{true}
use lib.Dec.{leb}
use borrow.Author.Tests.{leb-true}
use Rattle.packed.specs.Refusals.{number_of}
use Rattle.packed.specs.declared.reply.Refusal.{Refusal}
use Rattle.packed.specs.declared.reply.Refusal.TheVariants.{TooLong, Truncated, OutOfRange, NoSuchNode, DuplicateEdge, NotAscending, IsolatedNode, ZeroCount, Trailing, TooManyPairs, NotContained, NoRoom, Contained, SmallWorkspace, WrongCharges, WrongIndex, WrongQuestions, WrongTerms, WrongSet, OldSlip, LastChange}

pub record Positive (n : ℕ) : Type 0 where
  pub least : 1 ≤ n

positive : (n : ℕ) → leb 1 n ≡ true → Positive n
positive n p = record { least = leb-true 1 n p }

pub refusal_numbered : (x : Refusal) → Positive (number_of x)
refusal_numbered (TooLong d) = positive 1 refl
refusal_numbered (Truncated d) = positive 2 refl
refusal_numbered (OutOfRange d) = positive 3 refl
refusal_numbered (NoSuchNode d) = positive 4 refl
refusal_numbered (DuplicateEdge d) = positive 5 refl
refusal_numbered (NotAscending d) = positive 6 refl
refusal_numbered (IsolatedNode d) = positive 7 refl
refusal_numbered (ZeroCount d) = positive 8 refl
refusal_numbered (Trailing d) = positive 9 refl
refusal_numbered (TooManyPairs d) = positive 10 refl
refusal_numbered (NotContained d) = positive 11 refl
refusal_numbered (NoRoom d) = positive 12 refl
refusal_numbered Contained = positive 13 refl
refusal_numbered SmallWorkspace = positive 14 refl
refusal_numbered (WrongCharges d) = positive 15 refl
refusal_numbered (WrongIndex d) = positive 16 refl
refusal_numbered (WrongQuestions d) = positive 17 refl
refusal_numbered (WrongTerms d) = positive 18 refl
refusal_numbered (WrongSet d) = positive 19 refl
refusal_numbered (OldSlip d) = positive 20 refl
refusal_numbered (LastChange d) = positive 21 refl
