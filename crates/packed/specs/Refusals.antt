-- The number and the detail of each refusal, and of every answer that is an enum: 0 for success, and then its values.
use Rattle.std.specs.Prelude.{ℕ, List, [], ◌∷◌, Ok, Err}
use Rattle.packed.specs.declared.reply.File.{File}
use Rattle.packed.specs.declared.reply.File.TheVariants.{Pattern, Catalogue, Record, Sheet, Other}
use Rattle.packed.specs.declared.reply.Refusal.{Refusal}
use Rattle.packed.specs.declared.reply.Refusal.TheVariants.{TooLong, Truncated, OutOfRange, NoSuchNode, DuplicateEdge, NotAscending, IsolatedNode, ZeroCount, Trailing, TooManyPairs, NotContained, NoRoom, Contained, SmallWorkspace, WrongCharges, WrongIndex, WrongQuestions, WrongTerms, WrongSet, OldSlip, LastChange}
use Rattle.packed.specs.declared.reply.Wrong.{Wrong}
use Rattle.packed.specs.declared.reply.Wrong.TheVariants.{Range, Node}
use Rattle.packed.specs.Parts.{Reply, Both}

-- the number of a kind of file
abbrev pub file_number : File → ℕ
file_number Pattern = 1
file_number Catalogue = 2
file_number Record = 3
file_number Sheet = 4
file_number (Other n) = n

-- inner: the number of the refusal of a field whose value lies outside its range
abbrev pub wrong_number : Wrong → ℕ
wrong_number Range = 3
wrong_number Node = 4

abbrev pub number_of : Refusal → ℕ
number_of (TooLong d) = 1
number_of (Truncated d) = 2
number_of (OutOfRange d) = 3
number_of (NoSuchNode d) = 4
number_of (DuplicateEdge d) = 5
number_of (NotAscending d) = 6
number_of (IsolatedNode d) = 7
number_of (ZeroCount d) = 8
number_of (Trailing d) = 9
number_of (TooManyPairs d) = 10
number_of (NotContained d) = 11
number_of (NoRoom d) = 12
number_of Contained = 13
number_of SmallWorkspace = 14
number_of (WrongCharges d) = 15
number_of (WrongIndex d) = 16
number_of (WrongQuestions d) = 17
number_of (WrongTerms d) = 18
number_of (WrongSet d) = 19
number_of (OldSlip d) = 20
number_of (LastChange d) = 21

-- 1 to 10: the file's number; 11: the lowest unmatched edge; 12: the size needed; 13 and 14: zero; 15: how many charges were lent; 16: how many
-- entries were lent, or the first that differs; 17: how many questions were sent; 18: how many terms were lent, or the first that ends before it begins;
-- 19: the lowest number in the set that is no view; 20 and 21: the state's change number
abbrev pub detail_of : Refusal → ℕ
detail_of (TooLong f) = file_number f
detail_of (Truncated f) = file_number f
detail_of (OutOfRange f) = file_number f
detail_of (NoSuchNode f) = file_number f
detail_of (DuplicateEdge f) = file_number f
detail_of (NotAscending f) = file_number f
detail_of (IsolatedNode f) = file_number f
detail_of (ZeroCount f) = file_number f
detail_of (Trailing f) = file_number f
detail_of (TooManyPairs f) = file_number f
detail_of (NotContained d) = d
detail_of (NoRoom d) = d
detail_of Contained = 0
detail_of SmallWorkspace = 0
detail_of (WrongCharges d) = d
detail_of (WrongIndex d) = d
detail_of (WrongQuestions d) = d
detail_of (WrongTerms d) = d
detail_of (WrongSet d) = d
detail_of (OldSlip d) = d
detail_of (LastChange d) = d

-- what an answer tells: a number, 0 for success, and values
pub data Told : Type 0 where
  told : ℕ → List ℕ → Told

-- the answer of a call with one output: how much of it was written, or the refusal with its detail
abbrev pub reply_told : Reply → Told
reply_told (Ok n) = told 0 (n ∷ [])
reply_told (Err x) = told (number_of x) (detail_of x ∷ [])

-- the same with two outputs
abbrev pub both_told : Both → Told
both_told (Ok (a, b)) = told 0 (a ∷ b ∷ [])
both_told (Err x) = told (number_of x) (detail_of x ∷ [])
