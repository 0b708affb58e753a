-- Text files of decimal numbers: what the bytes of `charges` (decisions 8.8 and 8.9), of `set` and `one_way` (decision 8.12) and of `number` (decision 8.21) say.
use Rattle.std.specs.Prelude.{◌≡◌, ℕ, ◌+◌, ◌-◌, ◌*◌, ◌^◌, ◌≤◌, Bool, true, false, ◌&&◌, List, [], ◌∷◌, length, ◌==◌, bit_or, nat_le, slice_set, Option, Some, None, Result, Ok, Err}
use Rattle.packed.specs.Format.{pick}
use Rattle.folder.specs.declared.numbers.WrongLine.{WrongLine}

-- 8.8: a number is at most this
abbrev pub most : ℕ
most = 4294967295

-- 8.8, 8.12: the bytes of the digits 0 to 9
unfoldable pub is_digit : ℕ → Bool
is_digit b = nat_le 48 b && nat_le b 57

-- the byte that ends a line
abbrev pub line_feed : ℕ
line_feed = 10

-- 8.12: the other byte that stands between the numbers of a set
abbrev pub space : ℕ
space = 32

-- ---- a list: lines

-- a byte before the first line
unfoldable pub onto : ℕ → List (List ℕ) → List (List ℕ)
onto b [] = (b ∷ []) ∷ []
onto b (l ∷ ls) = (b ∷ l) ∷ ls

-- 8.8: the lines of a text: each ends in a line feed, which the last may lack, so no bytes have no line
unfoldable pub lines_of : List ℕ → List (List ℕ)
lines_of [] = []
lines_of (b ∷ bs) = pick (b == line_feed) ([] ∷ lines_of bs) (onto b (lines_of bs))

unfoldable pub all_digits : List ℕ → Bool
all_digits [] = true
all_digits (b ∷ bs) = is_digit b && all_digits bs

unfoldable pub is_there : List ℕ → Bool
is_there [] = false
is_there (b ∷ bs) = true

-- the number that digits go on to write after v
unfoldable pub value_from : ℕ → List ℕ → ℕ
value_from v [] = v
value_from v (b ∷ bs) = value_from (v * 10 + (b - 48)) bs

-- the number that digits write, however long; leading zeros are no fault
unfoldable pub value_of : List ℕ → ℕ
value_of l = value_from 0 l

-- 8.8: one decimal number in digits alone, from 0 to the most
unfoldable pub is_charge : List ℕ → Bool
is_charge l = all_digits l && is_there l && nat_le (value_of l) most

-- how many lines there are, or which is no number, and the lent words
pub record Listed : Type 0 where
  pub count : ℕ
  pub good : Bool
  pub words : List ℕ

-- 8.8, 8.9: lines after n others: all are counted, each number goes to its place where there is one, and the first that is no number is named
unfoldable pub list_of : ℕ → List ℕ → List (List ℕ) → Listed
list_of n ws [] = record { count = n; good = true; words = ws }
list_of n ws (l ∷ ls) =
    pick (is_charge l)
    (list_of (n + 1) (slice_set ws n (value_of l)) ls)
    (record { count = n + 1; good = false; words = ws })

-- ---- one number: a list of one line

-- the number, or that there is none
pub data NumberTold : Type 0 where
  number : ℕ → NumberTold
  none : NumberTold

-- 8.21: one line, which is a number
unfoldable pub number_in : List (List ℕ) → NumberTold
number_in [] = none
number_in (l ∷ []) = pick (is_charge l) (number (value_of l)) none
number_in (l ∷ k ∷ ls) = none

-- what reading tells of a number
unfoldable pub number_told : Option ℕ → NumberTold
number_told (Some x) = number x
number_told None = none

-- ---- a set: numbers between spaces and line ends

-- what stands between two spaces or line ends, or nothing, and the number of its line, from 1
pub record Piece : Type 0 where
  pub line : ℕ
  pub bytes : List ℕ

-- a byte before the first piece
unfoldable pub onto_piece : ℕ → List Piece → List Piece
onto_piece b [] = []
onto_piece b (q ∷ qs) = record { line = q.line; bytes = b ∷ q.bytes } ∷ qs

-- 8.12: the pieces of a text, from the line n on
unfoldable pub pieces_of : ℕ → List ℕ → List Piece
pieces_of n [] = record { line = n; bytes = [] } ∷ []
pieces_of n (b ∷ bs) =
    pick (b == line_feed)
    (record { line = n; bytes = [] } ∷ pieces_of (n + 1) bs)
    (pick (b == space) (record { line = n; bytes = [] } ∷ pieces_of n bs) (onto_piece b (pieces_of n bs)))

-- 8.12: a decimal number from 0 to 15, or nothing
unfoldable pub is_member : List ℕ → Bool
is_member l = all_digits l && nat_le (value_of l) 15

-- a set with one number more, which may be in it; nothing adds none
unfoldable pub with_member : ℕ → List ℕ → ℕ
with_member x l = pick (is_there l) (bit_or x (2 ^ value_of l)) x

-- a set as its bits, or the line that a failure names
pub data SetTold : Type 0 where
  members : ℕ → SetTold
  failed : ℕ → SetTold

-- 8.12: the numbers of the pieces, beside those of the set x; anything else is a failure that names the line
unfoldable pub set_of : ℕ → List Piece → SetTold
set_of x [] = members x
set_of x (q ∷ qs) = pick (is_member q.bytes) (set_of (with_member x q.bytes) qs) (failed q.line)

-- what reading tells of a set
unfoldable pub set_told : Result ℕ WrongLine → SetTold
set_told (Ok x) = members x
set_told (Err w) = failed w.line

-- ---- a file

-- what reading tells of a list, with the words that were lent
unfoldable pub list_told : Result ℕ WrongLine → List ℕ → Listed
list_told (Ok n) ws = record { count = n; good = true; words = ws }
list_told (Err w) ws = record { count = w.line; good = false; words = ws }

-- No contract can say which bytes the system reads. Some text was read, no longer than a file can be, and what is told is what its lines say..
pub record ListRead (ws : List ℕ) (l : Listed) : Type 0 where
  pub bytes : List ℕ
  pub few : length bytes ≤ 2 ^ 63
  pub is : l ≡ list_of 0 ws (lines_of bytes)

-- .. or what its numbers say
pub record SetRead (t : SetTold) : Type 0 where
  pub bytes : List ℕ
  pub few : length bytes ≤ 2 ^ 63
  pub is : t ≡ set_of 0 (pieces_of 1 bytes)

-- .. or what its one line says
pub record NumberRead (t : NumberTold) : Type 0 where
  pub bytes : List ℕ
  pub few : length bytes ≤ 2 ^ 63
  pub is : t ≡ number_in (lines_of bytes)
