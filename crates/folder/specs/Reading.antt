-- inner: a text of numbers read byte by byte: the text so far, and the words that are lent for its numbers.
use Rattle.std.specs.Prelude.{◌≡◌, ℕ, ◌+◌, ◌-◌, ◌*◌, ◌%◌, ◌^◌, ◌≤◌, Bool, true, false, not, ◌&&◌, ◌||◌, List, [], ◌∷◌, length, set, ◌==◌, bit_or, nat_le, nat_lt}
use Rattle.packed.specs.Format.{pick}
use Rattle.folder.specs.declared.numbers.Text.{Text}
use Rattle.folder.specs.Numbers.{most, is_digit, line_feed, space, Listed, SetTold, members, failed}

-- ---- a text so far

-- no byte is read yet
unfoldable pub empty_text : Bool → Text
empty_text is_list = record { count = 0; good = true; set = 0; is_list = is_list; begun = false; value = 0 }

-- a line more, which is as it should be or is the one that a failure names
unfoldable pub with_line : Text → Bool → Text
with_line t good = record { count = (t.count + 1) % 2 ^ 64; good = good; set = t.set; is_list = t.is_list; begun = false; value = 0 }

-- a digit more; a number over the most stays as it is
unfoldable pub with_digit : Text → ℕ → Text
with_digit t d =
    pick (nat_lt most t.value)
    t
    (record { count = t.count; good = t.good; set = t.set; is_list = t.is_list; begun = true; value = t.value * 10 + d })

-- 8.8: a line is one number: one digit at least, and no more than the most
unfoldable pub is_number : Text → Bool
is_number t = nat_le t.value most && t.begun

-- 8.12: a number that has begun is at its end: one of 0 to 15 is in the set, and a larger one is a failure
unfoldable pub end_member : Text → Text
end_member t =
    pick t.begun
    (pick (nat_le t.value 15)
    (record { count = t.count; good = true; set = bit_or t.set (2 ^ t.value); is_list = false; begun = false; value = 0 })
    (with_line t false))
    t

-- 8.12: after a number stands a space or a line end
unfoldable pub next_in_set : Text → ℕ → Text
next_in_set t b = pick (not (end_member t).good || b == space) (end_member t) (with_line (end_member t) (b == line_feed))

-- ---- a text and the words that are lent for its numbers

pub record State : Type 0 where
  pub text : Text
  pub words : List ℕ

abbrev pub state : Text → List ℕ → State
state t ws = record { text = t; words = ws }

-- 8.8: a line of a list is at its end: its number goes to its place, where there is one
unfoldable pub end_line : State → State
end_line s =
    pick (is_number s.text)
    (state (with_line s.text true) (set s.words s.text.count s.text.value))
    (state (with_line s.text false) s.words)

-- 8.8: after a number stands a line end
unfoldable pub next_in_list : State → ℕ → State
next_in_list s b = pick (b == line_feed) (end_line s) (state (with_line s.text false) s.words)

-- the next byte; the first line that is not as it should be is the last that counts
unfoldable pub next : State → ℕ → State
next s b =
    pick s.text.good
    (pick (is_digit b)
    (state (with_digit s.text (b - 48)) s.words)
    (pick s.text.is_list (next_in_list s b) (state (next_in_set s.text b) s.words)))
    s

-- bytes one after the other
unfoldable pub steps : State → List ℕ → State
steps s [] = s
steps s (b ∷ bs) = steps (next s b) bs

-- 8.8: the last line may lack its line end
unfoldable pub at_end : State → State
at_end s = pick s.text.begun (next s line_feed) s

-- what a state tells of a list
abbrev pub listed : State → Listed
listed s = record { count = s.text.count; good = s.text.good; words = s.words }

-- what a text tells of a set
unfoldable pub set_in : Text → SetTold
set_in t = pick t.good (members t.set) (failed t.count)

-- the state after the last byte
abbrev pub whole : Bool → List ℕ → List ℕ → State
whole is_list ws bs = at_end (steps (state (empty_text is_list) ws) bs)

-- ---- a file, read in parts

-- at most n bytes lead from one state to the other
pub record Follows (n : ℕ) (s t : State) : Type 0 where
  pub bytes : List ℕ
  pub few : length bytes ≤ n
  pub is : t ≡ steps s bytes

-- the state is that after the last byte of some text
pub record OfText (is_list : Bool) (ws : List ℕ) (s : State) : Type 0 where
  pub bytes : List ℕ
  pub few : length bytes ≤ 2 ^ 63
  pub is : s ≡ whole is_list ws bytes
