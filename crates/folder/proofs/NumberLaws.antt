-- Laws of texts of numbers.
use Rattle.std.proofs.Common.{◌≡◌, ℕ, zero, suc, ◌+◌, ◌*◌, ◌%◌, ◌^◌, ◌<◌, ◌≤◌, Bool, true, false, not, ◌||◌, eqb, List, [], ◌∷◌, ◌++◌, length, get_or, take, drop, sym, refl, ap, ◌∙◌, mod-eq_of_lt, one-mul, add-one, arith, length-append, length-take, drop-cons, le-leb}
use lib.Pow.{pow-lt}
use borrow.Author.Tests.{lt-leb}
use Rattle.folder.specs.declared.numbers.Text.{Text}
use Rattle.folder.specs.Numbers.{is_digit, line_feed, space}
use Rattle.folder.specs.Reading.{with_line, end_member, next_in_set, State, state, next, steps, at_end, empty_text, Follows, OfText}

-- ---- which bytes are digits

pub digit : (b : ℕ) → 48 ≤ b → b < 58 → is_digit b ≡ true
unfolding is_digit
digit b h k = simp (le-leb 48 b h, le-leb b 57 (omega arith))

pub below_digits : (b : ℕ) → b < 48 → is_digit b ≡ false
unfolding is_digit
below_digits b h = simp (lt-leb 48 b h)

pub above_digits : (b : ℕ) → 58 ≤ b → is_digit b ≡ false
unfolding is_digit
above_digits b h = simp (le-leb 48 b (omega arith), lt-leb b 57 (omega arith))

-- ---- a number of a set, and what stands after it

pub one_bit : (v : ℕ) → v ≤ 15 → 1 * 2 ^ v % 65536 ≡ 2 ^ v
one_bit v h = rw (one-mul (2 ^ v)) (mod-eq_of_lt (pow-lt {j = 16} (omega arith)))

pub between_members : (t e : Text) (b : ℕ) → e ≡ end_member t → not e.good || eqb b space ≡ true → e ≡ next_in_set t b
unfolding next_in_set
between_members t e b h k = rw (← h, k)

pub after_members : (t e : Text) (b : ℕ) → e ≡ end_member t → not e.good || eqb b space ≡ false → with_line e (eqb b line_feed) ≡ next_in_set t b
unfolding next_in_set
after_members t e b h k = rw (← h, k)

-- ---- bytes one after the other

-- a part of a text and then another part are the text of both
pub steps_append : (s : State) (first rest : List ℕ) → steps s (first ++ rest) ≡ steps (steps s first) rest
unfolding steps
steps_append s [] rest = refl
steps_append s (b ∷ first) rest = steps_append (next s b) first rest

pub steps_more : (s t : State) (bs : List ℕ) (i : ℕ) → i < length bs → t ≡ next s (get_or bs i 0) → steps t (drop (i + 1) bs) ≡ steps s (drop i bs)
unfolding steps
steps_more s t bs i h e = rw (add-one i, drop-cons bs i 0 h, e)

pub steps_end : (s : State) (bs : List ℕ) (i : ℕ) → length bs ≤ i → s ≡ steps s (drop i bs)
unfolding steps
steps_end s [] zero h = refl
steps_end s [] (suc i) h = refl
steps_end s (b ∷ bs) zero h = absurd (omega arith)
steps_end s (b ∷ bs) (suc i) h = steps_end s bs i (omega arith)

-- ---- a file in parts

pub follows_none : (n : ℕ) (s : State) → Follows n s s
unfolding steps
follows_none n s = record { bytes = []; few = omega arith; is = refl }

-- the first bytes of a buffer
pub follows_front : (n i : ℕ) (bs : List ℕ) (s t : State) → length bs ≤ n → t ≡ steps s (take i bs) → Follows n s t
follows_front n i bs s t h e = record { bytes = take i bs; few = omega (arith, length-take i bs); is = e }

pub follows_more : (n m k : ℕ) (s t u : State) → Follows n s t → Follows m t u → n + m ≤ k → Follows k s u
follows_more n m k s t u f g h =
    record {
      bytes = f.bytes ++ g.bytes;
      few = omega (arith, f.few, g.few, length-append f.bytes g.bytes);
      is = g.is ∙ ap (λ (v : State). steps v g.bytes) f.is ∙ sym (steps_append s f.bytes g.bytes);
    }

pub text_ends : (is_list : Bool) (ws : List ℕ) (n : ℕ) (t : Text) (s u : State) → t ≡ empty_text is_list → Follows n (state t ws) s → n ≤ 2 ^ 63 → u ≡ at_end s → OfText is_list ws u
text_ends is_list ws n t s u e f k h =
    record { bytes = f.bytes; few = omega (arith, f.few); is = h ∙ ap at_end f.is ∙ ap (λ (v : Text). at_end (steps (state v ws) f.bytes)) e }

-- a file that can't be opened has no bytes
pub no_text : (is_list : Bool) (ws : List ℕ) (t : Text) → t ≡ empty_text is_list → OfText is_list ws (state t ws)
unfolding steps at_end empty_text
no_text is_list ws t e = record { bytes = []; few = omega arith; is = ap (λ (v : Text). state v ws) e }
