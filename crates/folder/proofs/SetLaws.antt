-- Byte by byte a set is read as its pieces say.
use Rattle.std.proofs.Common.{◌≡◌, ℕ, suc, ◌+◌, ◌-◌, ◌^◌, ◌<◌, ◌≤◌, Bool, true, false, eqb, leb, List, [], ◌∷◌, ◌++◌, length, sym, refl, ap, ◌∙◌, ap₂, append_assoc, append-nil, arith, ne_eqb, eqb-true, le-leb, leb-false, leb-true}
use lib.Bits.{bit_or}
use borrow.Author.Tests.{lt-leb}
use Rattle.folder.specs.declared.numbers.Text.{Text}
use Rattle.folder.specs.Numbers.{most, is_digit, line_feed, space, all_digits, is_there, value_from, value_of}
use Rattle.folder.specs.Numbers.{Piece, onto_piece, pieces_of, is_member, with_member, SetTold, members, failed, set_of, SetRead}
use Rattle.folder.specs.Reading.{empty_text, with_line, with_digit, end_member, next_in_set, State, state, next, steps, at_end, whole, set_in, OfText}
use Rattle.folder.proofs.NumberLaws.{below_digits}
use Rattle.folder.proofs.ListLaws.{first_digit, other_digits, digit_no_feed, value_there, Within, fresh, start, within_digit}
use Rattle.folder.proofs.ListLaws.{digit_count, bad_stays, next_digit, line_count, at_line_end, at_end_within, bad_line_is, digit_added, digit_kept}

-- ---- the pieces of a text

abbrev piece : ℕ → List ℕ → Piece
piece n l = record { line = n; bytes = l }

digit_no_space : (b : ℕ) → is_digit b ≡ true → eqb b space ≡ false
digit_no_space b h = ne_eqb b 32 (λ e. let k = below_digits b (omega arith) in let z : ◌≡◌ {A = ℕ} 0 1 = cc in omega arith)

-- digits stand before what follows
piece_digit : (n x : ℕ) (bs : List ℕ) → is_digit x ≡ true → pieces_of n (x ∷ bs) ≡ onto_piece x (pieces_of n bs)
unfolding pieces_of
piece_digit n x bs h = simp (digit_no_feed x h, digit_no_space x h)

piece_line : (n : ℕ) (p bs : List ℕ) → all_digits p ≡ true → pieces_of n (p ++ (line_feed ∷ bs)) ≡ piece n p ∷ pieces_of (n + 1) bs
unfolding pieces_of onto_piece
piece_line n [] bs h = refl
piece_line n (x ∷ p) bs h = piece_digit n x (p ++ (line_feed ∷ bs)) (first_digit x p h) ∙ ap (onto_piece x) (piece_line n p bs (other_digits x p h))

piece_space : (n : ℕ) (p bs : List ℕ) → all_digits p ≡ true → pieces_of n (p ++ (space ∷ bs)) ≡ piece n p ∷ pieces_of n bs
unfolding pieces_of onto_piece
piece_space n [] bs h = refl
piece_space n (x ∷ p) bs h = piece_digit n x (p ++ (space ∷ bs)) (first_digit x p h) ∙ ap (onto_piece x) (piece_space n p bs (other_digits x p h))

piece_last : (n : ℕ) (p : List ℕ) → all_digits p ≡ true → pieces_of n p ≡ piece n p ∷ []
unfolding pieces_of onto_piece
piece_last n [] h = refl
piece_last n (x ∷ p) h = piece_digit n x p (first_digit x p h) ∙ ap (onto_piece x) (piece_last n p (other_digits x p h))

-- the first piece is of the line n, and has something else than digits
record Spoilt (n : ℕ) (qs : List Piece) : Type 0 where
  bytes : List ℕ
  others : List Piece
  is : qs ≡ piece n bytes ∷ others
  no : all_digits bytes ≡ false

-- there is a first piece, of the line n
record First (n : ℕ) (qs : List Piece) : Type 0 where
  bytes : List ℕ
  others : List Piece
  is : qs ≡ piece n bytes ∷ others

first_onto : (n b : ℕ) (qs : List Piece) → First n qs → First n (onto_piece b qs)
unfolding onto_piece
first_onto n b qs k = record { bytes = b ∷ k.bytes; others = k.others; is = rw k.is }

first_more : (n b : ℕ) (bs : List ℕ) (c d : Bool) → eqb b line_feed ≡ c → eqb b space ≡ d → First n (pieces_of n bs) → First n (pieces_of n (b ∷ bs))
unfolding pieces_of
first_more n b bs true d e f k = record { bytes = []; others = pieces_of (n + 1) bs; is = simp e }
first_more n b bs false true e f k = record { bytes = []; others = pieces_of n bs; is = simp (e, f) }
first_more n b bs false false e f k = rw (e, f) (first_onto n b (pieces_of n bs) k)

first_of : (n : ℕ) (bs : List ℕ) → First n (pieces_of n bs)
unfolding pieces_of
first_of n [] = record { bytes = []; others = []; is = refl }
first_of n (b ∷ bs) = first_more n b bs (eqb b line_feed) (eqb b space) refl refl (first_of n bs)

spoilt_by : (n b : ℕ) (qs : List Piece) → is_digit b ≡ false → First n qs → Spoilt n (onto_piece b qs)
unfolding onto_piece all_digits
spoilt_by n b qs h k = record { bytes = b ∷ k.bytes; others = k.others; is = rw k.is; no = rw h }

spoilt_onto : (n x : ℕ) (qs : List Piece) → is_digit x ≡ true → Spoilt n qs → Spoilt n (onto_piece x qs)
unfolding onto_piece all_digits
spoilt_onto n x qs h k = record { bytes = x ∷ k.bytes; others = k.others; is = rw k.is; no = rw (h, k.no) }

spoilt : (n : ℕ) (p : List ℕ) (b : ℕ) (bs : List ℕ) → all_digits p ≡ true → is_digit b ≡ false → eqb b line_feed ≡ false → eqb b space ≡ false
    → Spoilt n (pieces_of n (p ++ (b ∷ bs)))
unfolding pieces_of
spoilt n [] b bs h k e f = rw (e, f) (spoilt_by n b (pieces_of n bs) k (first_of n bs))
spoilt n (x ∷ p) b bs h k e f =
    rw (piece_digit n x (p ++ (b ∷ bs)) (first_digit x p h))
    (spoilt_onto n x (pieces_of n (p ++ (b ∷ bs))) (first_digit x p h) (spoilt n p b bs (other_digits x p h) k e f))

-- ---- the pieces that follow

good_piece : (x n : ℕ) (l : List ℕ) (qs : List Piece) → is_member l ≡ true → set_of x (piece n l ∷ qs) ≡ set_of (with_member x l) qs
unfolding set_of
good_piece x n l qs h = simp h

bad_piece : (x n : ℕ) (l : List ℕ) (qs : List Piece) → is_member l ≡ false → set_of x (piece n l ∷ qs) ≡ failed n
unfolding set_of
bad_piece x n l qs h = simp h

spoilt_piece : (x n : ℕ) (qs : List Piece) → Spoilt n qs → set_of x qs ≡ failed n
unfolding is_member
spoilt_piece x n qs k = rw k.is (bad_piece x n k.bytes k.others (simp k.no))

-- ---- a number at its end

member_is : (p : List ℕ) → all_digits p ≡ true → is_member p ≡ leb (value_of p) 15
unfolding is_member
member_is p h = simp h

-- a number of 0 to 15, or none, is in the set, and the next may begin
record Ended (t : Text) (p : List ℕ) (u : Text) : Type 0 where
  within : Within false u []
  set : u.set ≡ with_member t.set p
  count : u.count ≡ t.count

none_ends : (t : Text) → t.begun ≡ false → end_member t ≡ t
unfolding end_member
none_ends t h = simp h

one_ends : (t : Text) → t.begun ≡ true → t.value ≤ 15
    → end_member t ≡ record { count = t.count; good = true; set = bit_or t.set (2 ^ t.value); is_list = false; begun = false; value = 0 }
unfolding end_member
one_ends t h k = simp (h, le-leb _ _ k)

member_ends : (t : Text) (p : List ℕ) → Within false t p → is_member p ≡ true → Ended t p (end_member t)
unfolding is_there with_member all_digits value_of value_from
member_ends t [] w h = rw (none_ends t w.begun) (record { within = w; set = refl; count = refl })
member_ends t (x ∷ q) w h =
    let k : value_of (x ∷ q) ≤ 15 = leb-true _ _ (sym (member_is (x ∷ q) w.digits) ∙ h) in
    let e : t.value ≡ value_of (x ∷ q) = w.small (omega arith) in
    rw (one_ends t w.begun (omega arith))
    (record {
      within = record { good = refl; kind = refl; begun = refl; digits = refl; small = λ m. refl; large = λ m. absurd (omega arith) };
      set = ap (λ (n : ℕ). bit_or t.set (2 ^ n)) e;
      count = refl;
    })

large_value : (t : Text) (p : List ℕ) → Within false t p → 15 < value_of p → 15 < t.value
large_value t p w h = by (leb (value_of p) most) refl
  where
    by : (c : Bool) → leb (value_of p) most ≡ c → 15 < t.value
    by true e = omega (arith, w.small (leb-true _ _ e))
    by false e = omega (arith, w.large (leb-false _ _ e))

-- a larger one is a failure
member_fails : (t : Text) (p : List ℕ) → Within false t p → is_member p ≡ false → end_member t ≡ with_line t false
unfolding end_member
member_fails t p w h =
    let k : 15 < value_of p = leb-false _ _ (sym (member_is p w.digits) ∙ h) in
    let b : t.begun ≡ true = w.begun ∙ value_there p (omega arith) in
    simp (b, lt-leb _ _ (large_value t p w k))

digit_set : (t : Text) (d : ℕ) → (with_digit t d).set ≡ t.set
digit_set t d = by (leb t.value most) refl
  where
    by : (c : Bool) → leb t.value most ≡ c → (with_digit t d).set ≡ t.set
    by true e = ap (λ (u : Text). u.set) (digit_added t d (leb-true _ _ e))
    by false e = ap (λ (u : Text). u.set) (digit_kept t d (leb-false _ _ e))

-- ---- the next byte

next_set : (t : Text) (ws : List ℕ) (b : ℕ) → t.good ≡ true → t.is_list ≡ false → is_digit b ≡ false → next (state t ws) b ≡ state (next_in_set t b) ws
unfolding next
next_set t ws b g l h = simp (g, l, h)

set_bad : (t : Text) (b : ℕ) → end_member t ≡ with_line t false → next_in_set t b ≡ with_line t false
unfolding next_in_set with_line
set_bad t b e = rw e

set_space : (t : Text) → (end_member t).good ≡ true → next_in_set t space ≡ end_member t
unfolding next_in_set
set_space t g = simp g

set_feed : (t : Text) → (end_member t).good ≡ true → next_in_set t line_feed ≡ with_line (end_member t) true
unfolding next_in_set
set_feed t g = simp g

set_other : (t : Text) (b : ℕ) → (end_member t).good ≡ true → eqb b space ≡ false → eqb b line_feed ≡ false → next_in_set t b ≡ with_line (end_member t) false
unfolding next_in_set
set_other t b g e f = simp (g, e, f)

-- ---- a whole set

told_good : (t : Text) → t.good ≡ true → set_in t ≡ members t.set
unfolding set_in
told_good t h = simp h

told_line : (t : Text) → set_in (with_line t true) ≡ members t.set
unfolding set_in with_line
told_line t = refl

told_bad : (u : Text) → u.good ≡ false → set_in u ≡ failed u.count
unfolding set_in
told_bad u e = simp e

told_failed : (t : Text) (m : ℕ) → t.count + m + 1 < 2 ^ 64 → set_in (with_line t false) ≡ failed (t.count + 1)
told_failed t m h = told_bad (with_line t false) (bad_line_is t) ∙ ap failed (line_count t false m h)

-- what is told at the end of a text
abbrev told_of : State → SetTold
told_of s = set_in (at_end s).text

ends_failed : (t : Text) (ws bs : List ℕ) (m : ℕ) → t.count + m + 1 < 2 ^ 64 → told_of (steps (state (with_line t false) ws) bs) ≡ failed (t.count + 1)
ends_failed t ws bs m h =
    ap told_of (bad_stays (state (with_line t false) ws) bs (bad_line_is t))
    ∙ ap (λ (s : State). set_in s.text) (at_line_end t false ws)
    ∙ told_failed t m h

line_set : (t : Text) → (with_line t true).set ≡ t.set
unfolding with_line
line_set t = refl

-- from within a number, the bytes that follow are read as the pieces that they make
abbrev Says : List ℕ → Type 0
Says bs = (p : List ℕ) (t : Text) (ws : List ℕ) → Within false t p → t.count + length bs + 1 < 2 ^ 64
    → told_of (steps (state t ws) bs) ≡ set_of t.set (pieces_of (t.count + 1) (p ++ bs))

says_digit : (b : ℕ) (bs : List ℕ) → Says bs → is_digit b ≡ true → Says (b ∷ bs)
unfolding steps
says_digit b bs ih h p t ws w k =
    let c = digit_count t (b - 48) in
    let e = ih (p ++ (b ∷ [])) (with_digit t (b - 48)) ws (within_digit false t p b w h) (omega arith) in
    rw (next_digit t ws b w.good h)
    (e ∙ ap₂ (λ (n : ℕ) (x : ℕ). set_of x (pieces_of (n + 1) ((p ++ (b ∷ [])) ++ bs))) c (digit_set t (b - 48))
    ∙ ap (λ (l : List ℕ). set_of t.set (pieces_of (t.count + 1) l)) (append_assoc p (b ∷ []) bs))

says_space : (bs : List ℕ) → Says bs → Says (space ∷ bs)
unfolding steps
says_space bs ih p t ws w k =
    rw (next_set t ws space w.good w.kind (below_digits 32 (omega arith)), piece_space (t.count + 1) p bs w.digits) (by (is_member p) refl)
  where
    by : (c : Bool) → is_member p ≡ c → told_of (steps (state (next_in_set t space) ws) bs) ≡ set_of t.set (piece (t.count + 1) p ∷ pieces_of (t.count + 1) bs)
    by true h =
        let u = member_ends t p w h in
        let c = u.count in
        rw (set_space t u.within.good, good_piece t.set (t.count + 1) p (pieces_of (t.count + 1) bs) h)
        (ih [] (end_member t) ws u.within (omega arith) ∙ ap₂ (λ (x n : ℕ). set_of x (pieces_of (n + 1) bs)) u.set c)
    by false h =
        rw (set_bad t space (member_fails t p w h), bad_piece t.set (t.count + 1) p (pieces_of (t.count + 1) bs) h)
        (ends_failed t ws bs (suc (length bs)) k)

says_feed : (bs : List ℕ) → Says bs → Says (line_feed ∷ bs)
unfolding steps
says_feed bs ih p t ws w k =
    rw (next_set t ws line_feed w.good w.kind (below_digits 10 (omega arith)), piece_line (t.count + 1) p bs w.digits) (by (is_member p) refl)
  where
    by : (c : Bool) → is_member p ≡ c
        → told_of (steps (state (next_in_set t line_feed) ws) bs) ≡ set_of t.set (piece (t.count + 1) p ∷ pieces_of (t.count + 1 + 1) bs)
    by true h =
        let u = member_ends t p w h in
        let d = u.count in
        let c = line_count (end_member t) true (suc (length bs)) (omega arith) in
        rw (set_feed t u.within.good, good_piece t.set (t.count + 1) p (pieces_of (t.count + 1 + 1) bs) h)
        (ih [] (with_line (end_member t) true) ws (fresh false (end_member t) u.within.kind) (omega arith)
        ∙ ap₂ (λ (x n : ℕ). set_of x (pieces_of (n + 1) bs)) (line_set (end_member t) ∙ u.set) (c ∙ ap (λ (n : ℕ). n + 1) d))
    by false h =
        rw (set_bad t line_feed (member_fails t p w h), bad_piece t.set (t.count + 1) p (pieces_of (t.count + 1 + 1) bs) h)
        (ends_failed t ws bs (suc (length bs)) k)

says_other : (b : ℕ) (bs : List ℕ) → is_digit b ≡ false → eqb b line_feed ≡ false → eqb b space ≡ false → Says (b ∷ bs)
unfolding steps
says_other b bs h f g p t ws w k =
    rw (next_set t ws b w.good w.kind h) (by (is_member p) refl)
    ∙ sym (spoilt_piece t.set (t.count + 1) (pieces_of (t.count + 1) (p ++ (b ∷ bs))) (spoilt (t.count + 1) p b bs w.digits h f g))
  where
    by : (c : Bool) → is_member p ≡ c → told_of (steps (state (next_in_set t b) ws) bs) ≡ failed (t.count + 1)
    by true m =
        let u = member_ends t p w m in
        let d = u.count in
        rw (set_other t b u.within.good g f)
        (ends_failed (end_member t) ws bs (suc (length bs)) (omega arith) ∙ ap (λ (n : ℕ). failed (n + 1)) d)
    by false m = rw (set_bad t b (member_fails t p w m)) (ends_failed t ws bs (suc (length bs)) k)

says_more : (b : ℕ) (bs : List ℕ) → Says bs → Says (b ∷ bs)
says_more b bs ih = by (is_digit b) (eqb b line_feed) (eqb b space) refl refl refl
  where
    by : (c d e : Bool) → is_digit b ≡ c → eqb b line_feed ≡ d → eqb b space ≡ e → Says (b ∷ bs)
    by true d e h f g = says_digit b bs ih h
    by false true e h f g = rw (eqb-true b line_feed f) (says_feed bs ih)
    by false false true h f g = rw (eqb-true b space g) (says_space bs ih)
    by false false false h f g = says_other b bs h f g

-- the last number may lack what ends it
none_says : (t : Text) (ws : List ℕ) → Within false t [] → told_of (state t ws) ≡ set_of t.set (pieces_of (t.count + 1) [])
unfolding at_end pieces_of set_of is_member with_member is_there all_digits value_of value_from
none_says t ws w = let b = w.begun in simp (b) (told_good t w.good)

none_left : (x : ℕ) → set_of x [] ≡ members x
unfolding set_of
none_left x = refl

last_says : (p : List ℕ) (t : Text) (ws : List ℕ) → Within false t p → is_there p ≡ true → t.count + 0 + 1 < 2 ^ 64
    → told_of (state t ws) ≡ set_of t.set (pieces_of (t.count + 1) p)
last_says p t ws w there k =
    rw
    (at_end_within t ws (w.begun ∙ there), next_set t ws line_feed w.good w.kind (below_digits 10 (omega arith)), piece_last (t.count + 1) p w.digits)
    (by (is_member p) refl)
  where
    by : (c : Bool) → is_member p ≡ c → set_in (next_in_set t line_feed) ≡ set_of t.set (piece (t.count + 1) p ∷ [])
    by true h =
        let u = member_ends t p w h in
        rw (set_feed t u.within.good, good_piece t.set (t.count + 1) p [] h, none_left (with_member t.set p))
        (told_line (end_member t) ∙ ap members u.set)
    by false h = rw (set_bad t line_feed (member_fails t p w h), bad_piece t.set (t.count + 1) p [] h) (told_failed t 0 k)

says_none : Says []
unfolding steps is_there
says_none [] t ws w k = none_says t ws w
says_none (x ∷ q) t ws w k = rw (append-nil q) (last_says (x ∷ q) t ws w refl k)

says : (bs : List ℕ) → Says bs
says [] = says_none
says (b ∷ bs) = says_more b bs (says bs)

-- byte by byte a set is read as its pieces say
pub set_read : (ws bs : List ℕ) → length bs + 1 < 2 ^ 64 → set_in (whole false ws bs).text ≡ set_of 0 (pieces_of 1 bs)
unfolding empty_text
set_read ws bs h = says bs [] (empty_text false) ws (start false) (omega arith)

pub set_reads : (ws ws' : List ℕ) (t : Text) → OfText false ws (state t ws') → SetRead (set_in t)
set_reads ws ws' t h =
    record {
      bytes = h.bytes;
      few = h.few;
      is = ap (λ (s : State). set_in s.text) h.is ∙ set_read ws h.bytes (omega (arith, h.few));
    }
