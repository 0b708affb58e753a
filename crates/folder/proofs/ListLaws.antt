-- Byte by byte a list is read as its lines say.
use Rattle.std.proofs.Common.{◌≡◌, ℕ, suc, Some, None, Ok, Err, ◌+◌, ◌-◌, ◌*◌, ◌%◌, ◌^◌, ◌<◌, ◌≤◌, Bool, true, false, ◌&&◌, eqb, leb, List, [], ◌∷◌, ◌++◌, length, get_or, set, sym, refl, ap, ◌∙◌, ap₂, append_assoc, append-nil, mod-eq_of_lt, arith, le-ltb, lt-ltb, ne_eqb, eqb-true, le-leb, leb-false, leb-true}
use borrow.Author.Tests.{lt-leb}
use Rattle.packed.specs.Format.{pick}
use Rattle.folder.specs.declared.numbers.Text.{Text}
use Rattle.folder.specs.declared.numbers.WrongLine.{WrongLine}
use Rattle.folder.specs.Numbers.{most, is_digit, line_feed, onto, lines_of, all_digits, is_there, value_from, value_of, is_charge, Listed, list_of, list_told, ListRead, NumberTold, number, none, number_in, number_told, NumberRead}
use Rattle.folder.specs.Reading.{empty_text, with_line, with_digit, is_number, State, state, end_line, next_in_list, next, steps, at_end, listed, whole, OfText}
use Rattle.folder.proofs.NumberLaws.{below_digits}

-- ---- both of two tests

both_first : (a b : Bool) → a && b ≡ true → a ≡ true
both_first true b h = refl
both_first false b h = h

both_second : (a b : Bool) → a && b ≡ true → b ≡ true
both_second true b h = h
both_second false b h = absurd (let y : ◌≡◌ {A = ℕ} 0 1 = cc in omega arith)

and_false : (a : Bool) → a && false ≡ false
and_false true = refl
and_false false = refl

first_false : (a : Bool) → a && true ≡ false → a ≡ false
first_false true h = h
first_false false h = refl

-- ---- digits one by one

pub digit_no_feed : (b : ℕ) → is_digit b ≡ true → eqb b line_feed ≡ false
digit_no_feed b h = ne_eqb b 10 (λ e. let k = below_digits b (omega arith) in let z : ◌≡◌ {A = ℕ} 0 1 = cc in omega arith)

pub first_digit : (x : ℕ) (p : List ℕ) → all_digits (x ∷ p) ≡ true → is_digit x ≡ true
unfolding all_digits
first_digit x p h = both_first (is_digit x) (all_digits p) h

pub other_digits : (x : ℕ) (p : List ℕ) → all_digits (x ∷ p) ≡ true → all_digits p ≡ true
unfolding all_digits
other_digits x p h = both_second (is_digit x) (all_digits p) h

digits_more : (p : List ℕ) (b : ℕ) → all_digits p ≡ true → is_digit b ≡ true → all_digits (p ++ (b ∷ [])) ≡ true
unfolding all_digits
digits_more [] b h k = rw k
digits_more (x ∷ p) b h k = rw (first_digit x p h) (digits_more p b (other_digits x p h) k)

there_more : (p : List ℕ) (b : ℕ) → is_there (p ++ (b ∷ [])) ≡ true
unfolding is_there
there_more [] b = refl
there_more (x ∷ p) b = refl

pub value_there : (p : List ℕ) → 0 < value_of p → is_there p ≡ true
unfolding value_of value_from is_there
value_there [] h = absurd (omega arith)
value_there (x ∷ p) h = refl

value_more : (v : ℕ) (p : List ℕ) (b : ℕ) → value_from v (p ++ (b ∷ [])) ≡ value_from v p * 10 + (b - 48)
unfolding value_from
value_more v [] b = refl
value_more v (x ∷ p) b = value_more (v * 10 + (x - 48)) p b

-- ---- the lines of a text

-- digits and then a line feed are a line
line_ends : (p bs : List ℕ) → all_digits p ≡ true → lines_of (p ++ (line_feed ∷ bs)) ≡ p ∷ lines_of bs
unfolding lines_of onto
line_ends [] bs h = refl
line_ends (x ∷ p) bs h =
    let e : eqb x line_feed ≡ false = digit_no_feed x (first_digit x p h) in
    rw (e, line_ends p bs (other_digits x p h))

-- digits alone are a line, and none are none
last_line : (x : ℕ) (p : List ℕ) → all_digits (x ∷ p) ≡ true → lines_of (x ∷ p) ≡ (x ∷ p) ∷ []
unfolding lines_of onto
last_line x [] h =
    let e : eqb x line_feed ≡ false = digit_no_feed x (first_digit x [] h) in
    rw e
last_line x (y ∷ p) h =
    let e : eqb x line_feed ≡ false = digit_no_feed x (first_digit x (y ∷ p) h) in
    rw (e, last_line y p (other_digits x (y ∷ p) h))

-- the first line has something else than digits
record Spoilt (ls : List (List ℕ)) : Type 0 where
  line : List ℕ
  others : List (List ℕ)
  is : ls ≡ line ∷ others
  no : all_digits line ≡ false

spoilt_by : (b : ℕ) (ls : List (List ℕ)) → is_digit b ≡ false → Spoilt (onto b ls)
unfolding all_digits onto
spoilt_by b [] h = record { line = b ∷ []; others = []; is = refl; no = rw h }
spoilt_by b (l ∷ ls) h = record { line = b ∷ l; others = ls; is = refl; no = rw h }

spoilt_onto : (x : ℕ) (ls : List (List ℕ)) → is_digit x ≡ true → Spoilt ls → Spoilt (onto x ls)
unfolding all_digits onto
spoilt_onto x ls h k = record { line = x ∷ k.line; others = k.others; is = rw k.is; no = rw (h, k.no) }

spoilt : (p : List ℕ) (b : ℕ) (bs : List ℕ) → all_digits p ≡ true → is_digit b ≡ false → eqb b line_feed ≡ false → Spoilt (lines_of (p ++ (b ∷ bs)))
unfolding lines_of
spoilt [] b bs h k e = rw e (spoilt_by b (lines_of bs) k)
spoilt (x ∷ p) b bs h k e =
    let f : eqb x line_feed ≡ false = digit_no_feed x (first_digit x p h) in
    rw f (spoilt_onto x _ (first_digit x p h) (spoilt p b bs (other_digits x p h) k e))

-- ---- the lines that follow

good_line : (n : ℕ) (ws l : List ℕ) (ls : List (List ℕ)) → is_charge l ≡ true → list_of n ws (l ∷ ls) ≡ list_of (n + 1) (set ws n (value_of l)) ls
unfolding list_of
good_line n ws l ls h = simp h

bad_line : (n : ℕ) (ws l : List ℕ) (ls : List (List ℕ)) → is_charge l ≡ false → list_of n ws (l ∷ ls) ≡ record { count = n + 1; good = false; words = ws }
unfolding list_of
bad_line n ws l ls h = simp h

spoilt_line : (n : ℕ) (ws : List ℕ) (ls : List (List ℕ)) → Spoilt ls → list_of n ws ls ≡ record { count = n + 1; good = false; words = ws }
unfolding is_charge
spoilt_line n ws ls k = rw k.is (bad_line n ws k.line k.others (simp k.no))

-- ---- a text in a line of digits

pub record Within (list : Bool) (t : Text) (p : List ℕ) : Type 0 where
  pub good : t.good ≡ true
  pub kind : t.is_list ≡ list
  pub begun : t.begun ≡ is_there p
  pub digits : all_digits p ≡ true
  pub small : value_of p ≤ most → t.value ≡ value_of p
  pub large : most < value_of p → most < t.value

pub fresh : (list : Bool) (t : Text) → t.is_list ≡ list → Within list (with_line t true) []
unfolding with_line is_there all_digits value_of value_from
fresh list t h = record { good = refl; kind = h; begun = refl; digits = refl; small = λ k. refl; large = λ k. absurd (omega arith) }

pub start : (list : Bool) → Within list (empty_text list) []
unfolding empty_text is_there all_digits value_of value_from
start list = record { good = refl; kind = refl; begun = refl; digits = refl; small = λ k. refl; large = λ k. absurd (omega arith) }

digit_value : (p : List ℕ) (b : ℕ) → value_of (p ++ (b ∷ [])) ≡ value_of p * 10 + (b - 48)
unfolding value_of
digit_value p b = value_more 0 p b

pub digit_kept : (t : Text) (d : ℕ) → most < t.value → with_digit t d ≡ t
unfolding with_digit
digit_kept t d h = simp (lt-ltb _ _ h)

pub digit_added : (t : Text) (d : ℕ) → t.value ≤ most
    → with_digit t d ≡ record { count = t.count; good = t.good; set = t.set; is_list = t.is_list; begun = true; value = t.value * 10 + d }
unfolding with_digit
digit_added t d h = simp (le-ltb _ _ h)

over : (list : Bool) (t : Text) (p : List ℕ) (b : ℕ) → Within list t p → is_digit b ≡ true → most < value_of p → Within list (with_digit t (b - 48)) (p ++ (b ∷ []))
over list t p b w h k =
    rw (digit_kept t (b - 48) (w.large k))
    (record {
      good = w.good;
      kind = w.kind;
      begun = w.begun ∙ value_there p (omega arith) ∙ sym (there_more p b);
      digits = digits_more p b w.digits h;
      small = λ m. absurd (omega (arith, digit_value p b));
      large = λ m. w.large k;
    })

under : (list : Bool) (t : Text) (p : List ℕ) (b : ℕ) → Within list t p → is_digit b ≡ true → value_of p ≤ most → Within list (with_digit t (b - 48)) (p ++ (b ∷ []))
under list t p b w h k =
    let e = w.small k in
    rw (digit_added t (b - 48) (omega arith))
    (record {
      good = w.good;
      kind = w.kind;
      begun = sym (there_more p b);
      digits = digits_more p b w.digits h;
      small = λ m. omega (arith, digit_value p b);
      large = λ m. omega (arith, digit_value p b);
    })

pub within_digit : (list : Bool) (t : Text) (p : List ℕ) (b : ℕ) → Within list t p → is_digit b ≡ true → Within list (with_digit t (b - 48)) (p ++ (b ∷ []))
within_digit list t p b w h = by (leb (value_of p) most) refl
  where
    by : (c : Bool) → leb (value_of p) most ≡ c → Within list (with_digit t (b - 48)) (p ++ (b ∷ []))
    by true e = under list t p b w h (leb-true _ _ e)
    by false e = over list t p b w h (leb-false _ _ e)

pub digit_count : (t : Text) (d : ℕ) → (with_digit t d).count ≡ t.count
digit_count t d = by (leb t.value most) refl
  where
    by : (c : Bool) → leb t.value most ≡ c → (with_digit t d).count ≡ t.count
    by true e = ap (λ (u : Text). u.count) (digit_added t d (leb-true _ _ e))
    by false e = ap (λ (u : Text). u.count) (digit_kept t d (leb-false _ _ e))

-- ---- the next byte

pub bad_stays : (s : State) (bs : List ℕ) → s.text.good ≡ false → steps s bs ≡ s
unfolding steps next
bad_stays s [] h = refl
bad_stays s (b ∷ bs) h =
    let e : next s b ≡ s = simp h in
    rw e (bad_stays s bs h)

pub next_digit : (t : Text) (ws : List ℕ) (b : ℕ) → t.good ≡ true → is_digit b ≡ true → next (state t ws) b ≡ state (with_digit t (b - 48)) ws
unfolding next
next_digit t ws b g h = simp (g, h)

next_feed : (t : Text) (ws : List ℕ) → t.good ≡ true → t.is_list ≡ true → next (state t ws) line_feed ≡ end_line (state t ws)
unfolding next next_in_list is_digit
next_feed t ws g h = simp (g, h)

next_other : (t : Text) (ws : List ℕ) (b : ℕ) → t.good ≡ true → t.is_list ≡ true → is_digit b ≡ false → eqb b line_feed ≡ false
    → next (state t ws) b ≡ state (with_line t false) ws
unfolding next next_in_list
next_other t ws b g l h e = simp (g, l, h, e)

charge_is : (p : List ℕ) → all_digits p ≡ true → is_charge p ≡ (is_there p && leb (value_of p) most)
unfolding is_charge
charge_is p h = simp h

charge_ends : (t : Text) (p ws : List ℕ) → Within true t p → is_charge p ≡ true → end_line (state t ws) ≡ state (with_line t true) (set ws t.count (value_of p))
unfolding end_line is_number
charge_ends t p ws w h =
    let k : is_there p && leb (value_of p) most ≡ true = sym (charge_is p w.digits) ∙ h in
    let f : is_there p ≡ true = both_first (is_there p) (leb (value_of p) most) k in
    let l : value_of p ≤ most = leb-true _ _ (both_second (is_there p) (leb (value_of p) most) k) in
    let e : t.value ≡ value_of p = w.small l in
    simp (e, le-leb _ _ l, w.begun, f)

no_charge_ends : (t : Text) (p ws : List ℕ) → Within true t p → is_charge p ≡ false → end_line (state t ws) ≡ state (with_line t false) ws
unfolding end_line is_number
no_charge_ends t p ws w h = by (leb (value_of p) most) refl
  where
    by : (c : Bool) → leb (value_of p) most ≡ c → end_line (state t ws) ≡ state (with_line t false) ws
    by true e =
        let v : t.value ≡ value_of p = w.small (leb-true _ _ e) in
        let k : is_there p && leb (value_of p) most ≡ false = sym (charge_is p w.digits) ∙ h in
        let f : is_there p ≡ false = first_false (is_there p) (rw e at k) in
        simp (v, e, w.begun, f)
    by false e = simp (lt-leb _ _ (w.large (leb-false _ _ e)))

-- ---- a whole list

-- lines are counted by 64 bits
one_more : (n m : ℕ) → n + m + 1 < 2 ^ 64 → (n + 1) % 2 ^ 64 ≡ n + 1
one_more n m h = mod-eq_of_lt (omega arith)

pub line_count : (t : Text) (good : Bool) (m : ℕ) → t.count + m + 1 < 2 ^ 64 → (with_line t good).count ≡ t.count + 1
unfolding with_line
line_count t good m h = one_more t.count m h

-- a line that has just ended has not begun
pub at_line_end : (t : Text) (good : Bool) (ws : List ℕ) → at_end (state (with_line t good) ws) ≡ state (with_line t good) ws
unfolding at_end with_line
at_line_end t good ws = refl

pub at_end_within : (t : Text) (ws : List ℕ) → t.begun ≡ true → at_end (state t ws) ≡ next (state t ws) line_feed
unfolding at_end
at_end_within t ws h = simp h

-- what is told after one line more
after_line : (t : Text) (good : Bool) (ws : List ℕ) (m : ℕ) → t.count + m + 1 < 2 ^ 64
    → listed (state (with_line t good) ws) ≡ record { count = t.count + 1; good = good; words = ws }
unfolding with_line
after_line t good ws m h = rw (one_more t.count m h)

pub bad_line_is : (t : Text) → (with_line t false).good ≡ false
unfolding with_line
bad_line_is t = refl

-- a line that is no number is the last
ends_bad : (t : Text) (ws bs : List ℕ) (m : ℕ) → t.count + m + 1 < 2 ^ 64
    → listed (at_end (steps (state (with_line t false) ws) bs)) ≡ record { count = t.count + 1; good = false; words = ws }
ends_bad t ws bs m h =
    ap (λ (s : State). listed (at_end s)) (bad_stays (state (with_line t false) ws) bs (bad_line_is t))
    ∙ ap listed (at_line_end t false ws)
    ∙ after_line t false ws m h

-- from within a line, the bytes that follow are read as the lines that they make
abbrev Says : List ℕ → Type 0
Says bs = (p : List ℕ) (t : Text) (ws : List ℕ) → Within true t p → t.count + length bs + 1 < 2 ^ 64
    → listed (at_end (steps (state t ws) bs)) ≡ list_of t.count ws (lines_of (p ++ bs))

says_digit : (b : ℕ) (bs : List ℕ) → Says bs → is_digit b ≡ true → Says (b ∷ bs)
unfolding steps
says_digit b bs ih h p t ws w k =
    let c = digit_count t (b - 48) in
    let e = ih (p ++ (b ∷ [])) (with_digit t (b - 48)) ws (within_digit true t p b w h) (omega arith) in
    rw (next_digit t ws b w.good h)
    (e ∙ ap₂ (λ (n : ℕ) (l : List ℕ). list_of n ws (lines_of l)) c (append_assoc p (b ∷ []) bs))

says_feed : (bs : List ℕ) → Says bs → Says (line_feed ∷ bs)
unfolding steps
says_feed bs ih p t ws w k = rw (next_feed t ws w.good w.kind, line_ends p bs w.digits) (by (is_charge p) refl)
  where
    by : (c : Bool) → is_charge p ≡ c → listed (at_end (steps (end_line (state t ws)) bs)) ≡ list_of t.count ws (p ∷ lines_of bs)
    by true h =
        let ws' = set ws t.count (value_of p) in
        let c = line_count t true (suc (length bs)) k in
        let e = ih [] (with_line t true) ws' (fresh true t w.kind) (omega arith) in
        rw (charge_ends t p ws w h, good_line t.count ws p (lines_of bs) h) (e ∙ ap (λ (n : ℕ). list_of n ws' (lines_of bs)) c)
    by false h = rw (no_charge_ends t p ws w h, bad_line t.count ws p (lines_of bs) h) (ends_bad t ws bs (suc (length bs)) k)

says_other : (b : ℕ) (bs : List ℕ) → is_digit b ≡ false → eqb b line_feed ≡ false → Says (b ∷ bs)
unfolding steps
says_other b bs h f p t ws w k =
    rw (next_other t ws b w.good w.kind h f)
    (ends_bad t ws bs (suc (length bs)) k ∙ sym (spoilt_line t.count ws (lines_of (p ++ (b ∷ bs))) (spoilt p b bs w.digits h f)))

says_more : (b : ℕ) (bs : List ℕ) → Says bs → Says (b ∷ bs)
says_more b bs ih = by (is_digit b) (eqb b line_feed) refl refl
  where
    by : (c d : Bool) → is_digit b ≡ c → eqb b line_feed ≡ d → Says (b ∷ bs)
    by true d h f = says_digit b bs ih h
    by false true h f = rw (eqb-true b line_feed f) (says_feed bs ih)
    by false false h f = says_other b bs h f

none_says : (t : Text) (ws : List ℕ) → t.good ≡ true → t.begun ≡ is_there [] → listed (at_end (state t ws)) ≡ list_of t.count ws (lines_of [])
unfolding at_end lines_of list_of is_there
none_says t ws g h = simp (h, g)

says_none : Says []
unfolding steps is_there list_of
says_none [] t ws w k = none_says t ws w.good w.begun
says_none (x ∷ q) t ws w k =
    rw
    (append-nil q, at_end_within t ws w.begun, next_feed t ws w.good w.kind, last_line x q w.digits)
    (by (is_charge (x ∷ q)) refl)
  where
    by : (c : Bool) → is_charge (x ∷ q) ≡ c → listed (end_line (state t ws)) ≡ list_of t.count ws ((x ∷ q) ∷ [])
    by true h = rw (charge_ends t (x ∷ q) ws w h, good_line t.count ws (x ∷ q) [] h) (after_line t true _ 0 k)
    by false h = rw (no_charge_ends t (x ∷ q) ws w h, bad_line t.count ws (x ∷ q) [] h) (after_line t false _ 0 k)

says : (bs : List ℕ) → Says bs
says [] = says_none
says (b ∷ bs) = says_more b bs (says bs)

-- byte by byte a list is read as its lines say
pub list_read : (ws bs : List ℕ) → length bs + 1 < 2 ^ 64 → listed (whole true ws bs) ≡ list_of 0 ws (lines_of bs)
unfolding empty_text
list_read ws bs h = says bs [] (empty_text true) ws (start true) (omega arith)

pub list_reads : (ws ws' : List ℕ) (t : Text) → OfText true ws (state t ws') → ListRead ws (listed (state t ws'))
list_reads ws ws' t h = record { bytes = h.bytes; few = h.few; is = ap listed h.is ∙ list_read ws h.bytes (omega (arith, h.few)) }

-- ---- one number

-- lines after n others are n at least
at_least : (n : ℕ) (ws : List ℕ) (ls : List (List ℕ)) → n ≤ (list_of n ws ls).count
unfolding list_of
at_least n ws [] = omega arith
at_least n ws (l ∷ ls) = by (is_charge l) refl (at_least (n + 1) (set ws n (value_of l)) ls)
  where
    by : (c : Bool) → is_charge l ≡ c → n + 1 ≤ (list_of (n + 1) (set ws n (value_of l)) ls).count → n ≤ (list_of n ws (l ∷ ls)).count
    by true h k = rw (good_line n ws l ls h) (omega (arith, k))
    by false h k = rw (bad_line n ws l ls h) (omega arith)

-- what is told of a list with one word, if one number is wanted
abbrev pub one_of : Listed → NumberTold
one_of t = pick (t.good && eqb t.count 1) (number (get_or t.words 0 0)) none

never : (t : Listed) → t.good && eqb t.count 1 ≡ false → one_of t ≡ none
never t h = rw h

one_number : (ls : List (List ℕ)) → one_of (list_of 0 (0 ∷ []) ls) ≡ number_in ls
unfolding list_of number_in
one_number [] = refl
one_number (l ∷ []) = by (is_charge l) refl
  where
    by : (c : Bool) → is_charge l ≡ c → one_of (list_of 0 (0 ∷ []) (l ∷ [])) ≡ number_in (l ∷ [])
    by true h = rw h
    by false h = rw h
one_number (l ∷ k ∷ ls) = by (is_charge l) refl (is_charge k) refl
  where
    by : (c : Bool) → is_charge l ≡ c → (d : Bool) → is_charge k ≡ d → one_of (list_of 0 (0 ∷ []) (l ∷ k ∷ ls)) ≡ none
    by true h true g =
        let t = list_of 2 (set (set (0 ∷ []) 0 (value_of l)) 1 (value_of k)) ls in
        rw (h, g) (never t (rw (ne_eqb t.count 1 (λ e. omega (arith, at_least 2 (set (set (0 ∷ []) 0 (value_of l)) 1 (value_of k)) ls))) (and_false t.good)))
    by true h false g = rw (h, g)
    by false h d g = rw h

pub number_reads : (t : Listed) → ListRead (0 ∷ []) t → NumberRead (one_of t)
number_reads t h = record { bytes = h.bytes; few = h.few; is = ap one_of h.is ∙ one_number (lines_of h.bytes) }

-- the number of a list of one line
pub number_one : (n : ℕ) (ws : List ℕ) → n ≡ 1 → ListRead (0 ∷ []) (list_told (Ok n) ws) → NumberRead (number_told (Some (get_or ws 0 0)))
unfolding list_told number_told
number_one n ws e h = rw e at (number_reads _ h)

-- a list of another number of lines has none, and so has one with a line that is no number
pub number_other : (n : ℕ) (ws : List ℕ) → eqb n 1 ≡ false → ListRead (0 ∷ []) (list_told (Ok n) ws) → NumberRead (number_told None)
unfolding list_told number_told
number_other n ws e h = rw e at (number_reads _ h)

pub number_failed : (w : WrongLine) (ws : List ℕ) → ListRead (0 ∷ []) (list_told (Err w) ws) → NumberRead (number_told None)
unfolding list_told number_told
number_failed w ws h = number_reads _ h
