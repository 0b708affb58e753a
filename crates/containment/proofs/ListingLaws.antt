-- Laws of the listing's lines: numbers in decimal, how long the lines get, which line is which, and whole listings.
use Prim.Native.Nat.{ℕ, zero, suc, ◌+◌, ◌-◌, ◌*◌, ◌/◌, ◌%◌, ◌^◌, ◌≤◌, ◌<◌}
use mathlib.Core.Path.{◌≡◌, refl, ap, ◌∙◌}
use mathlib.Core.Logic.{⊎_elim}
use mathlib.Core.List.{List, [], ◌∷◌, ◌++◌}
use mathlib.Core.Bool.{Bool, true, false}
use lib.ListN.{length, get_or, replicate, length-append}
use lib.Dec.{eqb, ltb}
use native.Mathlib.Omega.{arith}
use native.Mathlib.Nat.{pow-suc, suc-mul}
use borrow.Author.Tests.{lt-ltb, le-ltb, eq-eqb, ne_eqb}
use Rattle.packed.specs.Format.{pick}
use Rattle.packed.specs.Refusals.{number_of, detail_of}
use Rattle.packed.specs.declared.reply.Refusal.TheVariants.{NoRoom}
use Rattle.packed.proofs.OrderCases.{lt_or_ge}
use Rattle.engine.specs.Simulation.{bit}
use Rattle.containment.specs.Listing.{digits, decimal, concat, edge_text, edges_text, views_text, view_text, chosen_text, or_none, bytes, first_line, refused_line, link_line, chosen_line, lines_after, line_of}
use Rattle.containment.specs.Quote.{CoverageReply}
use Rattle.containment.specs.declared.quote_type.Coverage.TheVariants as coverage-is
use Rattle.containment.specs.declared.quote_type.Quote.{Quote}
use Rattle.std.specs.Prelude.{Ok, Err}

-- ---- numbers in decimal
-- a number has one digit, or some before its last
module _ (P : List ℕ → Type 0) (k n : ℕ) (one : n < 10 → P ((48 + n) ∷ [])) (more : 10 ≤ n → P (digits k (n / 10) ++ ((48 + n % 10) ∷ []))) where
  digits_cases : P (digits (suc k) n)
  unfolding digits
  digits_cases = ⊎_elim (λ h. rw (lt-ltb n 10 h) (one h)) (λ h. rw (le-ltb n 10 h) (more h)) (lt_or_ge n 10)

digits_more : (k n : ℕ) → n < 10 ^ suc k → digits (suc k) n ≡ digits (suc (suc k)) n
unfolding digits
digits_more zero n h = rw (lt-ltb n 10 h)
digits_more (suc k) n h =
    let e = pow-suc 10 (suc k) in
    ap (λ (t : List ℕ). pick (ltb n 10) ((48 + n) ∷ []) (t ++ ((48 + n % 10) ∷ []))) (digits_more k (n / 10) (omega arith))

pub decimal_one : (n : ℕ) → n < 10 → decimal n ≡ (48 + n % 10) ∷ []
unfolding decimal digits
decimal_one n h = let e : n % 10 ≡ n = omega arith in rw (lt-ltb n 10 h, e)

pub decimal_more : (n : ℕ) → 10 ≤ n → n < 2 ^ 64 → decimal n ≡ decimal (n / 10) ++ ((48 + n % 10) ∷ [])
unfolding decimal digits
decimal_more n h l = rw (le-ltb n 10 h) (ap (λ (t : List ℕ). t ++ ((48 + n % 10) ∷ [])) (digits_more 18 (n / 10) (omega arith)))

digits_length : (k n : ℕ) → length (digits k n) ≤ k
unfolding digits
digits_length zero n = omega arith
digits_length (suc k) n =
    digits_cases (λ t. length t ≤ suc k) k n (λ l. omega arith)
    (λ l. omega (arith, digits_length k (n / 10), length-append (digits k (n / 10)) ((48 + n % 10) ∷ [])))

pub decimal_length : (n : ℕ) → length (decimal n) ≤ 20
unfolding decimal
decimal_length n = digits_length 20 n

-- ---- how long the parts and the lines get
pub decimal_two : (n : ℕ) → n < 100 → length (decimal n) ≤ 2
decimal_two n h =
    ⊎_elim (λ (l : n < 10). omega (arith, ap length (decimal_one n l)))
    (λ (l : 10 ≤ n).
    omega (arith, ap length (decimal_more n l (omega arith)), length-append (decimal (n / 10)) ((48 + n % 10) ∷ []), ap length (decimal_one (n / 10) (omega arith))))
    (lt_or_ge n 10)

module _ (f : ℕ → List ℕ) (c : ℕ) where
  concat_length : (n : ℕ) → ((k : ℕ) → k < n → length (f k) ≤ c) → length (concat f n) ≤ n * c
  unfolding concat
  concat_length zero h = omega arith
  concat_length (suc n) h =
      rw (length-append (concat f n) (f n), suc-mul n c) (let l = concat_length n (λ k i. h k (omega arith)) in let e = h n (omega arith) in omega arith)

pick_length : (b : Bool) (x y : List ℕ) (c : ℕ) → length x ≤ c → length y ≤ c → length (pick b x y) ≤ c
pick_length true x y c h l = h
pick_length false x y c h l = l

edge_length : (a mask b : ℕ) → a < 16 → b < 32 → length (edge_text a mask b) ≤ 6
unfolding edge_text
edge_length a mask b h l =
    pick_length (bit mask b) (bytes " " ++ (decimal a ++ (bytes "." ++ decimal b))) [] 6
    (omega (arith, length-append (decimal a) (bytes "." ++ decimal b), decimal_two a (omega arith), decimal_two b (omega arith))) (omega arith)

pub edges_so_far : (a mask n : ℕ) → a < 16 → n ≤ 32 → length (concat (edge_text a mask) n) ≤ n * 6
edges_so_far a mask n h l = concat_length (edge_text a mask) 6 n (λ b i. edge_length a mask b h (omega arith))

pub edges_length : (a mask : ℕ) → a < 16 → length (edges_text a mask) ≤ 192
unfolding edges_text
edges_length a mask h = edges_so_far a mask 32 h (omega arith)

-- the edges of the view a that match the edge e
abbrev pub matches_line : List ℕ → ℕ → ℕ → List ℕ
matches_line t e a = edges_text a (get_or t (16 * e + a) 0)

pub views_so_far : (t : List ℕ) (e n : ℕ) → n ≤ 16 → length (concat (matches_line t e) n) ≤ n * 192
views_so_far t e n l = concat_length (matches_line t e) 192 n (λ a i. edges_length a (get_or t (16 * e + a) 0) (omega arith))

pub views_length : (t : List ℕ) (e : ℕ) → length (views_text t e) ≤ 3072
unfolding views_text
views_length t e = views_so_far t e 16 (omega arith)

view_length : (set a : ℕ) → a < 16 → length (view_text set a) ≤ 3
unfolding view_text
view_length set a h = pick_length (bit set a) (bytes " " ++ decimal a) [] 3 (omega (arith, decimal_two a (omega arith))) (omega arith)

pub chosen_so_far : (set n : ℕ) → n ≤ 16 → length (concat (view_text set) n) ≤ n * 3
chosen_so_far set n l = concat_length (view_text set) 3 n (λ a i. view_length set a (omega arith))

pub chosen_length : (set : ℕ) → length (chosen_text set) ≤ 48
unfolding chosen_text
chosen_length set = chosen_so_far set 16 (omega arith)

none_length : (t : List ℕ) → length (or_none t) ≤ length t + 6
unfolding or_none
none_length [] = omega arith
none_length (x ∷ t) = omega (arith, length-append t (bytes "\n"))

link_length : (t : List ℕ) (e : ℕ) → length (link_line t e) ≤ 4096
unfolding link_line
link_length t e =
    omega (arith, length-append (decimal e) (bytes " by" ++ or_none (views_text t e)), decimal_length e, none_length (views_text t e), views_length t e)

last_length : (set : ℕ) → length (chosen_line set) ≤ 4096
unfolding chosen_line
last_length set =
    pick_length (eqb (set % 2 ^ 16) 0) (bytes "extracts none\n") (bytes "extracts" ++ (chosen_text set ++ bytes "\n")) 4096 (omega arith)
    (omega (arith, length-append (chosen_text set) (bytes "\n"), chosen_length set))

first_length : (v : CoverageReply) → length (first_line v) ≤ 4096
unfolding refused_line
first_length (Ok coverage-is.Covered) = omega arith
first_length (Ok coverage-is.Uncovered) = omega arith
first_length (Err x) =
    omega (arith, length-append (decimal (number_of x)) (bytes " " ++ (decimal (detail_of x) ++ bytes "\n")), length-append (decimal (detail_of x)) (bytes "\n"), decimal_length (number_of x), decimal_length (detail_of x))

pub line_length : (q : Quote) (k : ℕ) → length (line_of q k) ≤ 4096
unfolding line_of
line_length q k =
    pick_length (eqb k 0) (first_line q.coverage) _ 4096 (first_length q.coverage)
    (pick_length (ltb (lines_after q) k) [] _ 4096 (omega arith)
    (pick_length (eqb k (lines_after q)) (chosen_line q.chosen) (link_line q.mapping (k - 1)) 4096 (last_length q.chosen) (link_length q.mapping (k - 1))))

-- ---- which line it is
module _ (q : Quote) (k : ℕ) where
  pub line_first : k ≡ 0 → line_of q k ≡ first_line q.coverage
  unfolding line_of
  line_first h = rw (eq-eqb k 0 h)

  module _ (more : k ≡ 0 → ⊥) where
    pub line_beyond : lines_after q < k → line_of q k ≡ []
    unfolding line_of
    line_beyond h = rw (ne_eqb k 0 more, lt-ltb (lines_after q) k h)

    pub line_last : k ≡ lines_after q → line_of q k ≡ chosen_line q.chosen
    unfolding line_of
    line_last h = rw (ne_eqb k 0 more, le-ltb (lines_after q) k (omega arith), eq-eqb k (lines_after q) h)

    pub line_link : k < lines_after q → line_of q k ≡ link_line q.mapping (k - 1)
    unfolding line_of
    line_link h = rw (ne_eqb k 0 more, le-ltb (lines_after q) k (omega arith), ne_eqb k (lines_after q) (λ e. omega arith))

-- ---- that `decimal` is decimal: read back it gives the number, each byte is one of "0" to "9", and no number above 0 starts with "0"
unfoldable pub read_from : ℕ → List ℕ → ℕ
read_from n [] = n
read_from n (x ∷ xs) = read_from (10 * n + (x - 48)) xs

read_last : (xs : List ℕ) (n x : ℕ) → read_from n (xs ++ (x ∷ [])) ≡ 10 * read_from n xs + (x - 48)
unfolding read_from
read_last [] n x = refl
read_last (y ∷ xs) n x = read_last xs (10 * n + (y - 48)) x

digits_read : (k n : ℕ) → n < 10 ^ k → read_from 0 (digits k n) ≡ n
unfolding digits read_from
digits_read zero n h = omega arith
digits_read (suc k) n h =
    digits_cases (λ t. read_from 0 t ≡ n) k n (λ l. omega arith)
    (λ l.
    let e = pow-suc 10 k in
    let r = digits_read k (n / 10) (omega arith) in
    read_last (digits k (n / 10)) 0 (48 + n % 10) ∙ omega (arith, r))

pub decimal_read : (n : ℕ) → n < 2 ^ 64 → read_from 0 (decimal n) ≡ n
unfolding decimal
decimal_read n h = digits_read 20 n (omega arith)

unfoldable pub Figures : List ℕ → Type 0
Figures [] = Unit {0}
Figures (x ∷ xs) = (48 ≤ x) × (x < 58) × Figures xs

figures_last : (xs : List ℕ) (x : ℕ) → Figures xs → 48 ≤ x → x < 58 → Figures (xs ++ (x ∷ []))
unfolding Figures
figures_last [] x f l h = (l, h, tt)
figures_last (y ∷ xs) x f l h = (f.0, f.1, figures_last xs x f.2 l h)

digits_figures : (k n : ℕ) → Figures (digits k n)
unfolding digits Figures
digits_figures zero n = tt
digits_figures (suc k) n =
    digits_cases Figures k n (λ l. (omega arith, omega arith, tt))
    (λ l. figures_last (digits k (n / 10)) (48 + n % 10) (digits_figures k (n / 10)) (omega arith) (omega arith))

pub decimal_figures : (n : ℕ) → Figures (decimal n)
unfolding decimal
decimal_figures n = digits_figures 20 n

first_stays : (xs ys : List ℕ) → 48 < get_or xs 0 0 → 48 < get_or (xs ++ ys) 0 0
first_stays [] ys h = omega arith
first_stays (x ∷ xs) ys h = h

digits_first : (k n : ℕ) → 0 < n → n < 10 ^ k → 48 < get_or (digits k n) 0 0
unfolding digits
digits_first zero n p h = omega arith
digits_first (suc k) n p h =
    digits_cases (λ t. 48 < get_or t 0 0) k n (λ l. omega arith)
    (λ l.
    let e = pow-suc 10 k in
    first_stays (digits k (n / 10)) ((48 + n % 10) ∷ []) (digits_first k (n / 10) (omega arith) (omega arith)))

pub decimal_first : (n : ℕ) → 0 < n → n < 2 ^ 64 → 48 < get_or (decimal n) 0 0
unfolding decimal
decimal_first n p h = digits_first 20 n p (omega arith)

-- ---- the fixed texts, byte for byte
pub fixed_texts :
    (bytes "quote covered\n" ≡ 113 ∷ 117 ∷ 111 ∷ 116 ∷ 101 ∷ 32 ∷ 99 ∷ 111 ∷ 118 ∷ 101 ∷ 114 ∷ 101 ∷ 100 ∷ 10 ∷ [])
    × (bytes "quote uncovered\n" ≡ 113 ∷ 117 ∷ 111 ∷ 116 ∷ 101 ∷ 32 ∷ 117 ∷ 110 ∷ 99 ∷ 111 ∷ 118 ∷ 101 ∷ 114 ∷ 101 ∷ 100 ∷ 10 ∷ [])
    × (bytes "extracts none\n" ≡ 101 ∷ 120 ∷ 116 ∷ 114 ∷ 97 ∷ 99 ∷ 116 ∷ 115 ∷ 32 ∷ 110 ∷ 111 ∷ 110 ∷ 101 ∷ 10 ∷ [])
fixed_texts = (refl, refl, refl)

-- ---- whole listings, with the empty line beyond the last
abbrev lines_up_to : Quote → ℕ → List (List ℕ)
lines_up_to q zero = []
lines_up_to q (suc n) = lines_up_to q n ++ (line_of q n ∷ [])

-- the masks of the first three views for an edge, and a mapping of four such edges
abbrev row : ℕ → ℕ → ℕ → List ℕ
row a b c = a ∷ b ∷ c ∷ replicate 13 0

abbrev four : List ℕ → List ℕ → List ℕ → List ℕ → List ℕ
four a b c d = a ++ (b ++ (c ++ (d ++ replicate 448 0)))

-- the worked example
pub covered_listing :
    lines_up_to (record { coverage = Ok coverage-is.Covered; mapping = four (row 1 1 0) (row 0 0 1) (row 0 2 0) (row 0 0 2); edges = 4; chosen = 6; lowest = 0 }) 7
    ≡ bytes "quote covered\n"
    ∷ bytes "link 0 by 0.0 1.0\n"
    ∷ bytes "link 1 by 2.0\n"
    ∷ bytes "link 2 by 1.1\n"
    ∷ bytes "link 3 by 2.1\n"
    ∷ bytes "extracts 1 2\n"
    ∷ []
    ∷ []
unfolding line_of link_line chosen_line or_none views_text edges_text edge_text chosen_text view_text concat bit decimal digits
covered_listing = refl

-- the same question with the extract 1 alone
pub uncovered_listing :
    lines_up_to (record { coverage = Ok coverage-is.Uncovered; mapping = four (row 1 0 0) (row 0 0 0) (row 2 0 0) (row 0 0 0); edges = 4; chosen = 0; lowest = 1 }) 7
    ≡ bytes "quote uncovered\n"
    ∷ bytes "link 0 by 0.0\n"
    ∷ bytes "link 1 by none\n"
    ∷ bytes "link 2 by 0.1\n"
    ∷ bytes "link 3 by none\n"
    ∷ bytes "extracts none\n"
    ∷ []
    ∷ []
unfolding line_of link_line chosen_line or_none views_text edges_text edge_text chosen_text view_text concat bit decimal digits
uncovered_listing = refl

pub refused_listing :
    lines_up_to (record { coverage = Err (NoRoom 18446744073709551615); mapping = replicate 512 0; edges = 0; chosen = 0; lowest = 0 }) 2
    ≡ bytes "refused 12 18446744073709551615\n"
    ∷ []
    ∷ []
unfolding line_of refused_line decimal digits
refused_listing = refl
