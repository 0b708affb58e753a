-- The format of a sheet, for lists of codes that rise, all of which or none of which are empty: their bits, their bytes, and back.
use Prim.Native.Nat.{ℕ, suc, ◌+◌, ◌*◌, ◌/◌, ◌%◌, ◌^◌, ◌<◌, ◌≤◌}
use mathlib.Core.Path.{◌≡◌, refl, ap, sym, ◌∙◌}
use mathlib.Core.List.{List, [], ◌∷◌, ◌++◌, append-nil}
use mathlib.Core.Bool.{Bool, true, false, not}
use mathlib.Core.Logic.{⊎_elim}
use lib.ListN.{length, get_or, replicate, length-append, length-replicate}
use lib.Dec.{eqb, leb}
use native.Mathlib.Omega.{arith}
use native.Mathlib.Nat.{zero-add}
use borrow.Author.Tests.{le-leb, eq-eqb, ne_eqb}
use Rattle.packed.specs.Bits.{bits, bits_of, num, num_from, gap}
use Rattle.packed.specs.Format.{Format, done, ask, test, pad, then, whole, Got, got, fault, pick, push, lay, ok, ended, bytes_of, in_bytes, decode, encode}
use Rattle.packed.specs.Formats.{code, pairs, lists, standing, sheet}
use Rattle.packed.specs.Matches.{any_empty, emptied, all_or_none, pair_bits, coded_list, sheet_bits}
use Rattle.packed.specs.Contents.{ends, fields_of, pair_count, sheet_fields, sheet_length}
use Rattle.packed.proofs.BitsLaws.{length_bits_of, bits_of_add, bits_of_mod}
use Rattle.packed.proofs.OrderCases.{eq_or_ne, or_neither}
use Rattle.packed.proofs.RoundTrip.{Bytes, bits_bytes_of, encode_decode, lay_done, lay_ask, lay_test, lay_pad, lay_then, whole_is, pick_yes, push_push, onward}
use Rattle.packed.proofs.ReadingLaws.{in_range}
use Rattle.packed.proofs.Files.{bytes_bytes_of, length_bytes_of}
use Rattle.packed.proofs.Closing.{next_byte}

-- ---- lists that a sheet can have

-- codes of 24 bits that rise, from least on
pub data Rising : ℕ → List ℕ → Type 0 where
  rising_none : {least : ℕ} → Rising least []
  rising_next : {least c : ℕ} {cs : List ℕ} → least ≤ c → c < 2 ^ 24 → Rising (suc c) cs → Rising least (c ∷ cs)

pub data Fit : List (List ℕ) → Type 0 where
  fit_none : Fit []
  fit_next : {l : List ℕ} {ls : List (List ℕ)} → Rising 0 l → length l ≤ 8192 → Fit ls → Fit (l ∷ ls)

-- the same by places
pub rising_by : (least : ℕ) (l : List ℕ) → (0 < length l → least ≤ get_or l 0 0) → ((i : ℕ) → i < length l → get_or l i 0 < 2 ^ 24)
    → ((i j : ℕ) → i < j → j < length l → get_or l i 0 < get_or l j 0) → Rising least l
rising_by least [] h s r = rising_none
rising_by least (c ∷ cs) h s r =
    rising_next (h (omega arith)) (s 0 (omega arith))
    (rising_by (suc c) cs (λ q. r 0 1 (omega arith) (omega arith)) (λ i q. s (suc i) (omega arith)) (λ i j p q. r (suc i) (suc j) (omega arith) (omega arith)))

pub fit_emptied : (ls : List (List ℕ)) → Fit (emptied ls)
unfolding emptied
fit_emptied [] = fit_none
fit_emptied (l ∷ ls) = fit_next rising_none (omega arith) (fit_emptied ls)

pub fit_all : (ls : List (List ℕ)) → Fit ls → Fit (all_or_none ls)
unfolding all_or_none
fit_all ls f = go (any_empty ls)
  where
    go : (b : Bool) → Fit (pick b (emptied ls) ls)
    go true = fit_emptied ls
    go false = f

-- ---- all or none

pub length_emptied : (ls : List (List ℕ)) → length (emptied ls) ≡ length ls
unfolding emptied
length_emptied [] = refl
length_emptied (l ∷ ls) = ap suc (length_emptied ls)

pub length_all : (ls : List (List ℕ)) → length (all_or_none ls) ≡ length ls
unfolding all_or_none
length_all ls = go (any_empty ls)
  where
    go : (b : Bool) → length (pick b (emptied ls) ls) ≡ length ls
    go true = length_emptied ls
    go false = refl

emptied_twice : (ls : List (List ℕ)) → emptied (emptied ls) ≡ emptied ls
unfolding emptied
emptied_twice [] = refl
emptied_twice (l ∷ ls) = ap (λ (x : List (List ℕ)). [] ∷ x) (emptied_twice ls)

pub all_twice : (ls : List (List ℕ)) → all_or_none (all_or_none ls) ≡ all_or_none ls
unfolding all_or_none
all_twice ls = go (any_empty ls) refl
  where
    same : (b : Bool) → pick b (emptied (emptied ls)) (emptied ls) ≡ emptied ls
    same true = emptied_twice ls
    same false = refl

    go : (b : Bool) → any_empty ls ≡ b
        → pick (any_empty (pick b (emptied ls) ls)) (emptied (pick b (emptied ls) ls)) (pick b (emptied ls) ls) ≡ pick b (emptied ls) ls
    go true e = same (any_empty (emptied ls))
    go false e = rw e

pub total_emptied : (ls : List (List ℕ)) → pair_count (emptied ls) ≡ 0
unfolding pair_count emptied
total_emptied [] = refl
total_emptied (l ∷ ls) = omega (arith, total_emptied ls)

-- where there are pairs, none is empty
none_empty : (ls : List (List ℕ)) → all_or_none ls ≡ ls → (pair_count ls ≡ 0 → ⊥) → any_empty ls ≡ false
unfolding all_or_none
none_empty ls e n = go (any_empty ls) e
  where
    go : (b : Bool) → pick b (emptied ls) ls ≡ ls → b ≡ false
    go true e = absurd (n (ap pair_count (sym e) ∙ total_emptied ls))
    go false e = refl

-- ---- lengths

pub length-pair_bits : (l : List ℕ) → length (pair_bits l) ≡ 24 * length l
unfolding pair_bits
length-pair_bits [] = refl
length-pair_bits (c ∷ cs) = omega (arith, length-append (bits_of 24 c) (pair_bits cs), length_bits_of 24 c, length-pair_bits cs)

pub length-list_bits : (ls : List (List ℕ)) → length (coded_list ls) ≡ 14 * length ls + 24 * pair_count ls
unfolding coded_list pair_count
length-list_bits [] = refl
length-list_bits (l ∷ ls) =
    omega (
      arith,
      length-append (bits_of 14 (length l)) (pair_bits l ++ coded_list ls),
      length_bits_of 14 (length l),
      length-append (pair_bits l) (coded_list ls),
      length-pair_bits l,
      length-list_bits ls,
    )

-- ---- what the lead says

pub fields_none : (ls : List (List ℕ)) → pair_count ls ≡ 0 → sheet_fields ls ≡ 0 ∷ []
unfolding sheet_fields
fields_none ls e = rw (eq-eqb (pair_count ls) 0 e)

pub fields_some : (ls : List (List ℕ)) → (pair_count ls ≡ 0 → ⊥) → sheet_fields ls ≡ 1 ∷ fields_of ls
unfolding sheet_fields
fields_some ls n = rw (ne_eqb (pair_count ls) 0 n)

-- how many bytes the bits of a sheet take
sheet_bytes : (ls : List (List ℕ)) → (length (sheet_bits ls) + 7) / 8 ≡ sheet_length (length ls) (pair_count ls)
unfolding sheet_bits sheet_length
sheet_bytes ls = go (eqb (pair_count ls) 0)
  where
    go : (b : Bool) → (length (pick b (false ∷ []) (true ∷ coded_list ls)) + 7) / 8 ≡ pick b 1 ((1 + 14 * length ls + 24 * pair_count ls + 7) / 8)
    go true = refl
    go false = omega (arith, length-list_bits ls)

pub length_none : (m t : ℕ) → t ≡ 0 → sheet_length m t ≡ 1
unfolding sheet_length
length_none m t e = rw (eq-eqb t 0 e)

pub length_some : (m t : ℕ) → (t ≡ 0 → ⊥) → sheet_length m t ≡ (1 + 14 * m + 24 * t + 7) / 8
unfolding sheet_length
length_some m t n = rw (ne_eqb t 0 n)

-- a sheet that takes one byte has no pairs
pub length_one : (m t : ℕ) → sheet_length m t ≡ 1 → t ≡ 0
length_one m t h = ⊎_elim (λ e. e) (λ n. absurd (n (omega (arith, length_some m t n)))) (eq_or_ne t 0)

pub length_most : (m t k : ℕ) → t ≤ k → sheet_length m t ≤ (1 + 14 * m + 24 * k + 7) / 8
length_most m t k h = ⊎_elim (λ e. omega (arith, length_none m t e)) (λ n. omega (arith, length_some m t n)) (eq_or_ne t 0)

-- ---- the bits of a sheet

pair_bits_lem : (c : ℕ) → bits_of 12 (c / 4096) ++ bits_of 12 (c % 4096) ≡ bits_of 24 c
pair_bits_lem c = ap (λ (l : List Bool). bits_of 12 (c / 4096) ++ l) (bits_of_mod 12 c) ∙ sym (bits_of_add 12 12 c)

lay_pair : (f : ℕ → ℕ → Format) (at c : ℕ) (ws : List ℕ) → c < 2 ^ 24
    → lay (ask 12 0 4096 3 (λ a. ask 12 0 4096 3 (λ b. f a b))) at (c / 4096 ∷ c % 4096 ∷ ws) ≡ push (bits_of 24 c) (lay (f (c / 4096) (c % 4096)) (at + 12 + 12) ws)
lay_pair f at c ws h =
    let a : ℕ = c / 4096 in
    let b : ℕ = c % 4096 in
    let p : a < 4096 = omega arith in
    let q : b < 4096 = omega arith in
    lay_ask 12 0 4096 3 (λ x. ask 12 0 4096 3 (λ y. f x y)) at a (b ∷ ws) (in_range 0 4096 a (omega arith) p) p
    ∙ ap (push (bits_of 12 a)) (lay_ask 12 0 4096 3 (λ y. f a y) (at + 12) b ws (in_range 0 4096 b (omega arith) q) q)
    ∙ push_push (bits_of 12 a) (bits_of 12 b) (lay (f a b) (at + 12 + 12) ws)
    ∙ ap (λ (l : List Bool). push l (lay (f a b) (at + 12 + 12) ws)) (pair_bits_lem c)

lay_pairs : (least at : ℕ) (l tail : List ℕ) → Rising least l → lay (pairs (length l) least) at (ends l ++ tail) ≡ got (pair_bits l) tail
unfolding pairs ends pair_bits
lay_pairs least at l tail rising_none = lay_done at tail
lay_pairs least at l tail (rising_next {c = c} {cs = cs} h s r) =
    let k : ℕ = code (c / 4096) (c % 4096) in
    let e : k ≡ c = omega arith in
    let ws : List ℕ = ends cs ++ tail in
    lay_pair (λ a b. test (leb least (code a b)) 6 (pairs (length cs) (suc (code a b)))) at c ws s
    ∙ ap (push (bits_of 24 c))
    (lay_test (leb least k) 6 (pairs (length cs) (suc k)) (at + 12 + 12) ws
    ∙ pick_yes (leb least k) (lay (pairs (length cs) (suc k)) (at + 12 + 12) ws) (fault 6) (le-leb least k (omega arith))
    ∙ ap (λ (n : ℕ). lay (pairs (length cs) (suc n)) (at + 12 + 12) ws) e
    ∙ lay_pairs (suc c) (at + 12 + 12) cs tail r)

lay_lists : (at : ℕ) (ls : List (List ℕ)) → Fit ls → any_empty ls ≡ false → lay (lists (length ls)) at (fields_of ls) ≡ got (coded_list ls) []
unfolding lists fields_of coded_list any_empty
lay_lists at ls fit_none h = lay_done at []
lay_lists at ls (fit_next {l = l} {ls = rest} r s f) h =
    let n : ℕ = length l in
    let ws : List ℕ = ends l ++ fields_of rest in
    let g : Format = lists (length rest) in
    let e = or_neither (eqb n 0) (any_empty rest) h in
    lay_ask 14 0 8193 3 (λ k. test (not (eqb k 0)) 8 (then (pairs k 0) g)) at n ws (in_range 0 8193 n (omega arith) (omega arith)) (omega arith)
    ∙ ap (push (bits_of 14 n))
    (lay_test (not (eqb n 0)) 8 (then (pairs n 0) g) (at + 14) ws
    ∙ pick_yes (not (eqb n 0)) (lay (then (pairs n 0) g) (at + 14) ws) (fault 8) (ap not e.0)
    ∙ lay_then (pairs n 0) g (at + 14) ws
    ∙ ap (λ (x : Got Bool ℕ). onward x (λ bs t. lay g (at + 14 + length bs) t)) (lay_pairs 0 (at + 14) l (fields_of rest) r)
    ∙ ap (push (pair_bits l)) (lay_lists (at + 14 + length (pair_bits l)) rest f e.1))

-- the lead, and what follows it
pub bits_none : bits_of 1 0 ≡ false ∷ []
unfolding bits_of
bits_none = refl

pub bits_one : bits_of 1 1 ≡ true ∷ []
unfolding bits_of
bits_one = refl

lay_lead : (m at lead : ℕ) (ws : List ℕ) (bs : List Bool) → lead < 2 → lay (lists (standing lead m)) (at + 1) ws ≡ got bs []
    → lay (sheet m) at (lead ∷ ws) ≡ got (bits_of 1 lead ++ bs) []
unfolding sheet
lay_lead m at lead ws bs h e =
    lay_ask 1 0 2 3 (λ v. lists (standing v m)) at lead ws (in_range 0 2 lead (omega arith) h) h ∙ ap (push (bits_of 1 lead)) e

pub sheet_lays : (m at : ℕ) (ls : List (List ℕ)) → length ls ≡ m → Fit ls → all_or_none ls ≡ ls → lay (sheet m) at (sheet_fields ls) ≡ got (sheet_bits ls) []
unfolding sheet_bits
sheet_lays m at ls e f u =
    ⊎_elim
    (λ z. rw (fields_none ls z, eq-eqb (pair_count ls) 0 z) (lay_lead m at 0 [] [] (omega arith) (unfold standing lists in lay_done (at + 1) []) ∙ ap (λ (l : List Bool). got (l ++ []) []) bits_none))
    (λ z. rw (fields_some ls z, ne_eqb (pair_count ls) 0 z)
    (lay_lead m at 1 (fields_of ls) (coded_list ls) (omega arith)
    (unfold standing in (ap (λ (k : ℕ). lay (lists k) (at + 1) (fields_of ls)) (sym e) ∙ lay_lists (at + 1) ls f (none_empty ls u z)))
    ∙ ap (λ (l : List Bool). got (l ++ coded_list ls) []) bits_one))
    (eq_or_ne (pair_count ls) 0)

-- ---- whole files

-- bits, and zero bits up to a whole byte
unfoldable pub padded : List Bool → List Bool
padded bs = bs ++ replicate (gap (length bs)) false

pub length_padded : (bs : List Bool) → length (padded bs) ≡ 8 * ((length bs + 7) / 8)
unfolding padded
length_padded bs =
    let g : ℕ = gap (length bs) in
    omega (arith, length-append bs (replicate g false), length-replicate g false, next_byte (length bs))

whole_lays : (f : Format) (ws : List ℕ) (bs : List Bool) → lay f 0 ws ≡ got bs [] → lay (whole f) 0 ws ≡ got (padded bs) []
unfolding padded
whole_lays f ws bs e =
    ap (λ (g : Format). lay g 0 ws) (whole_is f)
    ∙ lay_then f (pad done) 0 ws
    ∙ ap (λ (x : Got Bool ℕ). onward x (λ l t. lay (pad done) (0 + length l) t)) e
    ∙ ap (λ (k : ℕ). push bs (lay (pad done) k [])) (zero-add (length bs))
    ∙ ap (push bs) (lay_pad done (length bs) [] ∙ ap (push (replicate (gap (length bs)) false)) (lay_done (length bs + gap (length bs)) []))
    ∙ ap (λ (l : List Bool). got (bs ++ l) []) (append-nil (replicate (gap (length bs)) false))

whole_encodes : (f : Format) (ws : List ℕ) (bs : List Bool) → lay f 0 ws ≡ got bs [] → encode f ws ≡ ok (bytes_of ((length bs + 7) / 8) (padded bs))
unfolding encode
whole_encodes f ws bs e =
    let k : length (padded bs) / 8 ≡ (length bs + 7) / 8 = omega (arith, length_padded bs) in
    ap (λ (g : Got Bool ℕ). in_bytes (ended g)) (whole_lays f ws bs e) ∙ ap (λ (j : ℕ). ok (bytes_of j (padded bs))) k

-- the sheet for nothing found
pub none_encodes : (m : ℕ) → encode (sheet m) (0 ∷ []) ≡ ok (0 ∷ [])
unfolding bits_of padded gap bytes_of num num_from
none_encodes m = whole_encodes (sheet m) (0 ∷ []) (bits_of 1 0 ++ []) (lay_lead m 0 0 [] [] (omega arith) (unfold standing lists in lay_done 1 []))

-- the sheet of m lists, as bytes
pub record Encoded (m : ℕ) (ls : List (List ℕ)) : Type 0 where
  pub bytes : List ℕ
  pub small : Bytes bytes
  pub is : encode (sheet m) (sheet_fields ls) ≡ ok bytes
  pub back : decode (sheet m) bytes ≡ ok (sheet_fields ls)
  pub holds : bits bytes ≡ padded (sheet_bits ls)
  pub number : length bytes ≡ sheet_length m (pair_count ls)

pub sheet_encodes : (m : ℕ) (ls : List (List ℕ)) → length ls ≡ m → Fit ls → all_or_none ls ≡ ls → Encoded m ls
sheet_encodes m ls e f u =
    let bs : List Bool = sheet_bits ls in
    let k : ℕ = (length bs + 7) / 8 in
    let p : encode (sheet m) (sheet_fields ls) ≡ ok (bytes_of k (padded bs)) = whole_encodes (sheet m) (sheet_fields ls) bs (sheet_lays m 0 ls e f u) in
    record {
      bytes = bytes_of k (padded bs);
      small = bytes_bytes_of k (padded bs);
      is = p;
      back = encode_decode (sheet m) (sheet_fields ls) (bytes_of k (padded bs)) p;
      holds = bits_bytes_of k (padded bs) (length_padded bs);
      number = length_bytes_of k (padded bs) ∙ sheet_bytes ls ∙ ap (λ (j : ℕ). sheet_length j (pair_count ls)) e;
    }
