-- inner: a sheet made from pairs: words in whose low 24 bits stand their codes, each with a mask that says under which edges of the pattern it is listed.
use Rattle.std.specs.Prelude.{ℕ, zero, suc, ◌+◌, ◌*◌, ◌/◌, ◌%◌, ◌^◌, ◌<◌, ◌≤◌, ◌≡◌, List, [], ◌∷◌, ◌++◌, map, Bool, true, false, not, ◌||◌, length, take, drop, get_or, eqb}
use Rattle.std.proofs.lemmas.List.Edits.{sets}
use Rattle.packed.specs.Bits.{odd, bits, bits_of}
use Rattle.packed.specs.Format.{pick, encode, ok}
use Rattle.packed.specs.Formats.{sheet}
use Rattle.packed.specs.Contents.{pair_count, sheet_fields}

-- whether the mask q names the edge e
unfoldable pub marks : ℕ → ℕ → Bool
marks e q = odd (q / 2 ^ e)

-- the codes of ps whose masks, in qs, name the edge e
unfoldable pub marked : ℕ → List ℕ → List ℕ → List ℕ
marked e [] qs = []
marked e (p ∷ ps) qs = pick (marks e (get_or qs 0 0)) (p ∷ marked e ps (drop 1 qs)) (marked e ps (drop 1 qs))

-- the same for so many edges from e on
unfoldable pub marked_from : ℕ → ℕ → List ℕ → List ℕ → List (List ℕ)
marked_from e zero ps qs = []
marked_from e (suc k) ps qs = marked e ps qs ∷ marked_from (suc e) k ps qs

unfoldable pub any_empty : List (List ℕ) → Bool
any_empty [] = false
any_empty (l ∷ ls) = eqb (length l) 0 || any_empty ls

unfoldable pub emptied : List (List ℕ) → List (List ℕ)
emptied [] = []
emptied (l ∷ ls) = [] ∷ emptied ls

-- where one list is empty, all are
unfoldable pub all_or_none : List (List ℕ) → List (List ℕ)
all_or_none ls = pick (any_empty ls) (emptied ls) ls

-- the code of the pair in a word: a record's edge has its kind above it
abbrev pub pair_in : ℕ → ℕ
pair_in c = c % 2 ^ 24

-- the codes of the n pairs at the front of the workspace, and their masks from word 8192 on
abbrev pub codes_of : ℕ → List ℕ → List ℕ
codes_of n w = map pair_in (take n w)

abbrev pub masks_of : ℕ → List ℕ → List ℕ
masks_of n w = take n (drop 8192 w)

-- the lists of a sheet for m edges whose bits begin at o
unfoldable pub matches_from : ℕ → ℕ → ℕ → List ℕ → List (List ℕ)
matches_from o n m w = all_or_none (marked_from o m (codes_of n w) (masks_of n w))

-- the same where the masks are of one pattern
abbrev pub matches_of : ℕ → ℕ → List ℕ → List (List ℕ)
matches_of n m w = matches_from 0 n m w

-- the codes that are listed under one edge ascend, each once
pub record Marked (n : ℕ) (w : List ℕ) : Type 0 where
  pub long : 16384 ≤ length w
  pub most : n ≤ 8192
  pub rises : (i j e : ℕ) → i < j → j < n → marks e (get_or w (8192 + i) 0) ≡ true → marks e (get_or w (8192 + j) 0) ≡ true → pair_in (get_or w i 0) < pair_in (get_or w j 0)

-- how many pairs the lists have, each by itself
pub record Counts (n : ℕ) (w c : List ℕ) : Type 0 where
  pub long : length c ≡ 32
  pub each : (e : ℕ) → e < 32 → get_or c e 0 ≡ length (marked e (codes_of n w) (masks_of n w))

-- the edges that some mask names
pub record Named (n : ℕ) (w : List ℕ) (r : ℕ) : Type 0 where
  pub small : r < 2 ^ 32
  pub each : (e : ℕ) → e < 32 → marks e r ≡ not (eqb (length (marked e (codes_of n w) (masks_of n w))) 0)

-- the bytes of the sheet stand at the front of out as far as it goes
pub record SheetWritten (o n m : ℕ) (w out : List ℕ) (r : ℕ) (out' : List ℕ) : Type 0 where
  pub bytes : List ℕ
  pub is : encode (sheet m) (sheet_fields (matches_from o n m w)) ≡ ok bytes
  pub number : r ≡ length bytes
  pub front : out' ≡ sets out 0 bytes

-- ---- the steps

-- each bit of x is added to its count
pub record Added (c : List ℕ) (x : ℕ) (c' : List ℕ) : Type 0 where
  pub long : length c' ≡ length c
  pub each : (e : ℕ) → e < 32 → get_or c' e 0 ≡ get_or c e 0 + x / 2 ^ e % 2

-- whether one of the first m counts is zero, and their sum
unfoldable pub any_zero : ℕ → List ℕ → Bool
any_zero zero c = false
any_zero (suc m) c = any_zero m c || eqb (get_or c m 0) 0

unfoldable pub sum_of : ℕ → List ℕ → ℕ
sum_of zero c = 0
sum_of (suc m) c = sum_of m c + get_or c m 0

-- the counts c from o on, so many as m, and then zeros
pub record PartOfCounts (o m : ℕ) (c r : List ℕ) : Type 0 where
  pub long : length r ≡ 32
  pub each : (e : ℕ) → e < m → get_or r e 0 ≡ get_or c (o + e) 0
  pub rest : (e : ℕ) → m ≤ e → get_or r e 0 ≡ 0

-- how many pairs the lists of m edges have whose bits begin at o, each by itself
pub record CountsFrom (o n m : ℕ) (w c : List ℕ) : Type 0 where
  pub each : (e : ℕ) → e < m → get_or c e 0 ≡ length (marked (o + e) (codes_of n w) (masks_of n w))

-- how many the sheet's lists have: none where one would be empty
pub record Lengths (o n m : ℕ) (w c : List ℕ) : Type 0 where
  pub sum : sum_of m c ≡ pair_count (matches_from o n m w)
  pub all : (sum_of m c ≡ 0 → ⊥) → CountsFrom o n m w c × (matches_from o n m w ≡ marked_from o m (codes_of n w) (masks_of n w))

-- none of the pairs are listed where one of the lists would be empty, else all
pub record Listed (n m : ℕ) (w : List ℕ) (r : ℕ) : Type 0 where
  pub is : r ≡ pick (any_empty (marked_from 0 m (codes_of n w) (masks_of n w))) 0 n
  pub lists : marked_from 0 m (codes_of r w) (masks_of r w) ≡ matches_of n m w

-- the bits of a list's pairs, and of lists with their counts
unfoldable pub pair_bits : List ℕ → List Bool
pair_bits [] = []
pair_bits (c ∷ cs) = bits_of 24 c ++ pair_bits cs

unfoldable pub coded_list : List (List ℕ) → List Bool
coded_list [] = []
coded_list (l ∷ ls) = bits_of 14 (length l) ++ (pair_bits l ++ coded_list ls)

-- the bits of a sheet with these lists: its lead, and the lists where there are pairs
unfoldable pub sheet_bits : List (List ℕ) → List Bool
sheet_bits ls = pick (eqb (pair_count ls) 0) (false ∷ []) (true ∷ coded_list ls)

-- where the list of the edge e begins, by the counts of the lists: the first behind the lead
unfoldable pub list_start : ℕ → List ℕ → ℕ
list_start zero c = 1
list_start (suc e) c = list_start e c + (14 + 24 * get_or c e 0)

-- the first m lists, each from its start on: its count, and the codes that it has so far
unfoldable pub laid : ℕ → (ℕ → List ℕ) → List ℕ → List Bool → List Bool
laid zero has c b = b
laid (suc e) has c b = sets (laid e has c b) (list_start e c) (bits_of 14 (get_or c e 0) ++ pair_bits (has e))

-- the code v at the place of each of the first m edges that the mask x names
unfoldable pub scatter : ℕ → (ℕ → ℕ) → ℕ → ℕ → List Bool → List Bool
scatter zero to x v b = b
scatter (suc e) to x v b = sets (scatter e to x v b) (to e) (pick (marks e x) (bits_of 24 v) [])

-- the first n pairs of the workspace, each behind those before it in the lists of the m edges whose bits begin at o
unfoldable pub scatters : ℕ → ℕ → ℕ → List ℕ → (ℕ → ℕ) → List Bool → List Bool
scatters o zero m w to b = b
scatters o (suc i) m w to b =
    scatter m (λ e. to e + 24 * length (marked (o + e) (codes_of i w) (masks_of i w))) (get_or w (8192 + i) 0 / 2 ^ o) (pair_in (get_or w i 0)) (scatters o i m w to b)

-- the counts stand, and each list has a place behind its own; the other places are zero
pub record CountsWritten (m : ℕ) (c out ps : List ℕ) (r : ℕ) (out' : List ℕ) : Type 0 where
  pub long : length ps ≡ 32
  pub most : (e : ℕ) → e < 32 → get_or ps e 0 ≤ 2 ^ 39
  pub places : (e : ℕ) → e < m → get_or ps e 0 ≡ list_start e c + 14
  pub rest : (e : ℕ) → m ≤ e → get_or ps e 0 ≡ 0
  pub holds : bits out' ≡ laid m (λ e. []) c (bits out)
  pub next : r ≡ list_start m c

-- the code v stands in the lists that the mask x names, and their places have moved on
pub record PairPut (x v : ℕ) (ps out ps' out' : List ℕ) : Type 0 where
  pub long : length ps' ≡ length ps
  pub moved : (e : ℕ) → e < 32 → get_or ps' e 0 ≡ get_or ps e 0 + 24 * (x / 2 ^ e % 2)
  pub holds : bits out' ≡ scatter 32 (λ e. get_or ps e 0) x v (bits out)

-- the first n pairs stand in the lists of the m edges whose bits begin at o, whose places have moved on by them; the other places are as they were
pub record PairsWritten (o n m : ℕ) (w ps out ps' out' : List ℕ) : Type 0 where
  pub long : length ps' ≡ 32
  pub moved : (e : ℕ) → e < m → get_or ps' e 0 ≡ get_or ps e 0 + 24 * length (marked (o + e) (codes_of n w) (masks_of n w))
  pub rest : (e : ℕ) → m ≤ e → e < 32 → get_or ps' e 0 ≡ get_or ps e 0
  pub holds : bits out' ≡ scatters o n m w (λ e. get_or ps e 0) (bits out)

-- the lists stand behind the lead
pub record ListsWritten (o n m : ℕ) (w out : List ℕ) (r : ℕ) (out' : List ℕ) : Type 0 where
  pub holds : bits out' ≡ sets (bits out) 1 (coded_list (marked_from o m (codes_of n w) (masks_of n w)))
  pub next : r ≡ 1 + length (coded_list (marked_from o m (codes_of n w) (masks_of n w)))
  pub most : r ≤ 1 + 196622 * m

-- the lead stands, and the lists where there are pairs
pub record ListingWritten (o n m : ℕ) (w out : List ℕ) (r : ℕ) (out' : List ℕ) : Type 0 where
  pub holds : bits out' ≡ sets (bits out) 0 (sheet_bits (matches_from o n m w))
  pub next : r ≡ length (sheet_bits (matches_from o n m w))
  pub most : r ≤ 1 + 196622 * m
