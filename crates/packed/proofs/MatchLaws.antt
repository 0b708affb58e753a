-- The lists that masks mark, and the steps that count and write them.
use Prim.Native.Nat.{ℕ, zero, suc, ◌+◌, ◌-◌, ◌*◌, ◌/◌, ◌%◌, ◌^◌, ◌<◌, ◌≤◌}
use mathlib.Core.Path.{◌≡◌, refl, ap, ap₂, sym, ◌∙◌}
use mathlib.Core.Logic.{⊎_elim}
use mathlib.Core.List.{List, [], ◌∷◌, ◌++◌, map, append_assoc, append-nil}
use mathlib.Core.Bool.{Bool, true, false, ◌||◌, or-false, or_assoc}
use lib.ListN.{length, take, drop, get_or, set, replicate, length-append, length-take, length-drop, length-map, length-set, length-replicate, get_or-replicate, get_or-eq_default, get_or-map}
use lib.Seq.{sets, take-suc, get_or-drop, get_or-take, get_or-set_same, get_or-set_other, length-take-le}
use lib.Dec.{eqb}
use lib.Pow.{shr-shr}
use native.Mathlib.Omega.{arith}
use borrow.Author.Count.{below_more}
use borrow.Author.Tests.{eq-eqb, ne_eqb}
use native.Mathlib.Numerals.{add-one}
use native.Mathlib.Nat.{add-zero, zero-add}
use Rattle.packed.specs.Bits.{bits, bits_of, gap}
use Rattle.packed.specs.Format.{pick, encode, ok}
use Rattle.packed.specs.Formats.{sheet}
use Rattle.packed.specs.Matches.{marks, marked, marked_from, any_empty, emptied, all_or_none, pair_in, codes_of, masks_of, matches_from, Marked, Counts, SheetWritten, Added, any_zero, sum_of, PartOfCounts, CountsFrom, Lengths, Listed, pair_bits, coded_list, sheet_bits, ListsWritten, ListingWritten}
use Rattle.packed.specs.Contents.{pair_count, sheet_fields, sheet_length}
use Rattle.packed.proofs.BitsLaws.{length-bits, bits_of_zero, bits_injective}
use Rattle.packed.proofs.OrderCases.{lt_or_ge}
use Rattle.packed.proofs.ByValueLaws.{nothing_at}
use Rattle.packed.proofs.Sets.{sets_append}
use Rattle.packed.proofs.SetBits.{Next, no_bits}
use Rattle.packed.proofs.RoundTrip.{Bytes}
use Rattle.packed.proofs.Files.{bits_sets, bytes_sets}
use Rattle.packed.proofs.SheetLaws.{Rising, rising_none, rising_next, Fit, fit_none, fit_next, fit_all, length_all, all_twice, bits_none, bits_one, padded, Encoded, sheet_encodes}

-- the codes under the edge e, and the lists of the m edges from o on, by the first n pairs of the workspace
abbrev pub under : ℕ → ℕ → List ℕ → List ℕ
under e n w = marked e (codes_of n w) (masks_of n w)

abbrev pub lists_from : ℕ → ℕ → ℕ → List ℕ → List (List ℕ)
lists_from o m n w = marked_from o m (codes_of n w) (masks_of n w)

-- the edge e, counted from o on, by the mask from its bit o on
pub marks_from : (o e q : ℕ) → marks (o + e) q ≡ marks e (q / 2 ^ o)
unfolding marks
marks_from o e q = rw (shr-shr q o e)

-- ---- one more pair

-- a code, where its mask names the edge
abbrev pub pick_one : Bool → ℕ → List ℕ
pick_one b p = pick b (p ∷ []) []

pick_append : (b : Bool) (p : ℕ) (xs ys : List ℕ) → pick b (p ∷ (xs ++ ys)) (xs ++ ys) ≡ pick b (p ∷ xs) xs ++ ys
pick_append true p xs ys = refl
pick_append false p xs ys = refl

marked_more : (e : ℕ) (ps qs : List ℕ) (p q : ℕ) → length ps ≡ length qs
    → marked e (ps ++ (p ∷ [])) (qs ++ (q ∷ [])) ≡ marked e ps qs ++ pick_one (marks e q) p
unfolding marked
marked_more e [] [] p q h = refl
marked_more e [] (y ∷ qs) p q h = absurd (omega arith)
marked_more e (x ∷ ps) [] p q h = absurd (omega arith)
marked_more e (x ∷ ps) (y ∷ qs) p q h =
    ap (λ (l : List ℕ). pick (marks e y) (x ∷ l) l) (marked_more e ps qs p q (omega arith))
    ∙ pick_append (marks e y) x (marked e ps qs) (pick_one (marks e q) p)

-- the codes of words, and of one word more
codes_more : (ws : List ℕ) (c : ℕ) → map pair_in (ws ++ (c ∷ [])) ≡ map pair_in ws ++ (pair_in c ∷ [])
codes_more [] c = refl
codes_more (x ∷ ws) c = ap (λ (l : List ℕ). pair_in x ∷ l) (codes_more ws c)

length_codes : (n : ℕ) (w : List ℕ) → n ≤ length w → length (codes_of n w) ≡ n
length_codes n w h = length-map (take n w) pair_in ∙ length-take-le n w h

pub under_more : (e i : ℕ) (w : List ℕ) → 8192 + i < length w → under e (i + 1) w ≡ under e i w ++ pick_one (marks e (get_or w (8192 + i) 0)) (pair_in (get_or w i 0))
under_more e i w h =
    let d : List ℕ = drop 8192 w in
    let n : length d ≡ length w - 8192 = length-drop 8192 w in
    let l : length (codes_of i w) ≡ length (take i d) = length_codes i w (omega arith) ∙ sym (length-take-le i d (omega arith)) in
    let a : take (i + 1) w ≡ take i w ++ (get_or w i 0 ∷ []) = ap (λ (k : ℕ). take k w) (add-one i) ∙ take-suc w i 0 (omega arith) in
    let b : take (i + 1) d ≡ take i d ++ (get_or d i 0 ∷ []) = ap (λ (k : ℕ). take k d) (add-one i) ∙ take-suc d i 0 (omega arith) in
    ap₂ (marked e) (ap (map pair_in) a ∙ codes_more (take i w) (get_or w i 0)) b
    ∙ marked_more e (codes_of i w) (take i d) (pair_in (get_or w i 0)) (get_or d i 0) l
    ∙ ap (λ (q : ℕ). under e i w ++ pick_one (marks e q) (pair_in (get_or w i 0))) (get_or-drop 8192 w i 0)

length_pick_one : (e p q : ℕ) → length (pick_one (marks e q) p) ≡ q / 2 ^ e % 2
unfolding marks
length_pick_one e p q = go (q / 2 ^ e % 2) (omega arith)
  where
    go : (r : ℕ) → r < 2 → length (pick_one (eqb r 1) p) ≡ r
    go zero h = refl
    go (suc zero) h = refl
    go (suc (suc r)) h = absurd (omega arith)

pub length_more : (e i : ℕ) (w : List ℕ) → 8192 + i < length w → length (under e (i + 1) w) ≡ length (under e i w) + get_or w (8192 + i) 0 / 2 ^ e % 2
length_more e i w h =
    let q : ℕ = get_or w (8192 + i) 0 in
    let p : ℕ = pair_in (get_or w i 0) in
    ap length (under_more e i w h) ∙ length-append (under e i w) (pick_one (marks e q) p) ∙ ap (λ (k : ℕ). length (under e i w) + k) (length_pick_one e p q)

-- the same by the mask from its bit o on
pub under_more_from : (o e i : ℕ) (w : List ℕ) → 8192 + i < length w
    → under (o + e) (i + 1) w ≡ under (o + e) i w ++ pick_one (marks e (get_or w (8192 + i) 0 / 2 ^ o)) (pair_in (get_or w i 0))
under_more_from o e i w h =
    under_more (o + e) i w h ∙ ap (λ (b : Bool). under (o + e) i w ++ pick_one b (pair_in (get_or w i 0))) (marks_from o e (get_or w (8192 + i) 0))

pub length_more_from : (o e i : ℕ) (w : List ℕ) → 8192 + i < length w
    → length (under (o + e) (i + 1) w) ≡ length (under (o + e) i w) + get_or w (8192 + i) 0 / 2 ^ o / 2 ^ e % 2
length_more_from o e i w h =
    length_more (o + e) i w h ∙ ap (λ (k : ℕ). length (under (o + e) i w) + k % 2) (sym (shr-shr (get_or w (8192 + i) 0) o e))

marked_least : (e : ℕ) (ps qs : List ℕ) → length (marked e ps qs) ≤ length ps
unfolding marked
marked_least e [] qs = omega arith
marked_least e (p ∷ ps) qs = go (marks e (get_or qs 0 0)) (marked e ps (drop 1 qs)) (marked_least e ps (drop 1 qs))
  where
    go : (b : Bool) (l : List ℕ) → length l ≤ length ps → length (pick b (p ∷ l) l) ≤ suc (length ps)
    go true l h = omega arith
    go false l h = omega arith

pub under_most : (e n : ℕ) (w : List ℕ) → length (under e n w) ≤ n
under_most e n w = omega (arith, marked_least e (codes_of n w) (masks_of n w), length-map (take n w) pair_in, length-take n w)

-- ---- the codes under an edge rise

names_rest : (e i : ℕ) (qs : List ℕ) → marks e (get_or (drop 1 qs) i 0) ≡ true → marks e (get_or qs (suc i) 0) ≡ true
names_rest e i qs h = ap (λ (k : ℕ). marks e (get_or qs k 0)) (omega arith) ∙ ap (marks e) (sym (get_or-drop 1 qs i 0)) ∙ h

marked_rises : (e least : ℕ) (ps qs : List ℕ) → ((i : ℕ) → i < length ps → marks e (get_or qs i 0) ≡ true → least ≤ get_or ps i 0)
    → ((i : ℕ) → i < length ps → get_or ps i 0 < 2 ^ 24)
    → ((i j : ℕ) → i < j → j < length ps → marks e (get_or qs i 0) ≡ true → marks e (get_or qs j 0) ≡ true → get_or ps i 0 < get_or ps j 0)
    → Rising least (marked e ps qs)
unfolding marked
marked_rises e least [] qs h s r = rising_none
marked_rises e least (p ∷ ps) qs h s r =
    go (marks e (get_or qs 0 0)) refl
    (λ k l. marked_rises e k ps (drop 1 qs) (λ i q m. l i q (names_rest e i qs m)) (λ i q. s (suc i) (omega arith))
    (λ i j a q m n. r (suc i) (suc j) (omega arith) (omega arith) (names_rest e i qs m) (names_rest e j qs n)))
  where
    go : {l : List ℕ} (b : Bool) → marks e (get_or qs 0 0) ≡ b
        → ((k : ℕ) → ((i : ℕ) → i < length ps → marks e (get_or qs (suc i) 0) ≡ true → k ≤ get_or ps i 0) → Rising k l) → Rising least (pick b (p ∷ l) l)
    go true m rest = rising_next (h 0 (omega arith) m) (s 0 (omega arith)) (rest (suc p) (λ i q n. r 0 (suc i) (omega arith) (omega arith) m n))
    go false m rest = rest least (λ i q n. h (suc i) (omega arith) n)

fit_from : (e m : ℕ) (ps qs : List ℕ) → ((j : ℕ) → Rising 0 (marked j ps qs)) → length ps ≤ 8192 → Fit (marked_from e m ps qs)
unfolding marked_from
fit_from e zero ps qs r h = fit_none
fit_from e (suc m) ps qs r h = fit_next (r e) (omega (arith, marked_least e ps qs)) (fit_from (suc e) m ps qs r h)

under_rises : (n : ℕ) (w : List ℕ) → Marked n w → (e : ℕ) → Rising 0 (under e n w)
under_rises n w k e =
    let l : length (codes_of n w) ≡ n = length_codes n w (omega (arith, k.long, k.most)) in
    let code : (i : ℕ) → i < n → get_or (codes_of n w) i 0 ≡ pair_in (get_or w i 0) = λ i q. get_or-map pair_in (take n w) i 0 ∙ ap pair_in (get_or-take n w i 0 q) in
    let mask : (i : ℕ) → i < n → get_or (masks_of n w) i 0 ≡ get_or w (8192 + i) 0 = λ i q. get_or-take n (drop 8192 w) i 0 q ∙ get_or-drop 8192 w i 0 in
    marked_rises e 0 (codes_of n w) (masks_of n w) (λ i q m. omega arith) (λ i q. rw (code i (omega arith)) (omega arith))
    (λ i j p q a b.
    rw (code i (omega arith), code j (omega arith))
    (k.rises i j e p (omega arith) (ap (marks e) (sym (mask i (omega arith))) ∙ a) (ap (marks e) (sym (mask j (omega arith))) ∙ b)))

pub fit_lists : (o n m : ℕ) (w : List ℕ) → Marked n w → Fit (lists_from o m n w)
fit_lists o n m w k = fit_from o m (codes_of n w) (masks_of n w) (under_rises n w k) (omega (arith, length-map (take n w) pair_in, length-take n w, k.most))

length_from : (e m : ℕ) (ps qs : List ℕ) → length (marked_from e m ps qs) ≡ m
unfolding marked_from
length_from e zero ps qs = refl
length_from e (suc m) ps qs = ap suc (length_from (suc e) m ps qs)

pub matches_long : (o n m : ℕ) (w : List ℕ) → length (matches_from o n m w) ≡ m
unfolding matches_from
matches_long o n m w = length_all (lists_from o m n w) ∙ length_from o m (codes_of n w) (masks_of n w)

pub matches_encode : (o n m : ℕ) (w : List ℕ) → Marked n w → Encoded m (matches_from o n m w)
unfolding matches_from
matches_encode o n m w k =
    let ls : List (List ℕ) = lists_from o m n w in
    sheet_encodes m (all_or_none ls) (matches_long o n m w) (fit_all ls (fit_lists o n m w k)) (all_twice ls)

-- ---- adding the bits of a mask

pub record Adding (x : ℕ) (c₀ c : List ℕ) (e : ℕ) : Type 0 where
  pub upto : e ≤ 32
  pub long : length c ≡ length c₀
  pub done : (k : ℕ) → k < e → get_or c k 0 ≡ get_or c₀ k 0 + x / 2 ^ k % 2
  pub left : (k : ℕ) → e ≤ k → k < 32 → get_or c k 0 ≡ get_or c₀ k 0

pub adding_start : (x : ℕ) (c : List ℕ) → Adding x c c 0
adding_start x c = record { upto = omega arith; long = refl; done = λ k l. absurd (omega arith); left = λ k a b. refl }

-- bits that are not set add nothing
adding_skip : {x : ℕ} {c₀ c : List ℕ} {k : ℕ} (e : ℕ) → Adding x c₀ c k → k ≤ e → e ≤ 32 → ((j : ℕ) → k ≤ j → j < e → x / 2 ^ j % 2 ≡ 0) → Adding x c₀ c e
adding_skip {x} {c₀} {c} {k} e t l h z =
    record {
      upto = h;
      long = t.long;
      done = λ j q. ⊎_elim (λ (r : j < k). t.done j r) (λ (r : k ≤ j). omega (arith, t.left j r (omega arith), z j r q)) (lt_or_ge j k);
      left = λ j a b. t.left j (omega arith) b;
    }

adding_set : {x : ℕ} {c₀ c : List ℕ} (e : ℕ) → Adding x c₀ c e → e < 32 → length c₀ ≡ 32 → x / 2 ^ e % 2 ≡ 1 → Adding x c₀ (set c e (get_or c e 0 + 1)) (e + 1)
adding_set {x} {c₀} {c} e t l h y =
    let v : ℕ = get_or c e 0 + 1 in
    let n : e < length c = omega (arith, t.long) in
    record {
      upto = omega arith;
      long = length-set c e v ∙ t.long;
      done = below_more (λ k. get_or (set c e v) k 0 ≡ get_or c₀ k 0 + x / 2 ^ k % 2) e
          (λ k q. get_or-set_other c e k v 0 (λ p. omega arith) ∙ t.done k q)
          (get_or-set_same c e v 0 n ∙ omega (arith, t.left e (omega arith) l));
      left = λ k a b. get_or-set_other c e k v 0 (λ p. omega arith) ∙ t.left k (omega arith) b;
    }

pub adding_next : {x : ℕ} {c₀ c : List ℕ} {k left : ℕ} (z : ℕ) → Adding x c₀ c k → length c₀ ≡ 32 → Next x k left z
    → Adding x c₀ (set c (k + z) (get_or c (k + z) 0 + 1)) (k + z + 1)
adding_next {k = k} z t h s = adding_set (k + z) (adding_skip (k + z) t (omega arith) (omega (arith, s.inside)) s.below) s.inside h s.here

pub adding_end : {x : ℕ} {c₀ c : List ℕ} {k left : ℕ} → Adding x c₀ c k → left ≡ x / 2 ^ k → left ≡ 0 → Added c₀ x c
adding_end {x} {c₀} {c} {k} {left} t e z =
    let u : Adding x c₀ c 32 = adding_skip 32 t t.upto (omega arith) (λ j a l. no_bits x k left e z j a) in
    record { long = u.long; each = u.done }

-- ---- counting

pub counts_start : (w c : List ℕ) → c ≡ replicate 32 0 → Counts 0 w c
unfolding marked
counts_start w c h = record { long = ap length h ∙ length-replicate {A = ℕ} 32 0; each = λ e l. ap (λ (x : List ℕ). get_or x e 0) h ∙ get_or-replicate 32 e 0 0 l }

pub counts_next : (i : ℕ) (w c c' : List ℕ) → Counts i w c → 8192 + i < length w → Added c (get_or w (8192 + i) 0) c' → Counts (i + 1) w c'
counts_next i w c c' t h a =
    record {
      long = a.long ∙ t.long;
      each = λ e l. a.each e l ∙ ap (λ (k : ℕ). k + get_or w (8192 + i) 0 / 2 ^ e % 2) (t.each e l) ∙ sym (length_more e i w h);
    }

pub counts_most : (n : ℕ) (w c : List ℕ) → Counts n w c → (e : ℕ) → e < 32 → get_or c e 0 ≤ n
counts_most n w c t e l = omega (arith, t.each e l, under_most e n w)

pub counts_few : (n : ℕ) (w c : List ℕ) → Counts n w c → n ≤ 8192 → (e : ℕ) → get_or c e 0 ≤ 8192
counts_few n w c t h e =
    ⊎_elim (λ (l : e < 32). omega (arith, counts_most n w c t e l)) (λ (l : 32 ≤ e). omega (arith, get_or-eq_default c 0 {n = e} (omega (arith, t.long)))) (lt_or_ge e 32)

-- ---- one more list

from_next : (e m : ℕ) (ps qs : List ℕ) → marked_from e (suc m) ps qs ≡ marked_from e m ps qs ++ (marked (e + m) ps qs ∷ [])
unfolding marked_from
from_next e zero ps qs = ap (λ (k : ℕ). marked k ps qs ∷ []) (sym (add-zero e))
from_next e (suc m) ps qs =
    ap (λ (l : List (List ℕ)). marked e ps qs ∷ l)
    (from_next (suc e) m ps qs ∙ ap (λ (k : ℕ). marked_from (suc e) m ps qs ++ (marked k ps qs ∷ [])) (omega arith))

pub lists_next : (o m n : ℕ) (w : List ℕ) → lists_from o (suc m) n w ≡ lists_from o m n w ++ (under (o + m) n w ∷ [])
lists_next o m n w = from_next o m (codes_of n w) (masks_of n w)

total_next : (ls : List (List ℕ)) (l : List ℕ) → pair_count (ls ++ (l ∷ [])) ≡ pair_count ls + length l
unfolding pair_count
total_next [] l = omega arith
total_next (x ∷ ls) l = omega (arith, total_next ls l)

pub empty_next : (ls : List (List ℕ)) (l : List ℕ) → any_empty (ls ++ (l ∷ [])) ≡ any_empty ls || eqb (length l) 0
unfolding any_empty
empty_next [] l = or-false (eqb (length l) 0)
empty_next (x ∷ ls) l = ap (λ (b : Bool). eqb (length x) 0 || b) (empty_next ls l) ∙ sym (or_assoc (eqb (length x) 0) (any_empty ls) (eqb (length l) 0))

pub bits_next : (ls : List (List ℕ)) (l : List ℕ) → coded_list (ls ++ (l ∷ [])) ≡ coded_list ls ++ (bits_of 14 (length l) ++ pair_bits l)
unfolding coded_list
bits_next [] l = ap (λ (x : List Bool). bits_of 14 (length l) ++ x) (append-nil (pair_bits l))
bits_next (x ∷ ls) l = rw (bits_next ls l) (simp append_assoc)

-- ---- from counts to lists

pub sum_next : (e : ℕ) (c : List ℕ) → sum_of (e + 1) c ≡ sum_of e c + get_or c e 0
unfolding sum_of
sum_next e c = rw add-one

pub zero_next : (e : ℕ) (c : List ℕ) → any_zero (e + 1) c ≡ any_zero e c || eqb (get_or c e 0) 0
unfolding any_zero
zero_next e c = rw add-one

counts_fewer : {o n m : ℕ} {w c : List ℕ} → CountsFrom o n (suc m) w c → CountsFrom o n m w c
counts_fewer t = record { each = λ e l. t.each e (omega arith) }

sum_is : (o n m : ℕ) (w c : List ℕ) → CountsFrom o n m w c → sum_of m c ≡ pair_count (lists_from o m n w)
unfolding sum_of
sum_is o n zero w c t = unfold pair_count marked_from in refl
sum_is o n (suc m) w c t =
    ap₂ (λ (a b : ℕ). a + b) (sum_is o n m w c (counts_fewer t)) (t.each m (omega arith))
    ∙ sym (ap pair_count (lists_next o m n w) ∙ total_next (lists_from o m n w) (under (o + m) n w))

zero_is : (o n m : ℕ) (w c : List ℕ) → CountsFrom o n m w c → any_zero m c ≡ any_empty (lists_from o m n w)
unfolding any_zero
zero_is o n zero w c t = unfold any_empty marked_from in refl
zero_is o n (suc m) w c t =
    ap₂ (λ (a : Bool) (b : ℕ). a || eqb b 0) (zero_is o n m w c (counts_fewer t)) (t.each m (omega arith))
    ∙ sym (ap any_empty (lists_next o m n w) ∙ empty_next (lists_from o m n w) (under (o + m) n w))

-- ---- a part of the counts

pub part_start : (o : ℕ) (c r : List ℕ) → r ≡ replicate 32 0 → PartOfCounts o 0 c r
part_start o c r h =
    record {
      long = ap length h ∙ length-replicate {A = ℕ} 32 0;
      each = λ e l. absurd (omega arith);
      rest = λ e l. ap (λ (x : List ℕ). get_or x e 0) h ∙ nothing_at 32 e;
    }

pub part_next : {o m : ℕ} {c r : List ℕ} → PartOfCounts o m c r → m < 32 → PartOfCounts o (m + 1) c (set r m (get_or c (o + m) 0))
part_next {o} {m} {c} {r} t l =
    let v : ℕ = get_or c (o + m) 0 in
    record {
      long = length-set r m v ∙ t.long;
      each = below_more (λ e. get_or (set r m v) e 0 ≡ get_or c (o + e) 0) m
          (λ e q. get_or-set_other r m e v 0 (λ p. omega arith) ∙ t.each e q)
          (get_or-set_same r m v 0 (omega (arith, t.long)));
      rest = λ e q. get_or-set_other r m e v 0 (λ p. omega arith) ∙ t.rest e (omega arith);
    }

pub part_few : {o m : ℕ} {c r : List ℕ} → PartOfCounts o m c r → ((e : ℕ) → get_or c e 0 ≤ 8192) → (e : ℕ) → get_or r e 0 ≤ 8192
part_few {o} {m} t h e =
    ⊎_elim (λ (l : e < m). omega (arith, t.each e l, h (o + e))) (λ (l : m ≤ e). omega (arith, t.rest e l)) (lt_or_ge e m)

part_counts : {o n m : ℕ} {w c r : List ℕ} → PartOfCounts o m c r → o + m ≤ 32 → Counts n w c → CountsFrom o n m w r
part_counts {o} t h k = record { each = λ e l. t.each e l ∙ k.each (o + e) (omega arith) }

-- ---- none or all

none_from : (e m : ℕ) (ps qs qs' : List ℕ) → marked_from e m [] qs ≡ emptied (marked_from e m ps qs')
unfolding marked_from marked emptied
none_from e zero ps qs qs' = refl
none_from e (suc m) ps qs qs' = ap (λ (l : List (List ℕ)). [] ∷ l) (none_from (suc e) m ps qs qs')

matches_none : (o n m : ℕ) (w : List ℕ) → any_empty (lists_from o m n w) ≡ true → matches_from o n m w ≡ emptied (lists_from o m n w)
unfolding matches_from all_or_none
matches_none o n m w h = rw h

matches_all : (o n m : ℕ) (w : List ℕ) → any_empty (lists_from o m n w) ≡ false → matches_from o n m w ≡ lists_from o m n w
unfolding matches_from all_or_none
matches_all o n m w h = rw h

pub listed_none : (n m : ℕ) (w : List ℕ) → any_empty (lists_from 0 m n w) ≡ true → Listed n m w 0
listed_none n m w h = record { is = rw h; lists = none_from 0 m (codes_of n w) [] (masks_of n w) ∙ sym (matches_none 0 n m w h) }

pub listed_all : (n m : ℕ) (w : List ℕ) → any_empty (lists_from 0 m n w) ≡ false → Listed n m w n
listed_all n m w h = record { is = rw h; lists = sym (matches_all 0 n m w h) }

emptied_total : (ls : List (List ℕ)) → pair_count (emptied ls) ≡ 0
unfolding pair_count emptied
emptied_total [] = refl
emptied_total (l ∷ ls) = omega (arith, emptied_total ls)

zeros_sum : (m : ℕ) (c : List ℕ) → c ≡ replicate 32 0 → sum_of m c ≡ 0
unfolding sum_of
zeros_sum zero c h = refl
zeros_sum (suc m) c h = omega (arith, zeros_sum m c h, ap (λ (x : List ℕ). get_or x m 0) h, nothing_at 32 m)

pub lengths_none : {o n m : ℕ} {w c r z : List ℕ} → PartOfCounts o m c r → o + m ≤ 32 → any_zero m r ≡ true → z ≡ replicate 32 0 → Counts n w c → Lengths o n m w z
lengths_none {o} {n} {m} {w} {c} {r} {z} t h y e k =
    let s : sum_of m z ≡ 0 = zeros_sum m z e in
    record {
      sum = s
          ∙ sym (ap pair_count (matches_none o n m w (sym (zero_is o n m w r (part_counts t h k)) ∙ y)) ∙ emptied_total (lists_from o m n w));
      all = λ q. absurd (q s);
    }

pub lengths_all : {o n m : ℕ} {w c r : List ℕ} → PartOfCounts o m c r → o + m ≤ 32 → any_zero m r ≡ false → Counts n w c → Lengths o n m w r
lengths_all {o} {n} {m} {w} {c} {r} t h y k =
    let f : CountsFrom o n m w r = part_counts t h k in
    let e : matches_from o n m w ≡ lists_from o m n w = matches_all o n m w (sym (zero_is o n m w r f) ∙ y) in
    record { sum = sum_is o n m w r f ∙ sym (ap pair_count e); all = λ q. (f, e) }

-- ---- writing

pub pairs_next : (l : List ℕ) (p : ℕ) → pair_bits (l ++ (p ∷ [])) ≡ pair_bits l ++ bits_of 24 p
unfolding pair_bits
pairs_next [] p = append-nil (bits_of 24 p)
pairs_next (c ∷ cs) p = rw (pairs_next cs p) (sym (append_assoc (bits_of 24 c) (pair_bits cs) (bits_of 24 p)))

pub names : (e q : ℕ) → q / 2 ^ e % 2 ≡ 1 → marks e q ≡ true
unfolding marks
names e q h = eq-eqb (q / 2 ^ e % 2) 1 h

pub names_not : (e q : ℕ) → (q / 2 ^ e % 2 ≡ 1 → ⊥) → marks e q ≡ false
unfolding marks
names_not e q h = ne_eqb (q / 2 ^ e % 2) 1 h

-- the lead, and the lists where there are pairs
pub listing_none : {o n m : ℕ} {w c b b' : List ℕ} → Lengths o n m w c → sum_of m c ≡ 0 → bits b' ≡ sets (bits b) 0 (bits_of 1 0) → ListingWritten o n m w b 1 b'
unfolding sheet_bits
listing_none {o} {n} {m} {w} {c} {b} t z q =
    let e = eq-eqb (pair_count (matches_from o n m w)) 0 (sym t.sum ∙ z) in
    record { holds = q ∙ ap (sets (bits b) 0) bits_none ∙ rw e; next = rw e; most = omega arith }

pub listing_all : {o n m : ℕ} {w c b b₁ : List ℕ} {r : ℕ} {b' : List ℕ} → Lengths o n m w c → (sum_of m c ≡ 0 → ⊥) → bits b₁ ≡ sets (bits b) 0 (bits_of 1 1)
    → ListsWritten o n m w b₁ r b' → ListingWritten o n m w b r b'
unfolding sheet_bits
listing_all {o} {n} {m} {w} {c} {b} t z q s =
    let ls : List (List ℕ) = matches_from o n m w in
    let f : lists_from o m n w ≡ ls = sym (t.all z).1 in
    let e = ne_eqb (pair_count ls) 0 (λ y. z (t.sum ∙ y)) in
    record {
      holds =
          s.holds
          ∙ ap₂ (λ (x : List Bool) (y : List (List ℕ)). sets x 1 (coded_list y)) (q ∙ ap (sets (bits b) 0) bits_one) f
          ∙ rw e (sets_append (bits b) 0 (true ∷ []) (coded_list ls));
      next = s.next ∙ ap (λ (y : List (List ℕ)). 1 + length (coded_list y)) f ∙ rw e (omega arith);
      most = s.most;
    }

pub sheet_written : {o n m : ℕ} {w b₀ : List ℕ} {at : ℕ} {b : List ℕ} {r : ℕ} {b' : List ℕ} → Marked n w → ListingWritten o n m w b₀ at b
    → 8 * r ≡ at + gap at → bits b' ≡ sets (bits b) at (bits_of (gap at) 0) → Bytes b₀ → Bytes b' → SheetWritten o n m w b₀ r b'
unfolding padded
sheet_written {o} {n} {m} {w} {b₀} {at} {b} {r} {b'} t s e q y₀ y =
    let x : Encoded m (matches_from o n m w) = matches_encode o n m w t in
    let ls : List Bool = sheet_bits (matches_from o n m w) in
    let a : at ≡ length ls = s.next in
    let v : bits b' ≡ sets (bits b₀) 0 (bits x.bytes) =
    q
    ∙ ap₂ (λ (z p : List Bool). sets z at p) s.holds (bits_of_zero (gap at) ∙ ap (λ (j : ℕ). replicate (gap j) false) a)
    ∙ ap (λ (j : ℕ). sets (sets (bits b₀) 0 ls) j (replicate (gap (length ls)) false)) (a ∙ sym (zero-add (length ls)))
    ∙ sets_append (bits b₀) 0 ls (replicate (gap (length ls)) false)
    ∙ ap (sets (bits b₀) 0) (sym x.holds) in
    record {
      bytes = x.bytes;
      is = x.is;
      number = omega (arith, e, ap gap a, length-bits x.bytes, ap length x.holds, length-append ls (replicate (gap (length ls)) false), length-replicate (gap (length ls)) false);
      front = bits_injective b' (sets b₀ 0 x.bytes) y (bytes_sets b₀ 0 x.bytes y₀ x.small) (v ∙ sym (bits_sets b₀ 0 x.bytes));
    }

-- the bytes of a sheet, however they were come by
module _ (o n m : ℕ) (w : List ℕ) (t : Marked n w) {y : List ℕ} (e : encode (sheet m) (sheet_fields (matches_from o n m w)) ≡ ok y) where
  pub bytes_number : sheet_length m (pair_count (matches_from o n m w)) ≡ length y
  bytes_number =
      let x : Encoded m (matches_from o n m w) = matches_encode o n m w t in
      let z : x.bytes ≡ y = cc x.is in
      sym x.number ∙ ap length z

  pub bytes_front : {b b' : List ℕ} {r : ℕ} → SheetWritten o n m w b r b' → b' ≡ sets b 0 y
  bytes_front {b} x = let z : x.bytes ≡ y = cc x.is in x.front ∙ ap (sets b 0) z
