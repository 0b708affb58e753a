-- Every refusal has a number from 1 to 21: a file's by its format, and the others by the calls that give them.
use Prim.Native.Nat.{ℕ, zero, suc, ◌+◌, ◌%◌, ◌^◌, ◌≤◌}
use mathlib.Core.Path.{◌≡◌, refl}
use mathlib.Core.Logic.{inl, inr}
use mathlib.Core.List.{List, [], ◌∷◌, ◌++◌}
use mathlib.Core.Bool.{Bool, true, false, ◌&&◌, ◌||◌}
use lib.ListN.{length, take, drop}
use lib.Dec.{eqb, leb, ltb}
use native.Mathlib.Omega.{arith}
use borrow.Author.Tests.{leb-true}
use Rattle.packed.specs.Bits.{bits_of, num, bits, zeros, gap}
use Rattle.packed.specs.Format.{Format, done, ask, test, pad, then, times, whole, Got, got, fault, pick, push, within, scan, lay, Result, ok, bad, ended, in_bytes, decode, encode}
use Rattle.packed.specs.OldRecord.{old_record}
use Rattle.packed.specs.Formats.{code, rank, edges, label, joined, pattern, patterns, catalogue, labels, rising, record', pairs, lists, standing, sheet, book}
use Rattle.packed.specs.Calls.{Outcome, give, refuse, with_workspace, rejected, in_file, read_file, write_file, judged, read_catalogue, pairs_of, within_pairs_by, fit, fit_file, fit_both}
use Rattle.engine.specs.Index.{alike, own_index}
use Rattle.answering.specs.Demands.{Settles}

pub record Numbered (n : ℕ) : Type 0 where
  pub least : 1 ≤ n
  pub most : n ≤ 21

pub numbered : (n : ℕ) → leb 1 n ≡ true → leb n 21 ≡ true → Numbered n
numbered n p q = record { least = leb-true 1 n p; most = leb-true n 21 q }

-- the numbers that fall to what stands in a file, or in content
pub record FileFault (n : ℕ) : Type 0 where
  pub least : 2 ≤ n
  pub most : n ≤ 9

file_fault : (n : ℕ) → leb 2 n ≡ true → leb n 9 ≡ true → FileFault n
file_fault n p q = record { least = leb-true 2 n p; most = leb-true n 9 q }

fault_numbered : {n : ℕ} → FileFault n → Numbered n
fault_numbered f = record { least = omega (arith, f.least); most = omega (arith, f.most) }

-- ---- formats

-- the format's own faults are such numbers, whatever its fields hold
pub data Faults : Format → Type 0 where
  ends : Faults done
  asks : {w low bound n : ℕ} {f : ℕ → Format} → FileFault n → ((v : ℕ) → Faults (f v)) → Faults (ask w low bound n f)
  tests : {b : Bool} {n : ℕ} {f : Format} → FileFault n → Faults f → Faults (test b n f)
  pads : {f : Format} → Faults f → Faults (pad f)

pub then_faults : {f g : Format} → Faults f → Faults g → Faults (then f g)
unfolding then
then_faults ends h = h
then_faults (asks n k) h = asks n (λ v. then_faults (k v) h)
then_faults (tests n k) h = tests n (then_faults k h)
then_faults (pads k) h = pads (then_faults k h)

pub times_faults : (n : ℕ) {f : Format} → Faults f → Faults (times n f)
unfolding times
times_faults zero h = ends
times_faults (suc n) h = then_faults h (times_faults n h)

pub whole_faults : {f : Format} → Faults f → Faults (whole f)
unfolding whole
whole_faults h = then_faults h (pads ends)

-- ---- one pass

-- what it gives, if it is a fault, is such a number
data Passes {A B : Type 0} : Got A B → Type 0 where
  gets : {xs : List A} {r : List B} → Passes (got xs r)
  faults : {n : ℕ} → FileFault n → Passes (fault n)

module _ {A B : Type 0} where
  picked : (b : Bool) {r : Got A B} {n : ℕ} → Passes r → FileFault n → Passes (pick b r (fault n))
  picked true h n = h
  picked false h n = faults n

  pushed : (xs : List A) {r : Got A B} → Passes r → Passes (push xs r)
  pushed xs gets = gets
  pushed xs (faults n) = faults n

scan_passes : {f : Format} → Faults f → (bs : List Bool) → Passes (scan f bs)
unfolding scan
scan_passes ends bs = gets
scan_passes (asks {w} {low} {bound} n k) bs =
    let v : ℕ = num (take w bs) in
    picked (leb w (length bs)) (picked (within low bound v) (pushed (v ∷ []) (scan_passes (k v) (drop w bs))) n) (file_fault 2 refl refl)
scan_passes (tests {b} n k) bs = picked b (scan_passes k bs) n
scan_passes (pads k) bs = let j : ℕ = length bs % 8 in picked (zeros (take j bs)) (scan_passes k (drop j bs)) (file_fault 9 refl refl)

lay_passes : {f : Format} → Faults f → (at : ℕ) (ws : List ℕ) → Passes (lay f at ws)
unfolding lay
lay_passes ends at ws = gets
lay_passes (asks n k) at [] = faults (file_fault 2 refl refl)
lay_passes (asks {w} {low} {bound} n k) at (v ∷ ws) = picked (within low bound v && ltb v (2 ^ w)) (pushed (bits_of w v) (lay_passes (k v) (at + w) ws)) n
lay_passes (tests {b} n k) at ws = picked b (lay_passes k at ws) n
lay_passes (pads k) at ws = pushed _ (lay_passes k (at + gap at) ws)

-- ---- a whole file

pub data Results {A : Type 0} : Result A → Type 0 where
  is_ok : {xs : List A} → Results (ok xs)
  is_bad : {n : ℕ} → FileFault n → Results (bad n)

ended_results : {A B : Type 0} {r : Got A B} → Passes r → Results (ended r)
ended_results (gets {r = []}) = is_ok
ended_results (gets {r = y ∷ ys}) = is_bad (file_fault 9 refl refl)
ended_results (faults n) = is_bad n

in_bytes_lem : {r : Result Bool} → Results r → Results (in_bytes r)
in_bytes_lem is_ok = is_ok
in_bytes_lem (is_bad n) = is_bad n

pub decode_results : {f : Format} → Faults f → (s : List ℕ) → Results (decode f s)
unfolding decode
decode_results h s = ended_results (scan_passes (whole_faults h) (bits s))

pub encode_results : {f : Format} → Faults f → (ws : List ℕ) → Results (encode f ws)
unfolding encode
encode_results h ws = in_bytes_lem (ended_results (lay_passes (whole_faults h) 0 ws))

-- ---- the five formats

three : FileFault 3
three = file_fault 3 refl refl

edges_faults : (w wide nodes : ℕ) (last : List ℕ → Format) → ((es : List ℕ) → Faults (last es)) → (more : ℕ) (es : List ℕ) → Faults (edges w wide nodes last more es)
unfolding edges
edges_faults w wide nodes last h zero es = h es
edges_faults w wide nodes last h (suc more) es =
    asks (file_fault 4 refl refl) (λ from. asks (file_fault 4 refl refl) (λ to. asks three (λ kind.
    tests (file_fault 5 refl refl) (edges_faults w wide nodes last h more (es ++ (from ∷ to ∷ kind ∷ []))))))

pub pattern_faults : Faults pattern
unfolding pattern label joined
pattern_faults =
    asks three (λ nodes. asks three (λ number.
    then_faults (times_faults nodes (asks three (λ v. ends))) (edges_faults 4 3 nodes (joined nodes) (λ es. tests (file_fault 7 refl refl) ends) number [])))

pub patterns_faults : (number : ℕ) → Faults (patterns number)
patterns_faults number = times_faults number (whole_faults pattern_faults)

pub catalogue_faults : Faults catalogue
unfolding catalogue
catalogue_faults = asks three (λ number. pads (patterns_faults number))

rising_faults : (nodes n least : ℕ) → Faults (rising nodes n least)
unfolding rising
rising_faults nodes zero least = ends
rising_faults nodes (suc n) least =
    asks (file_fault 4 refl refl) (λ a. asks (file_fault 4 refl refl) (λ b. asks three (λ k.
    tests (file_fault 6 refl refl) (rising_faults nodes n (suc (rank a b k))))))

pub record_faults : Faults record'
unfolding record' labels
record_faults =
    asks three (λ nodes. asks three (λ number.
    then_faults (times_faults nodes (asks three (λ v. ends))) (rising_faults nodes number 0)))

-- a record as it was stored before
pub old_faults : Faults old_record
unfolding old_record labels
old_faults =
    asks three (λ nodes. asks three (λ number.
    then_faults (times_faults nodes (asks three (λ v. ends))) (edges_faults 12 0 nodes (λ es. done) (λ es. ends) number [])))

pairs_faults : (k least : ℕ) → Faults (pairs k least)
unfolding pairs
pairs_faults zero least = ends
pairs_faults (suc k) least = asks three (λ a. asks three (λ b. tests (file_fault 6 refl refl) (pairs_faults k (suc (code a b)))))

lists_faults : (m : ℕ) → Faults (lists m)
unfolding lists
lists_faults zero = ends
lists_faults (suc m) = asks three (λ n. tests (file_fault 8 refl refl) (then_faults (pairs_faults n 0) (lists_faults m)))

pub sheet_faults : (m : ℕ) → Faults (sheet m)
unfolding sheet
sheet_faults m = asks three (λ lead. lists_faults (standing lead m))

pub book_faults : (ms : List ℕ) → Faults (book ms)
unfolding book
book_faults [] = ends
book_faults (m ∷ ms) = then_faults (whole_faults (sheet_faults m)) (book_faults ms)

-- ---- answers

pub gives : (vs : List ℕ) (os : List (List ℕ)) → Settles (give vs os)
gives vs os = inl (record { values = vs; outputs = os; is = refl })

pub refuses : {n : ℕ} (d : ℕ) → Numbered n → Settles (refuse n d)
refuses {n} d h = inr (record { number = n; detail = d; is = refl; least = h.least; most = h.most })

pub either : (b : Bool) {x y : Outcome} → Settles x → Settles y → Settles (pick b x y)
either true p q = p
either false p q = q

pub workspace_settles : (words : ℕ) {a : Outcome} → Settles a → Settles (with_workspace words a)
unfolding with_workspace
workspace_settles words h = either (ltb words 16384) (refuses 0 (numbered 14 refl refl)) h

pub within_pairs_settles : (ms ws : List ℕ) {a : Outcome} → Settles a → Settles (within_pairs_by ms ws a)
unfolding within_pairs_by
within_pairs_settles ms ws h = either (ltb 8192 (length (pairs_of ms ws))) (refuses 4 (numbered 10 refl refl)) h

pub own_settles : (own index : List ℕ) {a : Outcome} → Settles a → Settles (own_index own index a)
unfolding own_index
own_settles own index h =
    either (eqb (length index) (length own)) (either (eqb (alike own index) (length own)) h (refuses _ (numbered 16 refl refl))) (refuses _ (numbered 16 refl refl))

pub fit_settles : (room : ℕ) (o : List ℕ) → Settles (fit room o)
unfolding fit
fit_settles room o = either (ltb room (length o)) (refuses (length o) (numbered 12 refl refl)) (gives [] (o ∷ []))

pub fit_file_settles : (room : ℕ) (o : List ℕ) → Settles (fit_file room o)
unfolding fit_file
fit_file_settles room o = either (ltb room (length o) || ltb 65536 (length o)) (refuses (length o) (numbered 12 refl refl)) (gives [] (o ∷ []))

pub fit_both_settles : (room room' : ℕ) (a b : List ℕ) → Settles (fit_both room room' a b)
unfolding fit_both
fit_both_settles room room' a b =
    either (ltb room (length a)) (refuses (length a) (numbered 12 refl refl))
    (either (ltb room' (length b)) (refuses (length b) (numbered 12 refl refl)) (gives [] (a ∷ b ∷ [])))

-- ---- files: what is accepted goes on, what is refused has the fault's number

pub read_settles : (most file : ℕ) {F : Format} → Faults F → (s : List ℕ) {k : List ℕ → Outcome} → ((ws : List ℕ) → Settles (k ws)) → Settles (judged (read_file most file F s) k)
unfolding read_file judged
read_settles most file {F} f s {k} h = go (ltb most (length s)) (decode_results f s)
  where
    go : (b : Bool) {r : Result ℕ} → Results r → Settles (judged (pick b (rejected 1 file) (in_file file r)) k)
    go true q = refuses file (numbered 1 refl refl)
    go false (is_ok {xs}) = h xs
    go false (is_bad n) = refuses file (fault_numbered n)

pub write_settles : (file : ℕ) {F : Format} → Faults F → (ws : List ℕ) {k : List ℕ → Outcome} → ((s : List ℕ) → Settles (k s)) → Settles (judged (write_file file F ws) k)
unfolding write_file judged
write_settles file {F} f ws {k} h = go (encode_results f ws)
  where
    go : {r : Result ℕ} → Results r → Settles (judged (in_file file r) k)
    go (is_ok {xs}) = h xs
    go (is_bad n) = refuses file (fault_numbered n)

-- a writer never gives 1 of the content that it is handed
pub write_short : (file : ℕ) {F : Format} → Faults F → (ws : List ℕ) (d : ℕ) → write_file file F ws ≡ rejected 1 d → ⊥
unfolding write_file
write_short file {F} f ws d = go (encode_results f ws)
  where
    go : {r : Result ℕ} → Results r → in_file file r ≡ rejected 1 d → ⊥
    go is_ok e = let z : ◌≡◌ {A = ℕ} 0 1 = cc in omega arith
    go (is_bad {n} x) e = let z : n ≡ 1 = cc in let l = x.least in omega arith

-- what falls to a file has a number up to 9
pub read_few : (most file : ℕ) {F : Format} → Faults F → (s : List ℕ) {n d : ℕ} → read_file most file F s ≡ rejected n d → n ≤ 9
unfolding read_file
read_few most file {F} f s {n} {d} = go (ltb most (length s)) (decode_results f s)
  where
    go : (b : Bool) {r : Result ℕ} → Results r → pick b (rejected 1 file) (in_file file r) ≡ rejected n d → n ≤ 9
    go true q e = let z : 1 ≡ n = cc in omega arith
    go false is_ok e = absurd (let z : ◌≡◌ {A = ℕ} 0 1 = cc in omega arith)
    go false (is_bad {n = m} x) e = let z : m ≡ n = cc in let l = x.most in omega arith

pub catalogue_few : (c : List ℕ) {n d : ℕ} → read_catalogue c ≡ rejected n d → n ≤ 9
unfolding read_catalogue
catalogue_few [] e = absurd (let z : ◌≡◌ {A = ℕ} 0 1 = cc in omega arith)
catalogue_few (b ∷ c) e = read_few 897 2 catalogue_faults (b ∷ c) e
