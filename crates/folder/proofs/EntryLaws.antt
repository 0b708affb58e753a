-- Laws of entries and their bytes: how many there are, which stands where, a list written one by one, and that each way undoes the other.
use Rattle.std.proofs.Common.{◌≡◌, ℕ, zero, suc, ◌+◌, ◌*◌, ◌/◌, ◌%◌, ◌<◌, ◌≤◌, List, [], ◌∷◌, ◌++◌, length, get_or, take, set, sym, refl, ◌∙◌, ap₂, add-one, arith, length-set, take_all, take-suc, take-suc-set}
use Rattle.packed.specs.Plain.{Below}
use Rattle.folder.specs.Entries.{entry_bytes, entries_of, byte_of}

-- ---- how many there are, and which stands where

pub length-entry_bytes : (es : List ℕ) → length (entry_bytes es) ≡ 2 * length es
unfolding entry_bytes
length-entry_bytes [] = refl
length-entry_bytes (x ∷ es) = omega (arith, length-entry_bytes es)

pub length-entries_of : (bs : List ℕ) → length (entries_of bs) ≡ length bs / 2
unfolding entries_of
length-entries_of [] = refl
length-entries_of (b ∷ []) = refl
length-entries_of (high ∷ low ∷ bs) = omega (arith, length-entries_of bs)

pub byte_at : (es : List ℕ) (at : ℕ) → at < 2 * length es → get_or (entry_bytes es) at 0 ≡ byte_of (get_or es (at / 2) 0) (at % 2)
unfolding entry_bytes byte_of
byte_at [] at h = absurd (omega arith)
byte_at (x ∷ es) zero h = refl
byte_at (x ∷ es) (suc zero) h = refl
byte_at (x ∷ es) (suc (suc at)) h =
    let e : suc (suc at) / 2 ≡ suc (at / 2) = omega arith in
    let f : suc (suc at) % 2 ≡ at % 2 = omega arith in
    rw (e, f) (byte_at es at (omega arith))

pub entry_at : (bs : List ℕ) (i : ℕ) → 2 * i + 1 < length bs → get_or (entries_of bs) i 0 ≡ 256 * get_or bs (2 * i) 0 + get_or bs (2 * i + 1) 0
unfolding entries_of
entry_at [] i h = absurd (omega arith)
entry_at (b ∷ []) i h = absurd (omega arith)
entry_at (high ∷ low ∷ bs) zero h = refl
entry_at (high ∷ low ∷ bs) (suc i) h =
    let e : 2 * suc i ≡ suc (suc (2 * i)) = omega arith in
    let f : suc (suc (2 * i)) + 1 ≡ suc (suc (2 * i + 1)) = omega arith in
    rw (e, f) (entry_at bs i (omega arith))

-- ---- the bytes of one entry

pub first_byte : (x second : ℕ) → second ≡ 0 → x / 256 ≡ byte_of x second
unfolding byte_of
first_byte x zero e = refl
first_byte x (suc n) e = absurd (omega arith)

pub second_byte : (x second : ℕ) → (second ≡ 0 → ⊥) → x % 256 ≡ byte_of x second
unfolding byte_of
second_byte x zero n = absurd (n refl)
second_byte x (suc k) n = refl

-- ---- a list written one by one

-- the first i of n places are those of the whole
pub record Written (n : ℕ) (whole l : List ℕ) (i : ℕ) : Type 0 where
  pub long : length l ≡ n
  pub is : take i l ≡ take i whole

pub written_none : (n : ℕ) (whole l : List ℕ) → length l ≡ n → Written n whole l 0
written_none n whole l h = record { long = h; is = refl }

written_more : (n : ℕ) (whole l : List ℕ) (i v : ℕ) → length whole ≡ n → Written n whole l i → i < n → v ≡ get_or whole i 0 → Written n whole (set l i v) (i + 1)
written_more n whole l i v h w k e =
    record {
      long = length-set l i v ∙ w.long;
      is = rw (add-one i)
          (take-suc-set l i v (omega arith) ∙ ap₂ (λ (a : List ℕ) (x : ℕ). a ++ (x ∷ [])) w.is e ∙ sym (take-suc whole i 0 (omega arith)));
    }

written_end : (n : ℕ) (whole l : List ℕ) (i : ℕ) → length whole ≡ n → Written n whole l i → n ≤ i → l ≡ whole
written_end n whole l i h w k = sym (take_all i l (omega arith)) ∙ w.is ∙ take_all i whole (omega arith)

pub pack_more : (n : ℕ) (es l : List ℕ) (at v : ℕ) → 2 * length es ≡ n → Written n (entry_bytes es) l at → at < n → v ≡ byte_of (get_or es (at / 2) 0) (at % 2)
    → Written n (entry_bytes es) (set l at v) (at + 1)
pack_more n es l at v h w k e = written_more n (entry_bytes es) l at v (length-entry_bytes es ∙ h) w k (e ∙ sym (byte_at es at (omega arith)))

pub pack_end : (n : ℕ) (es l : List ℕ) (at : ℕ) → 2 * length es ≡ n → Written n (entry_bytes es) l at → n ≤ at → l ≡ entry_bytes es
pack_end n es l at h w k = written_end n (entry_bytes es) l at (length-entry_bytes es ∙ h) w k

pub unpack_more : (n : ℕ) (bs l : List ℕ) (i v : ℕ) → length bs ≡ 2 * n → Written n (entries_of bs) l i → i < n → v ≡ 256 * get_or bs (2 * i) 0 + get_or bs (2 * i + 1) 0
    → Written n (entries_of bs) (set l i v) (i + 1)
unpack_more n bs l i v h w k e =
    written_more n (entries_of bs) l i v (omega (arith, length-entries_of bs)) w k (e ∙ sym (entry_at bs i (omega arith)))

pub unpack_end : (n : ℕ) (bs l : List ℕ) (i : ℕ) → length bs ≡ 2 * n → Written n (entries_of bs) l i → n ≤ i → l ≡ entries_of bs
unpack_end n bs l i h w k = written_end n (entries_of bs) l i (omega (arith, length-entries_of bs)) w k

-- ---- each way undoes the other

-- what is packed is unpacked as the same entries
pub unpacks_packed : (es : List ℕ) → entries_of (entry_bytes es) ≡ es
unfolding entries_of entry_bytes
unpacks_packed [] = refl
unpacks_packed (x ∷ es) = ap₂ (λ (y : ℕ) (l : List ℕ). y ∷ l) (let e : 256 * (x / 256) + x % 256 ≡ x = omega arith in e) (unpacks_packed es)

-- what is unpacked is packed as the same bytes
pub packs_unpacked : (bs : List ℕ) → length bs % 2 ≡ 0 → Below 256 bs → entry_bytes (entries_of bs) ≡ bs
unfolding entries_of entry_bytes
packs_unpacked [] h small = refl
packs_unpacked (b ∷ []) h small = absurd (omega arith)
packs_unpacked (high ∷ low ∷ bs) h small =
    let z : low < 256 = small 1 (omega arith) in
    let e : (256 * high + low) / 256 ≡ high = omega arith in
    let f : (256 * high + low) % 256 ≡ low = omega arith in
    rw (e, f, packs_unpacked bs (omega arith) (λ i k. small (suc (suc i)) (omega arith)))
