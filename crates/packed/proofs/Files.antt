-- Whole files: from a reading, or a writing, to its end to the verdict.
use Prim.Native.Nat.{ℕ, zero, suc, ◌+◌, ◌-◌, ◌*◌, ◌/◌, ◌<◌, ◌≤◌}
use mathlib.Core.Path.{◌≡◌, refl, ap, sym, ◌∙◌}
use Rattle.std.specs.Prelude.{Ok, Err, IfOk}
use mathlib.Core.List.{List, [], ◌∷◌, append-nil}
use mathlib.Core.Bool.{Bool, true}
use lib.ListN.{length, take, drop, set, length-drop}
use lib.Seq.{sets}
use lib.Dec.{lit<}
use native.Mathlib.Omega.{arith}
use Rattle.packed.specs.Bits.{bits, bits_of, zeros, gap}
use Rattle.packed.specs.Format.{Format, Result, done, pad, whole, Got, got, push, ok, bad, ended, bytes_of, in_bytes, decode, encode}
use Rattle.packed.specs.Refusals.{number_of, detail_of}
use Rattle.packed.specs.Reading.{from, Reading, Refuses, Content, Judges, JudgesUpTo}
use Rattle.packed.specs.Parts.{Part}
use Rattle.packed.specs.Writing.{Writing, Rejects}
use Rattle.packed.specs.declared.reply.Refusal.{Refusal}
use Rattle.packed.proofs.BitsLaws.{length_bits_of, length-bits, num-take_lt, bits_injective, zeros_replicate, bits_of_zero}
use Rattle.packed.proofs.Sets.{sets_append}
use Rattle.packed.proofs.BitFields.{put_whole}
use Rattle.packed.proofs.RoundTrip.{Bytes, bits_bytes_of, whole_is, scan_done, lay_done}
use Rattle.packed.proofs.ReadingLaws.{starts, same_at, left_is, calls, calls_refused, pads}
use Rattle.packed.proofs.WritingLaws.{begins, same_to, left_to, parts, parts_rejected, fills}

-- what is left at the end
pub ended_more : {A B : Type 0} (xs : List A) (t : List B) → 0 < length t → ended (got xs t) ≡ bad 9
ended_more xs [] h = absurd (omega arith)
ended_more xs (y ∷ t) h = refl

ended_none : {A B : Type 0} (xs : List A) (t : List B) → length t ≤ 0 → ended (got xs t) ≡ ok xs
ended_none xs [] h = refl
ended_none xs (y ∷ t) h = absurd (omega arith)

gap_whole : (byte : ℕ) → gap (8 * byte) ≡ 0
unfolding gap
gap_whole byte = omega arith

-- ---- reading

left_over : (s : List ℕ) (byte : ℕ) → length (drop (8 * byte) (bits s)) ≡ 8 * length s - 8 * byte
left_over s byte = length-drop (8 * byte) (bits s) ∙ ap (λ (n : ℕ). n - 8 * byte) (length-bits s)

module _ (F : Format) {s w₀ : List ℕ} (byte : ℕ) {w : List ℕ} {i : ℕ} where
  decoded : (r : Reading (whole F) s 0 w₀ 0 done (8 * byte) w i) → decode F s ≡ ended (got r.read (drop (8 * byte) (bits s)))
  unfolding decode from
  decoded r =
      ap ended (
      r.comes
      ∙ ap (push r.read) (scan_done (drop (8 * byte) (bits s)))
      ∙ ap (λ (l : List ℕ). got l (drop (8 * byte) (bits s))) (append-nil r.read)
      )

  -- bytes follow
  pub judged_whole_tail : Reading (whole F) s 0 w₀ 0 done (8 * byte) w i → byte < length s → decode F s ≡ bad 9
  judged_whole_tail r h = decoded r ∙ ended_more r.read (drop (8 * byte) (bits s)) (omega (arith, left_over s byte))

  pub judged_whole_ok : Reading (whole F) s 0 w₀ 0 done (8 * byte) w i → length s ≤ byte → Content (decode F s) i w₀ w
  judged_whole_ok r h =
      record {
        fields = r.read;
        is = decoded r ∙ ended_none r.read (drop (8 * byte) (bits s)) (omega (arith, left_over s byte));
        number = r.next ∙ omega arith;
        front = r.holds;
      }

module _ {F : Format} {s w₀ : List ℕ} (byte : ℕ) {w : List ℕ} {i : ℕ} where
  -- a format that ends on a byte has no bits to fill up
  to_whole : Reading F s 0 w₀ 0 done (8 * byte) w i → Reading (whole F) s 0 w₀ 0 done (8 * byte) w i
  to_whole r =
      let z : zeros (take (gap (8 * byte)) (drop (8 * byte) (bits s))) ≡ true = rw (gap_whole byte) (zeros_replicate 0) in
      same_at (omega (arith, gap_whole byte)) refl
      (pads z (calls F (pad done) (left_is (whole_is F) (starts {F = whole F} {s = s} {at₀ = 0} {w₀ = w₀} {i₀ = 0} (omega arith))) r))

pub judged_whole_bad : (F : Format) {s : List ℕ} {file : ℕ} {x : Refusal} → Refuses (whole F) s 0 file x → (decode F s ≡ bad (number_of x)) × (detail_of x ≡ file)
unfolding decode from
judged_whole_bad F q = (ap ended q.number, q.detail)

pub judged_bad : {F : Format} {s : List ℕ} {file : ℕ} {x : Refusal} → Refuses F s 0 file x → (decode F s ≡ bad (number_of x)) × (detail_of x ≡ file)
judged_bad {F} {s} q =
    judged_whole_bad F (calls_refused F (pad done) (left_is (whole_is F) (starts {F = whole F} {s = s} {at₀ = 0} {w₀ = []} {i₀ = 0} (omega arith))) q)

-- how many fields were judged, where the reader says how many at most
pub up_to : (r : Result ℕ) (file : ℕ) (p : Part) (w w' : List ℕ) {i k : ℕ} → Judges r file p w w' → IfOk p (λ q. q.1 ≡ i) → i ≤ k → JudgesUpTo k r file p w w'
up_to r file (Ok (at, n)) w w' j e h = (j, omega (arith, e))
up_to r file (Err x) w w' j e h = j

-- ---- bytes

pub bits_sets : (l : List ℕ) (i : ℕ) (vs : List ℕ) → bits (sets l i vs) ≡ sets (bits l) (8 * i) (bits vs)
unfolding bits
bits_sets l i [] = refl
bits_sets l i (v ∷ vs) =
    let e : 8 * suc i ≡ 8 * i + length (bits_of 8 v) = omega (arith, length_bits_of 8 v) in
    bits_sets (set l i v) (suc i) vs
    ∙ ap (λ (t : List Bool). sets t (8 * suc i) (bits vs)) (put_whole l i v)
    ∙ ap (λ (k : ℕ). sets (sets (bits l) (8 * i) (bits_of 8 v)) k (bits vs)) e
    ∙ sets_append (bits l) (8 * i) (bits_of 8 v) (bits vs)

bytes_set : (l : List ℕ) (i v : ℕ) → Bytes l → v < 256 → Bytes (set l i v)
bytes_set [] i v h g j = h j
bytes_set (x ∷ l) zero v h g zero = g
bytes_set (x ∷ l) zero v h g (suc j) = h (suc j)
bytes_set (x ∷ l) (suc i) v h g zero = h 0
bytes_set (x ∷ l) (suc i) v h g (suc j) = bytes_set l i v (λ k. h (suc k)) g j

pub bytes_sets : (l : List ℕ) (i : ℕ) (vs : List ℕ) → Bytes l → Bytes vs → Bytes (sets l i vs)
bytes_sets l i [] h g = h
bytes_sets l i (v ∷ vs) h g = bytes_sets (set l i v) (suc i) vs (bytes_set l i v h (g 0)) (λ j. g (suc j))

pub bytes_bytes_of : (k : ℕ) (bs : List Bool) → Bytes (bytes_of k bs)
unfolding bytes_of
bytes_bytes_of zero bs j = lit< tt
bytes_bytes_of (suc k) bs zero = num-take_lt 8 bs
bytes_bytes_of (suc k) bs (suc j) = bytes_bytes_of k (drop 8 bs) j

pub length_bytes_of : (k : ℕ) (bs : List Bool) → length (bytes_of k bs) ≡ k
unfolding bytes_of
length_bytes_of zero bs = refl
length_bytes_of (suc k) bs = ap suc (length_bytes_of k (drop 8 bs))

-- ---- writing

module _ (F : Format) {ws b₀ : List ℕ} (byte : ℕ) {i : ℕ} {b : List ℕ} where
  encoded : (r : Writing (whole F) ws 0 b₀ 0 done i b (8 * byte)) → encode F ws ≡ in_bytes (ended (got r.laid (drop i ws)))
  unfolding encode
  encoded r =
      ap (λ (g : Got Bool ℕ). in_bytes (ended g)) (
      r.comes
      ∙ ap (push r.laid) (lay_done (8 * byte) (drop i ws))
      ∙ ap (λ (l : List Bool). got l (drop i ws)) (append-nil r.laid)
      )

  -- fields are left over
  pub written_whole_tail : Writing (whole F) ws 0 b₀ 0 done i b (8 * byte) → i < length ws → encode F ws ≡ bad 9
  written_whole_tail r h = encoded r ∙ ap in_bytes (ended_more r.laid (drop i ws) (omega (arith, length-drop i ws)))

  pub written_whole_ok : Writing (whole F) ws 0 b₀ 0 done i b (8 * byte) → length ws ≤ i → Bytes b₀ → Bytes b → Content (encode F ws) byte b₀ b
  written_whole_ok r h y₀ y =
      let bytes : List ℕ = bytes_of byte r.laid in
      let n : length r.laid ≡ 8 * byte = omega (arith, r.next) in
      let e : length r.laid / 8 ≡ byte = omega arith in
      let l : bits bytes ≡ r.laid = bits_bytes_of byte r.laid n in
      record {
        fields = bytes;
        is =
            encoded r
            ∙ ap in_bytes (ended_none r.laid (drop i ws) (omega (arith, length-drop i ws)))
            ∙ ap (λ (k : ℕ). ok (bytes_of k r.laid)) e;
        number = sym (length_bytes_of byte r.laid);
        front =
            bits_injective b (sets b₀ 0 bytes) y (bytes_sets b₀ 0 bytes y₀ (bytes_bytes_of byte r.laid))
            (r.holds ∙ ap (sets (bits b₀) 0) (sym l) ∙ sym (bits_sets b₀ 0 bytes));
      }

module _ {F : Format} {ws b₀ : List ℕ} (byte : ℕ) {i : ℕ} {b : List ℕ} where
  -- a format that ends on a byte has no bits to fill up
  to_whole_written : Writing F ws 0 b₀ 0 done i b (8 * byte) → Writing (whole F) ws 0 b₀ 0 done i b (8 * byte)
  to_whole_written r =
      let z : bits b ≡ sets (bits b) (8 * byte) (bits_of (gap (8 * byte)) 0) =
      ap (sets (bits b) (8 * byte)) (sym (bits_of_zero 0)) ∙ ap (λ (k : ℕ). sets (bits b) (8 * byte) (bits_of k 0)) (sym (gap_whole byte)) in
      same_to refl (omega (arith, gap_whole byte))
      (fills z (parts F (pad done) (left_to (whole_is F) (begins {F = whole F} {ws = ws} {i₀ = 0} {b₀ = b₀} {at₀ = 0} (omega arith))) r))

  pub written_tail : Writing F ws 0 b₀ 0 done i b (8 * byte) → i < length ws → encode F ws ≡ bad 9
  written_tail r h = written_whole_tail F byte (to_whole_written r) h

  pub written_ok : Writing F ws 0 b₀ 0 done i b (8 * byte) → length ws ≤ i → Bytes b₀ → Bytes b → Content (encode F ws) byte b₀ b
  written_ok r h y₀ y = written_whole_ok F byte (to_whole_written r) h y₀ y

pub written_whole_bad : (F : Format) {ws : List ℕ} {file : ℕ} {x : Refusal} → Rejects (whole F) ws 0 0 file x → (encode F ws ≡ bad (number_of x)) × (detail_of x ≡ file)
unfolding encode
written_whole_bad F q = (ap (λ (g : Got Bool ℕ). in_bytes (ended g)) q.number, q.detail)

pub written_bad : {F : Format} {ws : List ℕ} {file : ℕ} {x : Refusal} → Rejects F ws 0 0 file x → (encode F ws ≡ bad (number_of x)) × (detail_of x ≡ file)
written_bad {F} {ws} q =
    written_whole_bad F (parts_rejected F (pad done) (left_to (whole_is F) (begins {F = whole F} {ws = ws} {i₀ = 0} {b₀ = []} {at₀ = 0} (omega arith))) q)
