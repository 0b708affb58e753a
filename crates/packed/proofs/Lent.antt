-- A part that is written into the rest of the lent bytes, from a byte on: none are left where that byte lies beyond the end.
use Prim.Native.Nat.{ℕ, ◌+◌, ◌-◌, ◌*◌, ◌^◌, ◌<◌, ◌≤◌, min}
use mathlib.Core.Path.{◌≡◌, refl, ap, sym, ◌∙◌}
use mathlib.Core.List.{List, [], ◌∷◌, ◌++◌, append-nil}
use mathlib.Core.Bool.{Bool, true, false, ◌&&◌}
use lib.ListN.{length, take, drop, replicate, length-drop, drop_of_length-le}
use lib.Seq.{sets, take_all, length-sets}
use lib.Dec.{leb, ltb}
use native.Mathlib.Omega.{arith}
use native.Mathlib.Nat.{add_assoc, add-zero}
use borrow.Author.Tests.{leb-true, leb-false}
use borrow.Rule.Slice.PartMut.{put_mid, post_of}
use Rattle.packed.specs.Bits.{bits, bits_of, gap}
use Rattle.packed.specs.Format.{Format, done, ask, test, pad, Got, fault, pick, push, within, lay}
use Rattle.packed.specs.Writing.{Writing, Rejects}
use Rattle.packed.specs.declared.reply.Refusal.{Refusal}
use Rattle.packed.proofs.BitsLaws.{length-bits, bits-append, take-bits, drop_bits}
use Rattle.packed.proofs.Sets.{sets_beyond, sets_drop}
use Rattle.packed.proofs.RoundTrip.{lay_done}

gap_shift : (k at : ℕ) → gap (8 * k + at) ≡ gap at
unfolding gap
gap_shift k at = omega arith

-- only the place within its byte counts
pub lay_shift : (f : Format) (k at : ℕ) (ws : List ℕ) → lay f (8 * k + at) ws ≡ lay f at ws
unfolding lay
lay_shift done k at ws = refl
lay_shift (ask w low bound n f) k at [] = refl
lay_shift (ask w low bound n f) k at (v ∷ ws) =
    let e : lay (f v) (8 * k + at + w) ws ≡ lay (f v) (at + w) ws = ap (λ (j : ℕ). lay (f v) j ws) (add_assoc (8 * k) at w) ∙ lay_shift (f v) k (at + w) ws in
    ap (λ (g : Got Bool ℕ). pick (within low bound v && ltb v (2 ^ w)) (push (bits_of w v) g) (fault n)) e
lay_shift (test b n f) k at ws = ap (λ (g : Got Bool ℕ). pick b g (fault n)) (lay_shift f k at ws)
lay_shift (pad f) k at ws =
    ap (λ (j : ℕ). push (replicate j false) (lay f (8 * k + at + j) ws)) (gap_shift k at)
    ∙ ap (λ (j : ℕ). push (replicate (gap at) false) (lay f j ws)) (add_assoc (8 * k) at (gap at))
    ∙ ap (push (replicate (gap at) false)) (lay_shift f k (at + gap at) ws)

lay_byte : (f : Format) (k : ℕ) (ws : List ℕ) → lay f (8 * k) ws ≡ lay f 0 ws
lay_byte f k ws = ap (λ (j : ℕ). lay f j ws) (sym (add-zero (8 * k))) ∙ lay_shift f k 0 ws

-- the bytes from a byte on, as a call is lent them, and the whole once they are back
rest_is : (b : List ℕ) (byte : ℕ) → take (length b - byte) (drop byte b) ≡ drop byte b
rest_is b byte = take_all (length b - byte) (drop byte b) (omega (arith, length-drop byte b))

pub length_rest : (b : List ℕ) (byte : ℕ) → length (take (length b - byte) (drop byte b)) ≡ length b - byte
length_rest b byte = ap length (rest_is b byte) ∙ length-drop byte b

back_is : (b b' : List ℕ) (byte : ℕ) → put_mid byte (length b - byte) b b' ≡ take byte b ++ b'
back_is b b' byte =
    let h : length (drop byte b) ≤ length b - byte = omega (arith, length-drop byte b) in
    let e : post_of byte (length b - byte) b ≡ [] = drop_of_length-le (drop byte b) h in
    ap (λ (l : List ℕ). take byte b ++ l) (ap (λ (l : List ℕ). b' ++ l) e ∙ append-nil b')

nothing_left : (b : List ℕ) → length b ≤ 0 → b ≡ []
nothing_left [] h = refl
nothing_left (x ∷ b) h = absurd (omega arith)

module _ {f : Format} {ws : List ℕ} {i : ℕ} (b : List ℕ) (byte : ℕ) {i' : ℕ} {b' : List ℕ} {at : ℕ} where
  -- what is written at the front of the rest is written from that byte on, where the whole has the bits for it
  placed : (from : ℕ) (r : Writing f ws i (take (length b - from) (drop from b)) 0 done i' b' at)
      → bits (take from b ++ b') ≡ sets (bits b) (8 * byte) r.laid
      → Writing f ws i b (8 * byte) done i' (put_mid from (length b - from) b b') (8 * byte + at)
  placed from r e =
      record {
        laid = r.laid;
        comes = lay_byte f byte (drop i ws) ∙ r.comes ∙ ap (push r.laid) (lay_done at (drop i' ws) ∙ sym (lay_done (8 * byte + at) (drop i' ws)));
        holds = ap bits (back_is b b' from) ∙ e;
        next = omega (arith, r.next);
        inside = r.inside;
      }

  pub lent_rest : byte ≤ length b → Writing f ws i (take (length b - byte) (drop byte b)) 0 done i' b' at
      → Writing f ws i b (8 * byte) done i' (put_mid byte (length b - byte) b b') (8 * byte + at)
  lent_rest h r =
      let l : List Bool = r.laid in
      let d : bits b' ≡ sets (drop (8 * byte) (bits b)) 0 l =
      r.holds ∙ ap (λ (t : List ℕ). sets (bits t) 0 l) (rest_is b byte) ∙ ap (λ (t : List Bool). sets t 0 l) (sym (drop_bits b byte)) in
      placed byte r
      (bits-append (take byte b) b'
      ∙ ap (λ (t : List Bool). t ++ bits b') (sym (take-bits b byte))
      ∙ ap (λ (t : List Bool). take (8 * byte) (bits b) ++ t) d
      ∙ sym (sets_drop (bits b) (8 * byte) 0 l (omega (arith, length-bits b)))
      ∙ ap (λ (k : ℕ). sets (bits b) k l) (add-zero (8 * byte)))

  -- beyond the end nothing is written
  pub lent_beyond : length b ≤ byte → Writing f ws i (take (length b - length b) (drop (length b) b)) 0 done i' b' at
      → Writing f ws i b (8 * byte) done i' (put_mid (length b) (length b - length b) b b') (8 * byte + at)
  lent_beyond h r =
      let rest : List ℕ = take (length b - length b) (drop (length b) b) in
      let n : length (bits b') ≡ length (bits rest) = ap length r.holds ∙ length-sets (bits rest) 0 r.laid in
      let e : b' ≡ [] = nothing_left b' (omega (arith, length-bits b', length-bits rest, length_rest b (length b))) in
      placed (length b) r
      (ap bits (ap (λ (t : List ℕ). take (length b) b ++ t) e ∙ append-nil (take (length b) b) ∙ take_all (length b) b (omega arith))
      ∙ sym (sets_beyond (bits b) (8 * byte) r.laid (omega (arith, length-bits b))))

  -- in either case
  pub lent_from : (from : ℕ) → from ≡ min byte (length b) → Writing f ws i (take (length b - from) (drop from b)) 0 done i' b' at
      → Writing f ws i b (8 * byte) done i' (put_mid from (length b - from) b b') (8 * byte + at)
  lent_from from e r = go (leb byte (length b)) refl
    where
      go : (t : Bool) → leb byte (length b) ≡ t → Writing f ws i b (8 * byte) done i' (put_mid from (length b - from) b b') (8 * byte + at)
      go true q =
          let h : byte ≤ length b = leb-true byte (length b) q in
          let d : from ≡ byte = omega arith in
          rw d (lent_rest h (rw d at r))
      go false q =
          let h : length b < byte = leb-false byte (length b) q in
          let d : from ≡ length b = omega arith in
          rw d (lent_beyond (omega arith) (rw d at r))

pub lent_rejected : {f : Format} {ws : List ℕ} {i file : ℕ} {x : Refusal} (byte : ℕ) → Rejects f ws i 0 file x → Rejects f ws i (8 * byte) file x
lent_rejected {f} {ws} {i} byte p = record { number = lay_byte f byte (drop i ws) ∙ p.number; detail = p.detail }
