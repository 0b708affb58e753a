-- The end of a file: padding, and nothing after.
use Prim.Native.Nat.{ℕ, ◌+◌, ◌-◌, ◌*◌, ◌/◌, ◌%◌, ◌<◌, ◌≤◌}
use mathlib.Core.Path.{◌≡◌, refl, sym}
use mathlib.Core.List.{List}
use mathlib.Core.Bool.{Bool, true, false}
use lib.ListN.{length, take, drop}
use native.Mathlib.Omega.{arith}
use lib.Seq.{sets}
use Rattle.packed.specs.Bits.{bits, bits_of, zeros, gap}
use Rattle.packed.specs.Format.{Format, done, pad, whole, decode, bad}
use Rattle.packed.specs.Reading.{Reading, Content}
use Rattle.packed.specs.Refusals.{file_number}
use Rattle.packed.specs.declared.reply.File.{File}
use Rattle.packed.specs.declared.reply.Refusal.TheVariants.{Trailing}
use Rattle.packed.proofs.RoundTrip.{whole_is}
use Rattle.packed.proofs.ReadingLaws.{starts, left_is, same_at, calls, pads, ends_dirty}
use Rattle.packed.proofs.Files.{judged_whole_tail, judged_whole_ok, judged_whole_bad}

-- the next whole byte
pub next_byte : (at : ℕ) → 8 * ((at + 7) / 8) ≡ at + gap at
unfolding gap
next_byte at = omega arith

module _ (F : Format) {s w : List ℕ} {at : ℕ} {w' : List ℕ} {i : ℕ} (r : Reading F s 0 w 0 done at w' i) where
  before_padding : Reading (whole F) s 0 w 0 (pad done) at w' i
  before_padding = calls F (pad done) (left_is (whole_is F) (starts {F = whole F} {s = s} {at₀ = 0} {w₀ = w} {i₀ = 0} (omega arith))) r

  after_padding : zeros (take (gap at) (drop at (bits s))) ≡ true → Reading (whole F) s 0 w 0 done (8 * ((at + 7) / 8)) w' i
  after_padding h = same_at (sym (next_byte at)) refl (pads h before_padding)

  pub closes_ok : zeros (take (gap at) (drop at (bits s))) ≡ true → length s ≤ (at + 7) / 8 → Content (decode F s) i w w'
  closes_ok h g = judged_whole_ok F ((at + 7) / 8) (after_padding h) g

  pub closes_tail : (file : File) → zeros (take (gap at) (drop at (bits s))) ≡ true → (at + 7) / 8 < length s → (decode F s ≡ bad 9) × (file_number file ≡ file_number file)
  closes_tail file h g = (judged_whole_tail F ((at + 7) / 8) (after_padding h) g, refl)

  pub closes_dirty : (file : File) → zeros (take (gap at) (drop at (bits s))) ≡ false → (decode F s ≡ bad 9) × (file_number file ≡ file_number file)
  closes_dirty file h = judged_whole_bad F (ends_dirty (Trailing file) h refl before_padding)

-- the padding that a writer puts
pub gap_bits : (b : List Bool) (at : ℕ) → sets b at (bits_of ((8 - at % 8) % 8) 0) ≡ sets b at (bits_of (gap at) 0)
unfolding gap
gap_bits b at = refl
