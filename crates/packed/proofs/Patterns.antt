-- The formats of patterns and catalogues, opened: their first fields and their last tests.
use Prim.Native.Nat.{ℕ, ◌+◌, ◌*◌, ◌≤◌}
use mathlib.Core.Path.{◌≡◌, refl}
use mathlib.Core.List.{List, []}
use lib.ListN.{length}
use native.Mathlib.Omega.{arith}
use Rattle.packed.specs.Format.{Format, done, ask, test, pad, then, times, whole}
use Rattle.packed.specs.Formats.{count_field, all_ends, label, edges, joined, pattern, catalogue}
use Rattle.packed.specs.Reading.{Reading, Value, ReadsUpTo, ReadsBytesUpTo}
use Rattle.packed.specs.Writing.{Writing, Put}
use Rattle.packed.proofs.RoundTrip.{whole_is}
use Rattle.packed.proofs.ReadingLaws.{starts, left_is, same_at, reads, refused, goes_on}
use Rattle.packed.proofs.WritingLaws.{begins, left_to, same_to, writes}
use Rattle.packed.specs.Parts.{Part}
use Rattle.std.specs.Prelude.{Ok, Err}

pub label_is : label ≡ ask 5 0 32 3 (λ v. done)
unfolding label
label_is = refl

pub joined_is : (nodes : ℕ) (es : List ℕ) → joined nodes es ≡ test (all_ends nodes es) 7 done
unfolding joined
joined_is nodes es = refl

pattern_is : pattern ≡ count_field 5 1 16 (λ nodes. count_field 6 1 32 (λ number. then (times nodes label) (edges 4 3 nodes (joined nodes) number [])))
unfolding pattern
pattern_is = refl

catalogue_is : catalogue ≡ count_field 5 0 16 (λ number. pad (times number (whole pattern)))
unfolding catalogue
catalogue_is = refl

-- ---- reading

module _ (s : List ℕ) (at : ℕ) (w : List ℕ) (i : ℕ) (h : at ≤ 8 * length s) where
  pub pattern_starts : Reading pattern s at w i (count_field 5 1 16 (λ nodes. count_field 6 1 32 (λ number. then (times nodes label) (edges 4 3 nodes (joined nodes) number [])))) at w i
  pattern_starts = left_is pattern_is (starts h)

  pub whole_starts : (F : Format) → Reading (whole F) s at w i (then F (pad done)) at w i
  whole_starts F = left_is (whole_is F) (starts h)

  pub catalogue_starts : Reading catalogue s at w i (count_field 5 0 16 (λ number. pad (times number (whole pattern)))) at w i
  catalogue_starts = left_is catalogue_is (starts h)

  -- the numbers of nodes and edges
  pub pattern_counts : {nodes number : ℕ} {w' w'' : List ℕ} → Value 5 1 17 s at w i nodes w' → Value 6 1 33 s (at + 5) w' (i + 1) number w''
      → Reading pattern s at w i (then (times nodes label) (edges 4 3 nodes (joined nodes) number [])) (at + 11) w'' (i + 2)
  pattern_counts p q = same_at (omega arith) (omega arith) (reads (reads pattern_starts p) q)

-- the last part of F was read, or refused, by its own reader
module _ {F : Format} {s : List ℕ} {at₀ : ℕ} {w₀ : List ℕ} {i₀ : ℕ} where
  pub tails_up_to : {f : Format} {at : ℕ} {w : List ℕ} {i : ℕ} (j k file : ℕ) (p : Part) (w' : List ℕ)
      → Reading F s at₀ w₀ i₀ f at w i → ReadsUpTo j f s at w i file p w' → i + j ≤ i₀ + k → ReadsUpTo k F s at₀ w₀ i₀ file p w'
  tails_up_to j k file (Ok (at, i)) w' r q h = (goes_on r q.0, omega arith)
  tails_up_to j k file (Err x) w' r q h = refused r q

  pub tails_bytes_up_to : {f : Format} (byte₀ byte : ℕ) {w : List ℕ} {i : ℕ} (j k file : ℕ) (p : Part) (w' : List ℕ) → at₀ ≡ 8 * byte₀
      → Reading F s at₀ w₀ i₀ f (8 * byte) w i → ReadsBytesUpTo j f s byte w i file p w' → i + j ≤ i₀ + k
      → ReadsBytesUpTo k F s byte₀ w₀ i₀ file p w'
  tails_bytes_up_to byte₀ byte j k file (Ok (at, i)) w' e r q h = rw (← e) (goes_on r q.0, omega arith)
  tails_bytes_up_to byte₀ byte j k file (Err x) w' e r q h = rw (← e) (refused r q)

-- ---- writing

module _ (ws : List ℕ) (i : ℕ) (b : List ℕ) (at : ℕ) (h : i ≤ length ws) where
  pub pattern_begins : Writing pattern ws i b at (count_field 5 1 16 (λ nodes. count_field 6 1 32 (λ number. then (times nodes label) (edges 4 3 nodes (joined nodes) number [])))) i b at
  pattern_begins = left_to pattern_is (begins h)

  pub whole_begins : (F : Format) → Writing (whole F) ws i b at (then F (pad done)) i b at
  whole_begins F = left_to (whole_is F) (begins h)

  pub catalogue_begins : Writing catalogue ws i b at (count_field 5 0 16 (λ number. pad (times number (whole pattern)))) i b at
  catalogue_begins = left_to catalogue_is (begins h)

  pub pattern_counts_put : {nodes number : ℕ} {b' b'' : List ℕ} → Put 5 1 17 ws i b at nodes b' → Put 6 1 33 ws (i + 1) b' (at + 5) number b''
      → Writing pattern ws i b at (then (times nodes label) (edges 4 3 nodes (joined nodes) number [])) (i + 2) b'' (at + 11)
  pattern_counts_put p q = same_to (omega arith) (omega arith) (writes (writes pattern_begins p) q)
