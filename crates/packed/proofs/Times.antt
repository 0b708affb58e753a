-- One of so many fields, or parts, of a kind: the moves of a reader and of a writer.
use Prim.Native.Nat.{ℕ, suc, ◌+◌, ◌-◌, ◌<◌}
use mathlib.Core.Path.{◌≡◌, refl, ap, ◌∙◌}
use mathlib.Core.List.{List}
use native.Mathlib.Omega.{arith}
use Rattle.packed.specs.Format.{Format, done, ask, then, times}
use Rattle.packed.specs.Reading.{Reading, Refuses, Value}
use Rattle.packed.specs.Writing.{Writing, Rejects, Put}
use Rattle.packed.specs.declared.reply.Refusal.{Refusal}
use Rattle.packed.proofs.RoundTrip.{times_suc}
use Rattle.packed.proofs.ReadingLaws.{left_is, reads, refused, calls, calls_refused}
use Rattle.packed.proofs.WritingLaws.{left_to, writes, rejected, parts, parts_rejected}

-- the first of them, and the others
times_some : (n : ℕ) (f : Format) → 0 < n → times n f ≡ then f (times (n - 1) f)
times_some n f h =
    let e : n ≡ suc (n - 1) = omega arith in
    ap (λ (k : ℕ). times k f) e ∙ times_suc (n - 1) f

-- the same where each is one field
then_field : (wide low bound e : ℕ) (g : Format) → then (ask wide low bound e (λ v. done)) g ≡ ask wide low bound e (λ v. g)
unfolding then
then_field wide low bound e g = refl

times_field : {f : Format} {wide low bound e : ℕ} → f ≡ ask wide low bound e (λ v. done) → (n : ℕ) → 0 < n → times n f ≡ ask wide low bound e (λ v. times (n - 1) f)
times_field {f} {wide} {low} {bound} {e} q n h =
    times_some n f h ∙ ap (λ (g : Format). then g (times (n - 1) f)) q ∙ then_field wide low bound e (times (n - 1) f)

module _ {F : Format} {s : List ℕ} {at₀ : ℕ} {w₀ : List ℕ} {i₀ : ℕ} {f : Format} {at : ℕ} {w : List ℕ} {i : ℕ} (left : ℕ) (h : 0 < left)
    (r : Reading F s at₀ w₀ i₀ (times left f) at w i) where
  pub reads_part : {at' : ℕ} {w' : List ℕ} {i' : ℕ} → Reading f s at w i done at' w' i' → Reading F s at₀ w₀ i₀ (times (left - 1) f) at' w' i'
  reads_part p = calls f (times (left - 1) f) (left_is (times_some left f h) r) p

  pub part_refused : {file : ℕ} {x : Refusal} → Refuses f s at file x → Refuses F s at₀ file x
  part_refused p = calls_refused f (times (left - 1) f) (left_is (times_some left f h) r) p

  module _ {wide low bound e : ℕ} (q : f ≡ ask wide low bound e (λ v. done)) where
    pub reads_one : {v : ℕ} {w' : List ℕ} → Value wide low bound s at w i v w' → Reading F s at₀ w₀ i₀ (times (left - 1) f) (at + wide) w' (i + 1)
    reads_one p = reads (left_is (times_field q left h) r) p

    pub one_refused : {file : ℕ} {x : Refusal} → ((g : ℕ → Format) → Refuses (ask wide low bound e g) s at file x) → Refuses F s at₀ file x
    one_refused p = refused (left_is (times_field q left h) r) (p (λ v. times (left - 1) f))

module _ {F : Format} {ws : List ℕ} {i₀ : ℕ} {b₀ : List ℕ} {at₀ : ℕ} {f : Format} {i : ℕ} {b : List ℕ} {at : ℕ} (left : ℕ) (h : 0 < left)
    (r : Writing F ws i₀ b₀ at₀ (times left f) i b at) where
  pub writes_part : {i' : ℕ} {b' : List ℕ} {at' : ℕ} → Writing f ws i b at done i' b' at' → Writing F ws i₀ b₀ at₀ (times (left - 1) f) i' b' at'
  writes_part p = parts f (times (left - 1) f) (left_to (times_some left f h) r) p

  pub part_rejected : {file : ℕ} {x : Refusal} → Rejects f ws i at file x → Rejects F ws i₀ at₀ file x
  part_rejected p = parts_rejected f (times (left - 1) f) (left_to (times_some left f h) r) p

  module _ {wide low bound e : ℕ} (q : f ≡ ask wide low bound e (λ v. done)) where
    pub writes_one : {v : ℕ} {b' : List ℕ} → Put wide low bound ws i b at v b' → Writing F ws i₀ b₀ at₀ (times (left - 1) f) (i + 1) b' (at + wide)
    writes_one p = writes (left_to (times_field q left h) r) p

    pub one_rejected : {file : ℕ} {x : Refusal} → ((g : ℕ → Format) → Rejects (ask wide low bound e g) ws i at file x) → Rejects F ws i₀ at₀ file x
    one_rejected p = rejected (left_to (times_field q left h) r) (p (λ v. times (left - 1) f))
