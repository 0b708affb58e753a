-- The questions of one call are accepted exactly if they are so many accepted questions, one file after the other.
use Prim.Native.Nat.{ℕ, zero, suc, ◌*◌, ◌/◌, ◌<◌, ◌≤◌}
use mathlib.Core.Path.{◌≡◌, refl, ap, ap₂, sym, ◌∙◌, subst}
use mathlib.Core.List.{List, [], ◌∷◌, ◌++◌, map, flatten}
use mathlib.Core.Bool.{Bool}
use mathlib.Core.Logic.{◌↔◌}
use lib.ListN.{length, take, drop, get_or, length-append, length-map, take-append-drop, get_or-map}
use lib.Seq.{take_at, drop_at}
use native.Mathlib.Omega.{arith}
use Rattle.packed.specs.Bits.{bits}
use Rattle.packed.specs.Formats.{pattern}
use Rattle.packed.specs.Contents.{patterns_in}
use Rattle.packed.specs.Plain.{Whole, PlainPattern}
use Rattle.packed.specs.Calls.{accepted, read_pattern, read_questions, QuestionFiles}
use Rattle.packed.proofs.BitsLaws.{length-bits, take-bits, drop_bits, bits-append}
use Rattle.packed.proofs.Most.{bytes_whole, most_pattern}
use Rattle.packed.proofs.AcceptedLaws.{accepts_whole, whole_length}
use Rattle.packed.proofs.AcceptedGraphs.{accepts_pattern}
use Rattle.packed.proofs.Accepted.{pattern_read_lem, questions_read}
use Rattle.packed.proofs.AcceptedBounds.{Bounded, plain_bounded, patterns_in-flatten}

-- ---- files one after the other

-- a pattern has at most 56 bytes
few_bytes : {ws : List ℕ} {bs : List Bool} → Whole PlainPattern ws bs → length bs ≤ 8 * 56
few_bytes {ws} {bs} q = ((bytes_whole pattern most_pattern).takes 0 (ws ++ []) [] bs refl ((accepts_whole pattern 0 refl (accepts_pattern 0)).by ws [] bs q)).1

-- the bytes of patterns, each up to a whole byte, are told apart
record Apart (cs : List (List ℕ)) (s : List ℕ) : Type 0 where
  files : List (List ℕ)
  many : length files ≡ length cs
  each : (i : ℕ) → i < length cs → read_pattern (get_or files i []) ≡ accepted (get_or cs i [])
  bytes : s ≡ flatten files

no_bytes : (s : List ℕ) → length (bits s) ≡ 0 → s ≡ []
no_bytes [] h = refl
no_bytes (x ∷ xs) h = absurd (omega (arith, length-bits (x ∷ xs)))

each_first : (f c : List ℕ) (fs cs : List (List ℕ)) → read_pattern f ≡ accepted c → ((i : ℕ) → i < length cs → read_pattern (get_or fs i []) ≡ accepted (get_or cs i []))
    → (i : ℕ) → i < length (c ∷ cs) → read_pattern (get_or (f ∷ fs) i []) ≡ accepted (get_or (c ∷ cs) i [])
each_first f c fs cs e h zero l = e
each_first f c fs cs e h (suc i) l = h i (omega arith)

apart : (cs : List (List ℕ)) (ls : List (List Bool)) (s : List ℕ) → length ls ≡ length cs → ((i : ℕ) → i < length cs → Whole PlainPattern (get_or cs i []) (get_or ls i []))
    → bits s ≡ flatten ls → Apart cs s
unfolding flatten
apart [] [] s n h e = record { files = []; many = refl; each = λ i l. absurd (omega arith); bytes = no_bytes s (ap length e) }
apart [] (l ∷ ls) s n h e = absurd (omega arith)
apart (c ∷ cs) [] s n h e = absurd (omega arith)
apart (c ∷ cs) (l ∷ ls) s n h e =
    let q : Whole PlainPattern c l = h 0 (omega arith) in
    let k : ℕ = length l / 8 in
    let a : 8 * k ≡ length l = omega (arith, whole_length q) in
    let own : bits (take k s) ≡ l = sym (take-bits s k) ∙ ap₂ take a e ∙ take_at l (flatten ls) (length l) refl in
    let rest : bits (drop k s) ≡ flatten ls = sym (drop_bits s k) ∙ ap₂ drop a e ∙ drop_at l (flatten ls) (length l) refl in
    let r = apart cs ls (drop k s) (omega arith) (λ i m. h (suc i) (omega arith)) rest in
    let few : length (take k s) ≤ 56 = omega (arith, few_bytes q, length-bits (take k s), ap length own) in
    record {
      files = take k s ∷ r.files;
      many = ap suc r.many;
      each = each_first (take k s) c r.files cs ((pattern_read_lem (take k s) c).1 (few, subst (Whole PlainPattern c) (sym own) q)) r.each;
      bytes = sym (take-append-drop k s) ∙ ap (λ (t : List ℕ). take k s ++ t) r.bytes;
    }

bits-flatten : (fs : List (List ℕ)) → bits (flatten fs) ≡ flatten (map bits fs)
unfolding flatten bits
bits-flatten [] = refl
bits-flatten (f ∷ fs) = bits-append f (flatten fs) ∙ ap (λ (l : List Bool). bits f ++ l) (bits-flatten fs)

length-flatten : (fs : List (List ℕ)) (k : ℕ) → ((i : ℕ) → i < length fs → length (get_or fs i []) ≤ k) → length (flatten fs) ≤ k * length fs
unfolding flatten
length-flatten [] k h = omega arith
length-flatten (f ∷ fs) k h =
    let a : length f ≤ k = h 0 (omega arith) in
    let b = length-flatten fs k (λ i l. h (suc i) (omega arith)) in
    omega (arith, length-append f (flatten fs))

-- ---- the theorem

module _ (number : ℕ) (s ws : List ℕ) where
  told_apart : read_questions number s ≡ accepted ws → QuestionFiles number s ws
  told_apart e =
      let q = ((questions_read number s ws).0 e).1 in
      let m = q.many in
      let r = apart q.contents q.laid s (q.many_laid ∙ sym m) (λ i h. q.each i (omega arith)) q.layout in
      record {
        files = r.files;
        contents = q.contents;
        many = r.many ∙ m;
        many_contents = m;
        each = λ i h. r.each i (omega arith);
        bytes = r.bytes;
        content = q.content;
      }

  put_together : QuestionFiles number s ws → read_questions number s ≡ accepted ws
  unfolding bits
  put_together q =
      let m = q.many in
      let read : (i : ℕ) → i < number → (length (get_or q.files i []) ≤ 56) × Whole PlainPattern (get_or q.contents i []) (bits (get_or q.files i [])) =
      λ i h. (pattern_read_lem (get_or q.files i []) (get_or q.contents i [])).0 (q.each i h) in
      (questions_read number s ws).1 (
        omega (arith, length-flatten q.files 56 (λ i h. (read i (omega arith)).0), ap length q.bytes),
        record {
          contents = q.contents;
          laid = map bits q.files;
          many = q.many_contents;
          many_laid = length-map q.files bits ∙ m;
          each = λ i h. subst (Whole PlainPattern (get_or q.contents i [])) (sym (get_or-map bits q.files i [])) (read i h).1;
          content = q.content;
          layout = ap bits q.bytes ∙ bits-flatten q.files;
        },
      )

  pub questions_apart : read_questions number s ≡ accepted ws ↔ QuestionFiles number s ws
  questions_apart = (told_apart, put_together)

  -- their contents
  pub questions_contents : (q : QuestionFiles number s ws) → patterns_in number ws ≡ q.contents
  questions_contents q =
      let m = q.many_contents in
      let bounded : (i : ℕ) → i < length q.contents → Bounded (get_or q.contents i []) =
      λ i h. let p = ((pattern_read_lem (get_or q.files i []) (get_or q.contents i [])).0 (q.each i (omega arith))).1 in plain_bounded (get_or q.contents i []) p.body p.laid in
      ap₂ patterns_in (sym m) q.content ∙ patterns_in-flatten q.contents bounded
