-- Both ways round through the calls: an accepted file's content is written back as the same bytes, and what was written is read back as the same content.
use Prim.Native.Nat.{ℕ, ◌<◌, ◌≤◌}
use mathlib.Core.Path.{◌≡◌, refl, ap, ◌∙◌}
use mathlib.Core.List.{List, [], ◌∷◌}
use mathlib.Core.Bool.{Bool, true, false}
use lib.ListN.{length}
use lib.Dec.{ltb}
use native.Mathlib.Omega.{arith}
use borrow.Author.Tests.{ltb-false, le-ltb}
use Rattle.packed.specs.Format.{Format, Result, ok, bad, pick, decode, encode}
use Rattle.packed.specs.Formats.{pattern, catalogue, record', sheet, book}
use Rattle.packed.specs.Contents.{edges_of, edge_counts}
use Rattle.packed.specs.Calls.{Outcome, give, refuse, with_workspace, Verdict, accepted, rejected, in_file, read_file, write_file, judged, read_pattern, read_catalogue, pairs_of, within_pairs_by, fit, fit_file, pattern_read, catalogue_read, record_read, sheet_read, book_read, pattern_written, catalogue_written, record_written, sheet_written, book_written}
use Rattle.packed.proofs.RoundTrip.{Bytes, decode_encode, encode_decode}
use Rattle.packed.proofs.Accepted.{catalogue_accepted, catalogue_some}
use Rattle.packed.proofs.Most.{pattern_bytes_lem, catalogue_bytes, record_bytes}
use Rattle.packed.proofs.CallLaws.{read_finds, write_finds, accepted_by, catalogue_by_fields, judged_accepted, over_file, over_file_no}

-- ---- what a call that gave its output went through

-- a test that it passed
passed : (t : Bool) (n d : ℕ) (a : Outcome) (o : List ℕ) → pick t (refuse n d) a ≡ give [] (o ∷ []) → (t ≡ false) × (a ≡ give [] (o ∷ []))
passed true n d a o e = absurd (let z : ◌≡◌ {A = ℕ} 0 1 = cc in omega arith)
passed false n d a o e = (refl, e)

-- so it passes with any answer
with_workspace_given : (words : ℕ) (a : Outcome) (o : List ℕ) → with_workspace words a ≡ give [] (o ∷ []) → (a ≡ give [] (o ∷ [])) × ((b : Outcome) → with_workspace words b ≡ b)
unfolding with_workspace
with_workspace_given words a o e = let p = passed (ltb words 16384) 14 0 a o e in (p.1, λ b. rw p.0)

within_pairs_given : (ms ws : List ℕ) (a : Outcome) (o : List ℕ) → within_pairs_by ms ws a ≡ give [] (o ∷ []) → (a ≡ give [] (o ∷ [])) × ((b : Outcome) → within_pairs_by ms ws b ≡ b)
unfolding within_pairs_by
within_pairs_given ms ws a o e = let p = passed (ltb 8192 (length (pairs_of ms ws))) 10 4 a o e in (p.1, λ b. rw p.0)

given_is : (a o : List ℕ) → give [] (a ∷ []) ≡ give [] (o ∷ []) → a ≡ o
given_is a o e = cc

fit_gave : (room : ℕ) (a o : List ℕ) → fit room a ≡ give [] (o ∷ []) → a ≡ o
unfolding fit
fit_gave room a o e = given_is a o (passed (ltb room (length a)) 12 (length a) (give [] (a ∷ [])) o e).1

fit_file_gave : (room : ℕ) (a o : List ℕ) → fit_file room a ≡ give [] (o ∷ []) → (a ≡ o) × (length a ≤ 65536)
unfolding fit_file
fit_file_gave room a o e =
    let p = passed (over_file room (length a)) 12 (length a) (give [] (a ∷ [])) o e in
    (given_is a o p.1, (over_file_no room (length a) p.0).1)

-- a file that was read, and one that was written
read_gave : (most file : ℕ) (F : Format) (s : List ℕ) (k : List ℕ → Outcome) (o : List ℕ) → judged (read_file most file F s) k ≡ give [] (o ∷ [])
    → (ws : List ℕ) × (length s ≤ most) × (decode F s ≡ ok ws) × (k ws ≡ give [] (o ∷ []))
unfolding read_file judged
read_gave most file F s k o e = go (ltb most (length s)) (decode F s) refl refl e
  where
    go : (t : Bool) (r : Result ℕ) → ltb most (length s) ≡ t → decode F s ≡ r → judged (pick t (rejected 1 file) (in_file file r)) k ≡ give [] (o ∷ [])
        → (ws : List ℕ) × (length s ≤ most) × (decode F s ≡ ok ws) × (k ws ≡ give [] (o ∷ []))
    go true r p d q = absurd (let z : ◌≡◌ {A = ℕ} 0 1 = cc in omega arith)
    go false (ok ws) p d q = (ws, ltb-false most (length s) p, d, q)
    go false (bad n) p d q = absurd (let z : ◌≡◌ {A = ℕ} 0 1 = cc in omega arith)

write_gave : (file : ℕ) (F : Format) (ws : List ℕ) (k : List ℕ → Outcome) (o : List ℕ) → judged (write_file file F ws) k ≡ give [] (o ∷ [])
    → (s : List ℕ) × (encode F ws ≡ ok s) × (k s ≡ give [] (o ∷ []))
unfolding write_file judged
write_gave file F ws k o e = go (encode F ws) refl e
  where
    go : (r : Result ℕ) → encode F ws ≡ r → judged (in_file file r) k ≡ give [] (o ∷ []) → (s : List ℕ) × (encode F ws ≡ ok s) × (k s ≡ give [] (o ∷ []))
    go (ok s) d q = (s, d, q)
    go (bad n) d q = absurd (let z : ◌≡◌ {A = ℕ} 0 1 = cc in omega arith)

-- ---- one file, whatever the tests after its acceptance

module _ (most file : ℕ) (F : Format) (s ws : List ℕ) (k k' : List ℕ → Outcome) where
  -- ws was read from s, so s is written from ws
  file_back : Bytes s → judged (read_file most file F s) k ≡ give [] (ws ∷ [])
      → ((o : List ℕ) → k o ≡ give [] (ws ∷ []) → length s ≤ most → (o ≡ ws) × (k' s ≡ give [] (s ∷ [])))
      → judged (write_file file F ws) k' ≡ give [] (s ∷ [])
  file_back y e g =
      let r = read_gave most file F s k ws e in
      let q = g r.0 r.3 r.1 in
      judged_accepted k' (accepted_by (write_finds file F ws) (decode_encode F s ws y (r.2 ∙ ap ok q.0))) ∙ q.1

  -- s was written from ws, so ws is read from s
  file_again : judged (write_file file F ws) k' ≡ give [] (s ∷ [])
      → ((o : List ℕ) → k' o ≡ give [] (s ∷ []) → encode F ws ≡ ok o → (o ≡ s) × (length s ≤ most) × (k ws ≡ give [] (ws ∷ [])))
      → judged (read_file most file F s) k ≡ give [] (ws ∷ [])
  file_again e g =
      let r = write_gave file F ws k' s e in
      let q = g r.0 r.2 r.1 in
      judged_accepted k (accepted_by (read_finds most file F s q.1) (encode_decode F ws s (r.1 ∙ ap ok q.0))) ∙ q.2

-- the call on another output, beside a file that is accepted
beside : (v : Verdict) (k k' : List ℕ → Outcome) (o o' : List ℕ) → judged v k ≡ give [] (o ∷ [])
    → ((ps : List ℕ) → k ps ≡ give [] (o ∷ []) → k' ps ≡ give [] (o' ∷ [])) → judged v k' ≡ give [] (o' ∷ [])
unfolding judged
beside (accepted ps) k k' o o' e g = g ps e
beside (rejected n d) k k' o o' e g = absurd (let z : ◌≡◌ {A = ℕ} 0 1 = cc in omega arith)

-- the call, with the workspace
at_with_workspace : (words : ℕ) (a b : Outcome) (o o' : List ℕ) → with_workspace words a ≡ give [] (o ∷ []) → (a ≡ give [] (o ∷ []) → b ≡ give [] (o' ∷ [])) → with_workspace words b ≡ give [] (o' ∷ [])
at_with_workspace words a b o o' e g = let p = with_workspace_given words a o e in p.1 b ∙ g p.0

pub fit_given : (room : ℕ) (o : List ℕ) → length o ≤ room → fit room o ≡ give [] (o ∷ [])
unfolding fit
fit_given room o h = rw (le-ltb room (length o) h)

pub fit_file_given : (room : ℕ) (o : List ℕ) → length o ≤ room → length o ≤ 65536 → fit_file room o ≡ give [] (o ∷ [])
unfolding fit_file
fit_file_given room o h l = rw (le-ltb room (length o) h, le-ltb 65536 (length o) l)

-- ---- patterns, catalogues and records

module _ (most file : ℕ) (F : Format) (s ws : List ℕ) (room room' words : ℕ) where
  plain_back : Bytes s → with_workspace words (judged (read_file most file F s) (fit room)) ≡ give [] (ws ∷ []) → length s ≤ room'
      → with_workspace words (judged (write_file file F ws) (fit room')) ≡ give [] (s ∷ [])
  plain_back y e h =
      at_with_workspace words (judged (read_file most file F s) (fit room)) (judged (write_file file F ws) (fit room')) ws s e
      (λ d. file_back most file F s ws (fit room) (fit room') y d (λ o q l. (fit_gave room o ws q, fit_given room' s h)))

  plain_again : ((ws s : List ℕ) → encode F ws ≡ ok s → length s ≤ most) → with_workspace words (judged (write_file file F ws) (fit room)) ≡ give [] (s ∷ []) → length ws ≤ room'
      → with_workspace words (judged (read_file most file F s) (fit room')) ≡ give [] (ws ∷ [])
  plain_again bound e h =
      at_with_workspace words (judged (write_file file F ws) (fit room)) (judged (read_file most file F s) (fit room')) s ws e
      (λ d. file_again most file F s ws (fit room') (fit room) d
      (λ o q w. let g = fit_gave room o s q in (g, bound ws s (w ∙ ap ok g), fit_given room' ws h)))

-- no catalogue is written as the empty file
pub written_some : (s ws : List ℕ) (room words : ℕ) → with_workspace words (catalogue_written ws room) ≡ give [] (s ∷ []) → 0 < length s
unfolding catalogue_written
written_some s ws room words e =
    let r = write_gave 2 catalogue ws (fit room) s (with_workspace_given words (judged (write_file 2 catalogue ws) (fit room)) s e).0 in
    catalogue_some s ws ((catalogue_accepted s ws).0 (encode_decode catalogue ws s (r.1 ∙ ap ok (fit_gave room r.0 s r.2))))

module _ (s ws : List ℕ) (room room' words : ℕ) where
  pub pattern_back : Bytes s → with_workspace words (pattern_read s room) ≡ give [] (ws ∷ []) → length s ≤ room' → with_workspace words (pattern_written ws room') ≡ give [] (s ∷ [])
  unfolding pattern_read pattern_written
  pattern_back = plain_back 56 1 pattern s ws room room' words

  pub pattern_again : with_workspace words (pattern_written ws room) ≡ give [] (s ∷ []) → length ws ≤ room' → with_workspace words (pattern_read s room') ≡ give [] (ws ∷ [])
  unfolding pattern_read pattern_written
  pattern_again = plain_again 56 1 pattern s ws room room' words pattern_bytes_lem

  -- all but the empty file
  pub catalogue_back : Bytes s → 0 < length s → with_workspace words (catalogue_read s room) ≡ give [] (ws ∷ []) → length s ≤ room'
      → with_workspace words (catalogue_written ws room') ≡ give [] (s ∷ [])
  unfolding catalogue_read catalogue_written
  catalogue_back y h e = plain_back 897 2 catalogue s ws room room' words y (rw (catalogue_by_fields s h) at e)

  pub catalogue_again : with_workspace words (catalogue_written ws room) ≡ give [] (s ∷ []) → length ws ≤ room' → with_workspace words (catalogue_read s room') ≡ give [] (ws ∷ [])
  unfolding catalogue_read catalogue_written
  catalogue_again e h = rw (catalogue_by_fields s (written_some s ws room words e)) (plain_again 897 2 catalogue s ws room room' words catalogue_bytes e h)

  pub record_back : Bytes s → with_workspace words (record_read s room) ≡ give [] (ws ∷ []) → length s ≤ room' → with_workspace words (record_written ws room') ≡ give [] (s ∷ [])
  unfolding record_read record_written
  record_back = plain_back 44036 3 record' s ws room room' words

  pub record_again : with_workspace words (record_written ws room) ≡ give [] (s ∷ []) → length ws ≤ room' → with_workspace words (record_read s room') ≡ give [] (ws ∷ [])
  unfolding record_read record_written
  record_again = plain_again 44036 3 record' s ws room room' words record_bytes

-- ---- sheets beside a pattern, books beside a catalogue

-- a file is accepted as ps; beside it a file of the format F ps; then perhaps a test of the content, which a test passed once passes again
module _ (v : Verdict) (F : List ℕ → Format) (test : List ℕ → List ℕ → Outcome → Outcome)
    (passes : (ps ws : List ℕ) (a : Outcome) (o : List ℕ) → test ps ws a ≡ give [] (o ∷ []) → (a ≡ give [] (o ∷ [])) × ((b : Outcome) → test ps ws b ≡ b))
    (s ws : List ℕ) (words : ℕ) where
  abbrev reading : ℕ → List ℕ → Outcome
  reading room ps = judged (read_file 65536 4 (F ps) s) (λ o. test ps o (fit room o))

  abbrev writing : ℕ → List ℕ → Outcome
  writing room ps = judged (write_file 4 (F ps) ws) (λ o. test ps ws (fit_file room o))

  paired_back : (room room' : ℕ) → Bytes s → with_workspace words (judged v (reading room)) ≡ give [] (ws ∷ []) → length s ≤ room'
      → with_workspace words (judged v (writing room')) ≡ give [] (s ∷ [])
  paired_back room room' y e h =
      at_with_workspace words (judged v (reading room)) (judged v (writing room')) ws s e
      (λ d. beside v (reading room) (writing room') ws s d
      (λ ps b. file_back 65536 4 (F ps) s ws (λ o. test ps o (fit room o)) (λ o. test ps ws (fit_file room' o)) y b
      (λ o q l. let u = passes ps o (fit room o) ws q in
      let g : o ≡ ws = fit_gave room o ws u.0 in
      (g, (rw g at u.1) (fit_file room' s) ∙ fit_file_given room' s h l))))

  paired_again : (room room' : ℕ) → with_workspace words (judged v (writing room)) ≡ give [] (s ∷ []) → length ws ≤ room'
      → with_workspace words (judged v (reading room')) ≡ give [] (ws ∷ [])
  paired_again room room' e h =
      at_with_workspace words (judged v (writing room)) (judged v (reading room')) s ws e
      (λ d. beside v (writing room) (reading room') s ws d
      (λ ps b. file_again 65536 4 (F ps) s ws (λ o. test ps o (fit room' o)) (λ o. test ps ws (fit_file room o)) b
      (λ o q w. let u = passes ps ws (fit_file room o) s q in
      let g = fit_file_gave room o s u.0 in
      (g.0, rw g.0 at g.1, u.1 (fit room' ws) ∙ fit_given room' ws h))))

module _ (p s ws : List ℕ) (room room' words : ℕ) where
  pub sheet_back : Bytes s → with_workspace words (sheet_read p s room) ≡ give [] (ws ∷ []) → length s ≤ room' → with_workspace words (sheet_written p ws room') ≡ give [] (s ∷ [])
  unfolding sheet_read sheet_written
  sheet_back = paired_back (read_pattern p) (λ ps. sheet (edges_of ps)) (λ ps o a. a) (λ ps o a q e. (e, λ b. refl)) s ws words room room'

  pub sheet_again : with_workspace words (sheet_written p ws room) ≡ give [] (s ∷ []) → length ws ≤ room' → with_workspace words (sheet_read p s room') ≡ give [] (ws ∷ [])
  unfolding sheet_read sheet_written
  sheet_again = paired_again (read_pattern p) (λ ps. sheet (edges_of ps)) (λ ps o a. a) (λ ps o a q e. (e, λ b. refl)) s ws words room room'

  pub book_back : Bytes s → with_workspace words (book_read p s room) ≡ give [] (ws ∷ []) → length s ≤ room' → with_workspace words (book_written p ws room') ≡ give [] (s ∷ [])
  unfolding book_read book_written
  book_back = paired_back (read_catalogue p) (λ cs. book (edge_counts cs)) (λ cs. within_pairs_by (edge_counts cs)) (λ cs. within_pairs_given (edge_counts cs)) s ws words room room'

  pub book_again : with_workspace words (book_written p ws room) ≡ give [] (s ∷ []) → length ws ≤ room' → with_workspace words (book_read p s room') ≡ give [] (ws ∷ [])
  unfolding book_read book_written
  book_again = paired_again (read_catalogue p) (λ cs. book (edge_counts cs)) (λ cs. within_pairs_by (edge_counts cs)) (λ cs. within_pairs_given (edge_counts cs)) s ws words room room'
