-- A file is accepted, with its content, exactly when the plain rules hold.
use Prim.Native.Nat.{ℕ, ◌+◌, ◌/◌, ◌≤◌, ◌<◌, ◌*◌}
use mathlib.Core.Path.{◌≡◌, refl, ap, sym, subst, ◌∙◌}
use mathlib.Core.List.{List, [], ◌∷◌, ◌++◌, append-nil}
use mathlib.Core.Bool.{Bool, true, false}
use mathlib.Core.Logic.Iff
use mathlib.Core.Logic.{◌⊎◌, inl, inr, ◌↔◌, ⊎_elim}
use lib.ListN.{length, get_or, replicate, length-append, length-replicate}
use lib.Dec.{ltb}
use native.Mathlib.Omega.{arith}
use borrow.Author.Tests.{ltb-false, le-ltb}
use Rattle.packed.specs.Bits.{bits_of, bits, gap}
use Rattle.packed.specs.Format.{Format, Result, ok, bad, pick, got, ended, lay, whole, bytes_of, decode, encode}
use Rattle.packed.specs.Formats.{pattern, catalogue, record', sheet, book, patterns}
use Rattle.packed.specs.Contents.{edges_of, edge_counts}
use Rattle.packed.specs.Calls.{accepted, rejected, in_file, read_file, read_pattern, read_questions, read_catalogue, read_record, read_sheet, read_book}
use Rattle.packed.specs.OldRecord.{old_record, OldRecordFile}
use Rattle.packed.specs.Plain.{Laid, PlainCatalogue, PlainSheet, PatternFile, CatalogueFile, EmptyCatalogue, RecordFile, SheetFile, BookFile, QuestionsFile}
use Rattle.packed.proofs.BitsLaws.{length-bits, length_bits_of, gap_small, gap_fills}
use Rattle.packed.proofs.RoundTrip.{Bytes, in_bytes_ok, decode_encode, encode_decode}
use Rattle.packed.proofs.Files.{bytes_bytes_of, length_bytes_of}
use Rattle.packed.proofs.AcceptedLaws.{Accepts, accepts_whole, accepts_file, whole_same}
use Rattle.packed.proofs.AcceptedGraphs.{accepts_pattern, accepts_record, accepts_old}
use Rattle.packed.proofs.AcceptedTurns.{no_turns, accepts_patterns, patterns_length, accepts_catalogue, catalogue_length, turns_length}
use Rattle.packed.proofs.AcceptedSheets.{accepts_sheet, accepts_book}

-- ---- bytes of any number

pub pattern_accepted : (s ws : List ℕ) → decode pattern s ≡ ok ws ↔ PatternFile s ws
pattern_accepted s ws = accepts_file pattern (accepts_pattern 0) s ws

pub questions_accepted : (number : ℕ) (s ws : List ℕ) → decode (patterns number) s ≡ ok ws ↔ QuestionsFile number s ws
questions_accepted number s ws = Iff.trans (accepts_file (patterns number) (accepts_patterns number 0 refl) s ws) (whole_same (patterns_length number) ws (bits s))

pub catalogue_accepted : (s ws : List ℕ) → decode catalogue s ≡ ok ws ↔ CatalogueFile s ws
catalogue_accepted s ws = Iff.trans (accepts_file catalogue accepts_catalogue s ws) (whole_same catalogue_length ws (bits s))

-- it has a byte: that of the number
pub catalogue_some : (s ws : List ℕ) → CatalogueFile s ws → 0 < length s
catalogue_some s ws q =
    omega (arith, length-bits s, ap length q.layout, length-append (bits_of 5 q.number) (replicate 3 false ++ q.laid), length_bits_of 5 q.number)

-- the byte 00 has the content 0
pub zero_byte : CatalogueFile (0 ∷ []) (0 ∷ [])
unfolding bits bits_of
zero_byte = record { number = 0; inner = []; laid = []; content = refl; layout = refl; most = omega arith; patterns = (no_turns _ [] []).0 (refl, refl) }

pub record_accepted : (s ws : List ℕ) → decode record' s ≡ ok ws ↔ RecordFile s ws
record_accepted s ws = accepts_file record' (accepts_record 0) s ws

pub old_accepted : (s ws : List ℕ) → decode old_record s ≡ ok ws ↔ OldRecordFile s ws
old_accepted s ws = accepts_file old_record (accepts_old 0) s ws

pub sheet_accepted : (m : ℕ) (s ws : List ℕ) → decode (sheet m) s ≡ ok ws ↔ SheetFile m s ws
sheet_accepted m s ws = accepts_file (sheet m) (accepts_sheet m 0) s ws

pub book_accepted : (ms s ws : List ℕ) → decode (book ms) s ≡ ok ws ↔ BookFile ms s ws
book_accepted ms s ws =
    Iff.trans (accepts_file (book ms) (accepts_book ms) s ws)
    (whole_same (turns_length (λ i. PlainSheet (get_or ms i 0)) (length ms)) ws (bits s))

-- ---- files, which have at most so many bytes

pick_accepted : (b : Bool) (file : ℕ) (r : Result ℕ) (ws : List ℕ) → pick b (rejected 1 file) (in_file file r) ≡ accepted ws ↔ ((b ≡ false) × (r ≡ ok ws))
pick_accepted true file r ws =
    (λ e. absurd (let z : ◌≡◌ {A = ℕ} 0 1 = cc in omega arith), λ e. absurd (let d = e.0 in let z : ◌≡◌ {A = ℕ} 0 1 = cc in omega arith))
pick_accepted false file (ok xs) ws = (λ e. (refl, let q : xs ≡ ws = cc in ap ok q), λ e. ap (in_file file) e.1)
pick_accepted false file (bad n) ws =
    (λ e. absurd (let z : ◌≡◌ {A = ℕ} 0 1 = cc in omega arith), λ e. absurd (let d = e.1 in let z : ◌≡◌ {A = ℕ} 0 1 = cc in omega arith))

module _ (most file : ℕ) (F : Format) (s ws : List ℕ) {A : Type 0} (plain : decode F s ≡ ok ws ↔ A) where
  read_accepted : read_file most file F s ≡ accepted ws ↔ ((length s ≤ most) × A)
  unfolding read_file
  read_accepted =
      let p = pick_accepted (ltb most (length s)) file (decode F s) ws in
      (λ e. let q = p.0 e in (ltb-false most (length s) q.0, plain.0 q.1), λ q. p.1 (le-ltb most (length s) q.0, plain.1 q.1))

pub pattern_read_lem : (s ws : List ℕ) → read_pattern s ≡ accepted ws ↔ ((length s ≤ 56) × PatternFile s ws)
pattern_read_lem s ws = read_accepted 56 1 pattern s ws (pattern_accepted s ws)

pub questions_read : (number : ℕ) (s ws : List ℕ) → read_questions number s ≡ accepted ws ↔ ((length s ≤ 56 * number) × QuestionsFile number s ws)
questions_read number s ws = read_accepted (56 * number) 1 (patterns number) s ws (questions_accepted number s ws)

pub catalogue_read_lem : (s ws : List ℕ) → read_catalogue s ≡ accepted ws ↔ ((length s ≤ 897) × (EmptyCatalogue s ws ⊎ CatalogueFile s ws))
unfolding read_catalogue
catalogue_read_lem [] ws = (
  λ e. (omega arith, inl (refl, let q : 0 ∷ [] ≡ ws = cc in sym q)),
  λ q. ⊎_elim (λ x. ap accepted (sym x.1)) (λ x. absurd (let l = catalogue_some [] ws x in omega arith)) q.1,
)
catalogue_read_lem (b ∷ s) ws =
    let p = read_accepted 897 2 catalogue (b ∷ s) ws (catalogue_accepted (b ∷ s) ws) in (
      λ e. let q = p.0 e in (q.0, inr q.1),
      λ q. ⊎_elim (λ x. absurd (let l = ap length x.0 in omega arith)) (λ x. p.1 (q.0, x)) q.1,
    )

-- the content of a catalogue that is read keeps the plain rules, that of the empty file too
pub catalogue_plain : (s ws : List ℕ) → read_catalogue s ≡ accepted ws → (bs : List Bool) × PlainCatalogue ws bs
catalogue_plain s ws e = ⊎_elim (λ x. (bits (0 ∷ []), rw x.1 zero_byte)) (λ q. (bits s, q)) ((catalogue_read_lem s ws).0 e).1

-- which is read as the byte 00 is
pub read_alike : read_catalogue [] ≡ read_catalogue (0 ∷ [])
read_alike = (catalogue_read_lem [] (0 ∷ [])).1 (omega arith, inl (refl, refl)) ∙ sym ((catalogue_read_lem (0 ∷ []) (0 ∷ [])).1 (omega arith, inr zero_byte))

pub record_read_lem : (s ws : List ℕ) → read_record s ≡ accepted ws ↔ ((length s ≤ 44036) × RecordFile s ws)
record_read_lem s ws = read_accepted 44036 3 record' s ws (record_accepted s ws)

-- for the content p of a pattern
pub sheet_read_lem : (p s ws : List ℕ) → read_sheet p s ≡ accepted ws ↔ ((length s ≤ 65536) × SheetFile (edges_of p) s ws)
sheet_read_lem p s ws = read_accepted 65536 4 (sheet (edges_of p)) s ws (sheet_accepted (edges_of p) s ws)

-- for the content c of a catalogue
pub book_read_lem : (c s ws : List ℕ) → read_book c s ≡ accepted ws ↔ ((length s ≤ 65536) × BookFile (edge_counts c) s ws)
book_read_lem c s ws = read_accepted 65536 4 (book (edge_counts c)) s ws (book_accepted (edge_counts c) s ws)

-- ---- what is written is what would be accepted

pub written_accepted : (F : Format) (ws s : List ℕ) → encode F ws ≡ ok s ↔ (Bytes s × (decode F s ≡ ok ws))
unfolding encode
written_accepted F ws s = (
  λ e.
      let r = in_bytes_ok (ended (lay (whole F) 0 ws)) s e in
      (subst Bytes (sym r.2) (bytes_bytes_of _ r.0), encode_decode F ws s e),
  λ q. decode_encode F s ws q.0 q.1,
)

-- and a content that keeps the plain rules is written
pub plain_written : (F : Format) {R : Laid} → Accepts F 0 R → (ws : List ℕ) (body : List Bool) → R ws body
    → (s : List ℕ) × (encode F ws ≡ ok s) × (length s ≡ (length body + 7) / 8)
unfolding encode
plain_written F a ws body r =
    let n : ℕ = length body in
    let laid : List Bool = body ++ replicate (gap n) false in
    let e : lay (whole F) 0 ws ≡ got laid [] =
    ap (lay (whole F) 0) (sym (append-nil ws)) ∙ (accepts_whole F 0 refl a).by ws [] laid (record { body = body; laid = r; fills = refl }) in (
      bytes_of (length laid / 8) laid,
      rw e,
      omega (arith, length_bytes_of (length laid / 8) laid, length-append body (replicate (gap n) false), length-replicate (gap n) false, gap_small n, gap_fills n),
    )
