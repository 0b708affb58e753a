-- What each call answers, and what it settles for every input.
use Rattle.std.specs.Prelude.{ℕ, ◌*◌, ◌<◌, ◌≡◌, ◌||◌, length, drop, get_or, replicate, ltb}
use mathlib.Core.List.{List, [], ◌∷◌, ◌++◌, map, flatten}
use Rattle.packed.specs.Limits.{pattern_most, catalogue_most, record_most, book_most, pairs_most, workspace}
use Rattle.packed.specs.Format.{Format, Result, ok, bad, pick, decode, encode}
use Rattle.packed.specs.Formats.{pattern, patterns, catalogue, record', sheet, book}
use Rattle.packed.specs.Contents.{edges_of, edge_counts, sheets_in, distinct}
use Rattle.packed.specs.Refusals.{Told, told}

-- ---- the protocol

-- what a call answers, from what it is lent: values by value and its outputs in order, or a refusal's number and detail
pub data Outcome : Type 0 where
  give : List ℕ → List (List ℕ) → Outcome
  refuse : ℕ → ℕ → Outcome

-- what its result tells: the length of each output and the values; on a refusal the detail, and blank in the place of the values
unfoldable pub told_of : List ℕ → Outcome → Told
told_of blank (give vs outs) = told 0 (map length outs ++ vs)
told_of blank (refuse n d) = told n (d ∷ blank)

-- each output at the front of what is lent for it
unfoldable pub fronts : List (List ℕ) → List (List ℕ) → List (List ℕ)
fronts [] lent = lent
fronts (o ∷ os) [] = []
fronts (o ∷ os) (l ∷ lent) = (o ++ drop (length o) l) ∷ fronts os lent

-- what the lent outputs hold afterwards: on a refusal they are untouched
unfoldable pub outputs_of : Outcome → List (List ℕ) → List (List ℕ)
outputs_of (give vs outs) lent = fronts outs lent
outputs_of (refuse n d) lent = lent

-- what the words that a call is lent to work in hold afterwards
unfoldable pub work_of : List ℕ → List ℕ
work_of work = pick (ltb (length work) workspace) work (replicate workspace 0 ++ drop workspace work)

-- what a call settles: its result, each output and the workspace
pub record Settled (blank : List ℕ) (a : Outcome) (r : Told) (outs outs' : List (List ℕ)) (work work' : List ℕ) : Type 0 where
  pub result : r ≡ told_of blank a
  pub outputs : outs' ≡ outputs_of a outs
  pub workspace : work' ≡ work_of work

-- the same of a call that is lent no workspace: its result and its outputs
pub record Fulfils (blank : List ℕ) (a : Outcome) (r : Told) (outs outs' : List (List ℕ)) : Type 0 where
  pub result : r ≡ told_of blank a
  pub outputs : outs' ≡ outputs_of a outs

-- with one output and no values
abbrev pub FulfilsOne : Outcome → Told → List ℕ → List ℕ → Type 0
FulfilsOne a r out out' = Fulfils [] a r (out ∷ []) (out' ∷ [])

-- a call refuses with 14 where it is lent too few words to work in
unfoldable pub with_workspace : ℕ → Outcome → Outcome
with_workspace words a = pick (ltb words workspace) (refuse 14 0) a

-- what a call with one output settles, by its outcome for so much room: 14 comes first
abbrev pub OneOutput : (ℕ → Outcome) → Told → List ℕ → List ℕ → List ℕ → List ℕ → Type 0
OneOutput outcome r out out' work work' = Settled [] (with_workspace (length work) (outcome (length out))) r (out ∷ []) (out' ∷ []) work work'

-- ---- files

-- a file is accepted with its content, or refused with a number and the file's number
pub data Verdict : Type 0 where
  accepted : List ℕ → Verdict
  rejected : ℕ → ℕ → Verdict

abbrev pub in_file : ℕ → Result ℕ → Verdict
in_file file (ok ws) = accepted ws
in_file file (bad e) = rejected e file

-- reading a file of at most so many bytes: 1, then front to back
unfoldable pub read_file : ℕ → ℕ → Format → List ℕ → Verdict
read_file most file f s = pick (ltb most (length s)) (rejected 1 file) (in_file file (decode f s))

-- writing one: the same front to back
unfoldable pub write_file : ℕ → Format → List ℕ → Verdict
write_file file f ws = in_file file (encode f ws)

-- a refusal is handed up as it came
unfoldable pub judged : Verdict → (List ℕ → Outcome) → Outcome
judged (accepted ws) k = k ws
judged (rejected n d) k = refuse n d

abbrev pub read_pattern : List ℕ → Verdict
read_pattern s = read_file pattern_most 1 pattern s

-- the questions of one call, so many in one file
abbrev pub read_questions : ℕ → List ℕ → Verdict
read_questions number s = read_file (pattern_most * number) 1 (patterns number) s

-- so many accepted questions, one file after the other
pub record QuestionFiles (number : ℕ) (s ws : List ℕ) : Type 0 where
  pub files : List (List ℕ)
  pub contents : List (List ℕ)
  pub many : length files ≡ number
  pub many_contents : length contents ≡ number
  pub each : (i : ℕ) → i < number → read_pattern (get_or files i []) ≡ accepted (get_or contents i [])
  pub bytes : s ≡ flatten files
  pub content : ws ≡ flatten contents

-- "New clients have an empty file. It now means a catalogue without extracts, like the byte 00": by this every call accepts a catalogue
unfoldable pub read_catalogue : List ℕ → Verdict
read_catalogue [] = accepted (0 ∷ [])
read_catalogue (b ∷ s) = read_file catalogue_most 2 catalogue (b ∷ s)

abbrev pub read_record : List ℕ → Verdict
read_record s = read_file record_most 3 record' s

-- a sheet stands beside its pattern's content, a book beside its catalogue's
abbrev pub read_sheet : List ℕ → List ℕ → Verdict
read_sheet p s = read_file book_most 4 (sheet (edges_of p)) s

abbrev pub read_book : List ℕ → List ℕ → Verdict
read_book c s = read_file book_most 4 (book (edge_counts c)) s

abbrev pub write_sheet : List ℕ → List ℕ → Verdict
write_sheet p ws = write_file 4 (sheet (edges_of p)) ws

abbrev pub write_book : List ℕ → List ℕ → Verdict
write_book c ws = write_file 4 (book (edge_counts c)) ws

-- the different pairs of a book for views with so many edges, by their codes, ascending
unfoldable pub pairs_of : List ℕ → List ℕ → List ℕ
pairs_of ms ws = distinct (flatten (map flatten (sheets_in ms ws)))

-- 10: over 8,192 different pairs stand in a book
unfoldable pub within_pairs_by : List ℕ → List ℕ → Outcome → Outcome
within_pairs_by ms ws a = pick (ltb pairs_most (length (pairs_of ms ws))) (refuse 10 4) a

abbrev pub within_pairs : List ℕ → List ℕ → Outcome → Outcome
within_pairs c ws a = within_pairs_by (edge_counts c) ws a

-- 12: the output needs more than was lent
unfoldable pub fit : ℕ → List ℕ → Outcome
fit room o = pick (ltb room (length o)) (refuse 12 (length o)) (give [] (o ∷ []))

-- the same for a sheet or a book, which has at most 65,536 bytes
unfoldable pub fit_file : ℕ → List ℕ → Outcome
fit_file room o = pick (ltb room (length o) || ltb book_most (length o)) (refuse 12 (length o)) (give [] (o ∷ []))

-- two outputs, 12 for the first that doesn't fit
unfoldable pub fit_both : ℕ → ℕ → List ℕ → List ℕ → Outcome
fit_both room room' a b =
    pick (ltb room (length a)) (refuse 12 (length a))
    (pick (ltb room' (length b)) (refuse 12 (length b)) (give [] (a ∷ b ∷ [])))

-- what was written, of a content that is accepted
abbrev pub bytes_in : Result ℕ → List ℕ
bytes_in (ok s) = s
bytes_in (bad e) = []

-- a record with this content, in bytes
unfoldable pub record_bytes : List ℕ → List ℕ
record_bytes fs = bytes_in (encode record' fs)

-- ---- the calls: what each answers with the workspace aside, and then whole, from the lengths of the output and of the workspace

unfoldable pub pattern_read : List ℕ → ℕ → Outcome
pattern_read s room = judged (read_pattern s) (fit room)

unfoldable pub catalogue_read : List ℕ → ℕ → Outcome
catalogue_read s room = judged (read_catalogue s) (fit room)

unfoldable pub record_read : List ℕ → ℕ → Outcome
record_read s room = judged (read_record s) (fit room)

unfoldable pub sheet_read : List ℕ → List ℕ → ℕ → Outcome
sheet_read p s room = judged (read_pattern p) (λ ps. judged (read_sheet ps s) (fit room))

unfoldable pub book_read : List ℕ → List ℕ → ℕ → Outcome
book_read c s room = judged (read_catalogue c) (λ cs. judged (read_book cs s) (λ ws. within_pairs cs ws (fit room ws)))

unfoldable pub pattern_written : List ℕ → ℕ → Outcome
pattern_written ws room = judged (write_file 1 pattern ws) (fit room)

unfoldable pub catalogue_written : List ℕ → ℕ → Outcome
catalogue_written ws room = judged (write_file 2 catalogue ws) (fit room)

unfoldable pub record_written : List ℕ → ℕ → Outcome
record_written ws room = judged (write_file 3 record' ws) (fit room)

unfoldable pub sheet_written : List ℕ → List ℕ → ℕ → Outcome
sheet_written p ws room = judged (read_pattern p) (λ ps. judged (write_sheet ps ws) (fit_file room))

unfoldable pub book_written : List ℕ → List ℕ → ℕ → Outcome
book_written c ws room = judged (read_catalogue c) (λ cs. judged (write_book cs ws) (λ s. within_pairs cs ws (fit_file room s)))
