-- Several queries answered in one call from one book.
use Rattle.std.specs.Prelude.{ℕ, zero, suc, Bool, false, ◌||◌, length, get_or, eqb, ltb, Result, Ok, Err}
use mathlib.Core.List.{List, [], ◌∷◌, flatten}
use Rattle.packed.specs.declared.reply.Refusal.{Refusal}
use Rattle.packed.specs.Limits.{questions_most, book_most}
use Rattle.packed.specs.Format.{pick}
use Rattle.packed.specs.Contents.{patterns_in, edge_counts, sheets_in}
use Rattle.packed.specs.Refusals.{Told, told, number_of, detail_of}
use Rattle.packed.specs.Calls.{Outcome, give, refuse, judged, read_questions, read_book, within_pairs}
use Rattle.engine.specs.Simulation.{bit}
use Rattle.engine.specs.Lists.{up_to}
use Rattle.matching.specs.Part.{rank}
use Rattle.matching.specs.Offered.{Brought, Offered, view_patterns, offered}
use Rattle.containment.specs.Quote.{Quoted, quoted_by, covering, lowest_left, used_by}
use Rattle.containment.specs.Answer.{answer_bytes}

-- the question i of so many with the content ws, beside what the catalogue offers
unfoldable pub question_at : ℕ → List ℕ → Offered → ℕ → Quoted
question_at number ws o i = quoted_by (get_or (patterns_in number ws) i []) o

-- "it refuses with 17 when no question or more than eight are sent, .., detail the number sent"
unfoldable pub counted : ℕ → Outcome → Outcome
counted number a = pick (eqb number 0 || ltb questions_most number) (refuse 17 number) a

module _ (x : ℕ → Quoted) where
  -- "11 for the first uncovered question": of the first n, those before it are asked before it
  unfoldable pub all_covered : ℕ → Outcome → Outcome
  all_covered zero a = a
  all_covered (suc n) a = all_covered n (pick (covering (x n) (x n).usable) a (refuse 11 (lowest_left (x n) (x n).usable)))

  -- whether the view a is among those that answer one of the first n
  unfoldable pub is_needed : ℕ → ℕ → Bool
  is_needed zero a = false
  is_needed (suc n) a = is_needed n a || bit (used_by (x n)) a

  -- "how many of its sheets they needed, namely those of the extracts chosen for at least one question": of k views
  unfoldable pub sheets_needed : ℕ → ℕ → ℕ
  sheets_needed n k = rank (is_needed n) k

  -- what each gets by itself from the sheets of a book
  unfoldable pub answer_at : List (List (List ℕ)) → ℕ → List ℕ
  answer_at sheets i = answer_bytes (x i).content (used_by (x i)) (view_patterns (x i).offer) sheets

-- whether one of the first n outputs is over 65,536 bytes
unfoldable pub any_long : (ℕ → List ℕ) → ℕ → Bool
any_long o zero = false
any_long o (suc n) = any_long o n || ltb book_most (length (o n))

-- "the answers follow one another on byte starts"; "12 if an answer is over 65,536 bytes or the sum over those lent, detail the sum"
unfoldable pub fit_several : ℕ → ℕ → (ℕ → List ℕ) → ℕ → Outcome
fit_several room needed o n =
    pick (ltb room (length (flatten (up_to o n))) || any_long o n) (refuse 12 (length (flatten (up_to o n)))) (give (needed ∷ []) (flatten (up_to o n) ∷ []))

-- n questions answered from the content of an accepted book: 10, 11, 12
unfoldable pub several_in : (ℕ → Quoted) → ℕ → Offered → List ℕ → ℕ → Outcome
several_in x n o bs room =
    within_pairs o.content bs (all_covered x n (fit_several room (sheets_needed x n (length (view_patterns o))) (answer_at x (sheets_in (edge_counts o.content) bs)) n))

-- 17, the questions, the catalogue, the book
unfoldable pub several_outcome : List ℕ → ℕ → Brought → List ℕ → ℕ → Outcome
several_outcome q number c b room =
    counted number
    (judged (read_questions number q) (λ ws.
    offered c (λ o.
    judged (read_book o.content b) (λ bs.
    several_in (question_at number ws o) number o bs room))))

-- the bytes written and the sheets needed, or the refusal
abbrev pub Several : Type 0
Several = Result (ℕ × ℕ) Refusal

-- what its result tells: the bytes written and the sheets needed
abbrev pub several_told : Several → Told
several_told (Ok (bytes, sheets)) = told 0 (bytes ∷ sheets ∷ [])
several_told (Err x) = told (number_of x) (detail_of x ∷ [])
