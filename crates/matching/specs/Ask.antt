-- Asking "before a link enters the record", "which extracts' sheets it would change": what it answers.
use Rattle.std.specs.Prelude.{ℕ, zero, suc, ◌+◌, ◌^◌, List, [], ◌∷◌, Bool, true, false, not, ◌&&◌, length, eqb, Result, Ok, Err}
use Rattle.packed.specs.Format.{pick}
use Rattle.packed.specs.Contents.{views_of}
use Rattle.packed.specs.declared.reply.Refusal.{Refusal}
use Rattle.packed.specs.Refusals.{Told, told, number_of, detail_of}
use Rattle.packed.specs.Calls.{Outcome, give, judged, read_record}
use Rattle.engine.specs.Simulation.{Pattern, Graph, graph_of, view_sheet}
use Rattle.matching.specs.Offered.{Brought, Offered, view_at, offered}
use Rattle.matching.specs.Enter.{judge_link}
use Rattle.matching.specs.declared.state.State.{State}
use Rattle.matching.specs.declared.state.Link.{Link}
use Rattle.matching.specs.declared.state.Slip.{Slip}

-- whether two lists are the same
unfoldable pub alike : List ℕ → List ℕ → Bool
alike [] [] = true
alike [] (y ∷ ys) = false
alike (x ∷ xs) [] = false
alike (x ∷ xs) (y ∷ ys) = eqb x y && alike xs ys

unfoldable pub all_alike : List (List ℕ) → List (List ℕ) → Bool
all_alike [] [] = true
all_alike [] (l ∷ ls) = false
all_alike (k ∷ ks) [] = false
all_alike (k ∷ ks) (l ∷ ls) = alike k l && all_alike ks ls

-- whether the view P has other lists on H than on G
unfoldable pub changes : Graph → Graph → Pattern → Bool
changes G H P = not (all_alike (view_sheet P G) (view_sheet P H))

-- those of the first k views that have, each by its own rule, as a set: "judged by the lists"
unfoldable pub changed_views : Offered → Graph → Graph → ℕ → ℕ
changed_views o G H zero = 0
changed_views o G H (suc k) = changed_views o G H k + pick (changes G H (view_at o k)) (2 ^ k) 0

-- "asking alters nothing and gives that set .. and a slip with the link and the record's change number": by value, where ws is the content of the record
-- with the link
unfoldable pub ask_values : Offered → List ℕ → State → Link → List ℕ → List ℕ
ask_values o rs s l ws =
    changed_views o (graph_of rs) (graph_of ws) (length (views_of o.content)) ∷ l.from ∷ l.to ∷ l.kind ∷ s.change ∷ []

-- what asking answers, once the catalogue and its set are judged, and once the record is read
abbrev pub ask_for : Offered → List ℕ → State → Link → Outcome
ask_for o rs s l = judged (judge_link s.links rs l) (λ ws. give (ask_values o rs s l ws) [])

abbrev pub ask_of : Offered → List ℕ → State → Link → Outcome
ask_of o r s l = judged (read_record r) (λ rs. ask_for o rs s l)

unfoldable pub ask_outcome : Brought → List ℕ → State → Link → Outcome
ask_outcome c r s l = offered c (λ o. ask_of o r s l)

-- the views as a set, and the slip; or the refusal
abbrev pub Asked : Type 0
Asked = Result (ℕ × Slip) Refusal

-- what its result tells
abbrev pub ask_told : Asked → Told
ask_told (Ok (set, p)) = told 0 (set ∷ p.from ∷ p.to ∷ p.kind ∷ p.change ∷ [])
ask_told (Err x) = told (number_of x) (detail_of x ∷ [])
