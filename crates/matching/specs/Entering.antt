-- inner: what the parts of commit settle.
use Rattle.std.specs.Prelude.{ℕ, ◌+◌, ◌<◌, ◌≡◌, List, [], ◌∷◌, length, Ok, Err}
use Rattle.packed.specs.Format.{ok, decode}
use Rattle.packed.specs.Formats.{record', rank}
use Rattle.packed.specs.Contents.{edges_of, ranks}
use Rattle.packed.specs.Entered.{edges_in, entered, MayEnter, lower}
use Rattle.packed.specs.Refusals.{Told, number_of, detail_of}
use Rattle.packed.specs.Calls.{Fulfils, accepted, rejected}
use Rattle.packed.specs.Parts.{Reply, Both}
use Rattle.matching.specs.Enter.{judge_link, give_both, commit_for}
use Rattle.matching.specs.declared.entering.Answered.{Answered}
use Rattle.matching.specs.declared.state.State.{State}
use Rattle.matching.specs.declared.state.Link.{Link}
use Rattle.matching.specs.declared.state.Slip.{Slip}

-- the content of the record with the content ws that a link enters
abbrev pub with_link : List ℕ → Link → List ℕ
with_link ws l = entered ws l.from l.to l.kind

-- a link that may enter the record with the content ws, behind so many of its edges
pub record Enters (links : ℕ) (ws : List ℕ) (l : Link) (at : ℕ) : Type 0 where
  pub judged : judge_link links ws l ≡ accepted (with_link ws l)
  pub count : links ≡ edges_of ws
  pub may : MayEnter ws l.from l.to l.kind
  pub behind : at ≡ lower (rank l.from l.to l.kind) (ranks (edges_in ws))

abbrev pub LinkJudged : ℕ → List ℕ → Link → Reply → Type 0
LinkJudged links ws l (Ok at) = Enters links ws l at
LinkJudged links ws l (Err x) = judge_link links ws l ≡ rejected (number_of x) (detail_of x)

-- the record that the link enters and its index were written, or do not fit
abbrev pub Written : List ℕ → Link → Told → List ℕ → List ℕ → List ℕ → List ℕ → Type 0
Written s l t out out' index index' =
    (ws : List ℕ) → decode record' s ≡ ok ws → Fulfils [] (give_both (length out) (length index) (with_link ws l)) t (out ∷ index ∷ []) (out' ∷ index' ∷ [])

-- the same from a slip
abbrev pub Entered : List ℕ → State → Slip → Told → List ℕ → List ℕ → List ℕ → List ℕ → Type 0
Entered s st p t out out' index index' =
    (ws : List ℕ) → decode record' s ≡ ok ws → Fulfils [] (commit_for ws st p (length out) (length index)) t (out ∷ index ∷ []) (out' ∷ index' ∷ [])

-- where both were written, both numbers can grow
abbrev pub Counted : ℕ → ℕ → Both → Type 0
Counted links change (Ok (a, b)) = (links < 8192) × (change < 4294967295)
Counted links change (Err x) = Unit {0}

-- an answer, and the two numbers of the state after it
abbrev pub answered_by : Both → State → Answered
answered_by (Ok (a, b)) s = record { answer = Ok (a, b); links = s.links + 1; change = s.change + 1 }
answered_by (Err x) s = record { answer = Err x; links = s.links; change = s.change }
