-- What a client brings beside a question: a catalogue, and the set of those of its views that are matched one-way.
use Rattle.std.specs.Prelude.{ℕ, zero, suc, ◌<◌, ◌≤◌, ◌≡◌, cond, ◌&&◌, List, [], length, get_or, leb, ltb, Result, Ok, Err}
use Rattle.packed.specs.Format.{pick}
use Rattle.packed.specs.Contents.{views_of}
use Rattle.packed.specs.declared.reply.Refusal.{Refusal}
use Rattle.packed.specs.declared.accept.CatalogueFile.{CatalogueFile}
use Rattle.packed.specs.Refusals.{number_of, detail_of}
use Rattle.packed.specs.Accepting.{HoldsViews}
use Rattle.packed.specs.Calls.{Outcome, refuse, Verdict, accepted, rejected, judged, read_catalogue}
use Rattle.packed.specs.Parts.{Reply}
use Rattle.engine.specs.Lists.{up_to}
use Rattle.engine.specs.Simulation.{bit, Rule, one_way, both_ways, Pattern, ruled, pattern_of}
use Rattle.engine.specs.Masks.{Has}

-- "a catalogue comes with a 16-bit set naming the extracts, bit worth 2^j for extract j, whose sheets follow one-way matching": as they are brought
pub record Brought : Type 0 where
  pub file : List ℕ
  pub one_way : ℕ

abbrev pub brings : List ℕ → ℕ → Brought
brings c set = record { file = c; one_way = set }

-- accepted: the content of the file, and the set
pub record Offered : Type 0 where
  pub content : List ℕ
  pub one_way : ℕ

abbrev pub offers : List ℕ → ℕ → Offered
offers cs set = record { content = cs; one_way = set }

-- by which rule the view a is matched: one-way if it is in the set
unfoldable pub rule_in : ℕ → ℕ → Rule
rule_in set a = cond (bit set a) one_way both_ways

-- the view ("extract") a
abbrev pub view_at : Offered → ℕ → Pattern
view_at o a = ruled (rule_in o.one_way a) (pattern_of (get_or (views_of o.content) a []))

-- the views, in order
unfoldable pub view_patterns : Offered → List Pattern
view_patterns o = up_to (view_at o) (length (views_of o.content))

-- ---- what is judged

-- where r is the lowest number below n that is in the set and not below k, or n: the same below n + 1. By a name of its own, so that evaluating it is cheap
abbrev pub stray_next : ℕ → ℕ → ℕ → ℕ → ℕ
stray_next set k n r = pick (ltb r n) r (pick (leb k n && bit set n) n (suc n))

-- the lowest such number below n, or n
unfoldable pub first_stray : ℕ → ℕ → ℕ → ℕ
first_stray set k zero = 0
first_stray set k (suc n) = stray_next set k n (first_stray set k n)

-- beside k views: "19 when the set names an extract not in the catalogue, .., detail the lowest such number"
unfoldable pub judge_set : ℕ → ℕ → Verdict
judge_set set k = pick (ltb (first_stray set k 16) 16) (rejected 19 (first_stray set k 16)) (accepted [])

-- the set names no views but the k that there are
abbrev pub RightSet : ℕ → ℕ → Type 0
RightSet set k = (a : ℕ) → a < 16 → Has set a → a < k

-- d is the lowest number in the set that is no view
pub record WrongSet (set k d : ℕ) : Type 0 where
  pub below : d < 16
  pub named : Has set d
  pub beyond : k ≤ d
  pub before : (a : ℕ) → a < d → Has set a → a < k

-- the set is judged beside the content of an accepted file, and what both offer is handed on
abbrev pub with_set : ℕ → List ℕ → (Offered → Outcome) → Outcome
with_set set cs k = judged (judge_set set (length (views_of cs))) (λ _. k (offers cs set))

-- "right after the catalogue is read": every call that takes a catalogue and matches its views judges it here, but for those for a day, which
-- judge the terms between
abbrev pub offered : Brought → (Offered → Outcome) → Outcome
offered c k = judged (read_catalogue c.file) (λ cs. with_set c.one_way cs k)

-- ---- inner: what the functions that judge promise

-- what a set is told, beside k views
abbrev pub SetJudged : ℕ → ℕ → Reply → Type 0
SetJudged set k (Ok n) = judge_set set k ≡ accepted []
SetJudged set k (Err x) = judge_set set k ≡ rejected (number_of x) (detail_of x)

-- a catalogue and its set were accepted: its k views, and the numbers of their edges
pub record OfferTaken (c : Brought) (k : ℕ) (counts : List ℕ) : Type 0 where
  pub fields : List ℕ
  pub is : read_catalogue c.file ≡ accepted fields
  pub holds : HoldsViews fields k counts
  pub named : judge_set c.one_way (length (views_of fields)) ≡ accepted []

-- or what every call refuses
abbrev pub OfferTo : Brought → Result CatalogueFile Refusal → Type 0
OfferTo c (Ok f) = OfferTaken c f.views f.edges
OfferTo c (Err x) = (f : Offered → Outcome) → offered c f ≡ refuse (number_of x) (detail_of x)
