-- Terms: the days on which each view is in force, and what is answered for a day.
use Rattle.std.specs.Prelude.{ℕ, zero, suc, ◌+◌, ◌^◌, ◌<◌, ◌≤◌, min, ◌≡◌, Option, Some, None, Result, Ok, Err, List, [], ◌∷◌, Bool, ◌&&◌, length, get_or, set, replicate, eqb, leb, ltb}
use Rattle.packed.specs.declared.reply.Refusal.{Refusal}
use Rattle.packed.specs.Format.{pick}
use Rattle.packed.specs.Contents.{views_of}
use Rattle.packed.specs.Calls.{Outcome, give, Verdict, accepted, rejected, judged, read_pattern, read_catalogue}
use Rattle.packed.specs.Refusals.{Told, told, number_of, detail_of}
use Rattle.packed.specs.Parts.{Reply}
use Rattle.matching.specs.Offered.{Brought, view_patterns, with_set}
use Rattle.containment.specs.Choice.{every_view}
use Rattle.containment.specs.Quote.{Quoted, quoted_in, covering, quote_for}
use Rattle.containment.specs.Cheapest.{cheapest_for}
use Rattle.containment.specs.Part.{part_for}
use Rattle.containment.specs.Show.{show_for}
use Rattle.containment.specs.declared.terms.Term.{Term}
use Rattle.containment.specs.declared.terms.Terms.{Terms}

-- ---- "a list of entries, each a from-day and a to-day, one per extract, as 16-bit day numbers", in plain numbers: its length, and the days of
-- the first sixteen entries

abbrev pub no_terms : ℕ → Terms
no_terms n = record { number = n; from = replicate 16 0; to = replicate 16 0 }

abbrev pub with_term : Terms → ℕ → Term → Terms
with_term t i e = record { number = t.number; from = set t.from i e.from; to = set t.to i e.to }

abbrev pub no_term : Term
no_term = record { from = 0; to = 0 }

-- the first i entries are noted
abbrev pub noted : List Term → ℕ → Terms
noted l zero = no_terms (length l)
noted l (suc i) = with_term (noted l i) i (get_or l i no_term)

abbrev pub spread_of : List Term → Terms
spread_of l = noted l (min (length l) 16)

-- the days of the entry a
abbrev pub from_day : Terms → ℕ → ℕ
from_day t a = get_or t.from a 0

abbrev pub to_day : Terms → ℕ → ℕ
to_day t a = get_or t.to a 0

-- "the from-day counts, the to-day doesn't": the view a is in force on a day
abbrev pub InForce : Terms → ℕ → ℕ → Type 0
InForce t day a = (from_day t a ≤ day) × (day < to_day t a)

-- ---- what is judged

-- the first of k entries whose from-day isn't below its to-day, or k
unfoldable pub first_turned : Terms → ℕ → ℕ
first_turned t zero = 0
first_turned t (suc k) = pick (ltb (first_turned t k) k) (first_turned t k) (pick (ltb (from_day t k) (to_day t k)) (suc k) k)

-- beside k views: "18 when the list's length is wrong or an entry's from-day isn't below its to-day, .., detail the number of entries, judged
-- first, or the first bad position"
unfoldable pub judge_terms : Terms → ℕ → Verdict
judge_terms t k = pick (eqb t.number k) (pick (ltb (first_turned t k) k) (rejected 18 (first_turned t k)) (accepted [])) (rejected 18 t.number)

-- "the from-day counts, the to-day doesn't"
unfoldable pub is_in_force : ℕ → ℕ → ℕ → Bool
is_in_force from to day = leb from day && ltb day to

-- those of the first k views that are in force on a day, as a set
unfoldable pub in_force : Terms → ℕ → ℕ → ℕ
in_force t day zero = 0
in_force t day (suc k) = in_force t day k + pick (is_in_force (from_day t k) (to_day t k) day) (2 ^ k) 0

-- "right after the catalogue is read": every call for a day judges what a client brings here, the question, the catalogue, the terms and then the set of
-- the views that are matched one-way; of the views those in force on the day may be used
abbrev pub offered_on : List ℕ → Brought → Terms → ℕ → (Quoted → Outcome) → Outcome
offered_on qs c t day k =
    judged (read_catalogue c.file) (λ cs.
    judged (judge_terms t (length (views_of cs))) (λ _.
    with_set c.one_way cs (λ o. k (quoted_in (in_force t day (length (view_patterns o))) qs o))))

abbrev pub quoted_on : List ℕ → Brought → Terms → ℕ → (Quoted → Outcome) → Outcome
quoted_on q c t day k = judged (read_pattern q) (λ qs. offered_on qs c t day k)

-- inner: for a day with its terms, or for none: then there are no terms to judge, and all views may be used
abbrev pub judge_day : Option (Terms × ℕ) → ℕ → Verdict
judge_day None k = accepted []
judge_day (Some d) k = judge_terms d.0 k

abbrev pub usable_for : Option (Terms × ℕ) → ℕ → ℕ
usable_for None k = every_view
usable_for (Some d) k = in_force d.0 d.1 k

abbrev pub offered_for : Option (Terms × ℕ) → List ℕ → Brought → (Quoted → Outcome) → Outcome
offered_for day qs c k =
    judged (read_catalogue c.file) (λ cs.
    judged (judge_day day (length (views_of cs))) (λ _.
    with_set c.one_way cs (λ o. k (quoted_in (usable_for day (length (view_patterns o))) qs o))))

abbrev pub quoted_for : Option (Terms × ℕ) → List ℕ → Brought → (Quoted → Outcome) → Outcome
quoted_for day q c k = judged (read_pattern q) (λ qs. offered_for day qs c k)

-- ---- what is answered for a day: "uses only extracts in force"

unfoldable pub quote_on : List ℕ → Brought → Terms → ℕ → Outcome
quote_on q c t day = quoted_on q c t day quote_for

unfoldable pub cheapest_on : List ℕ → Brought → Terms → ℕ → List ℕ → Outcome
cheapest_on q c t day charges = quoted_on q c t day (cheapest_for charges)

unfoldable pub part_on : List ℕ → Brought → Terms → ℕ → List ℕ → ℕ → ℕ → Outcome
part_on q c t day b room room' = quoted_on q c t day (part_for b room room')

unfoldable pub show_on : List ℕ → Brought → Terms → ℕ → ℕ → ℕ → Outcome
show_on q c t day room room' = quoted_on q c t day (show_for room room')

-- ---- "the first day not before a given day on which the question is covered, or none if there is no such day up to 65,535"

-- the day d, if it is not before the given day, is before the one found, and the test holds on it; else the one found
unfoldable pub sooner : (ℕ → Bool) → ℕ → ℕ → ℕ → ℕ
sooner covered day d found = pick (leb day d && (ltb d found && covered d)) d found

-- the first of the given day and k from-days on which the test holds, or the day after the last: coverage begins on a from-day alone
unfoldable pub earliest : (ℕ → Bool) → Terms → ℕ → ℕ → ℕ
earliest covered t day zero = sooner covered day day 65536
earliest covered t day (suc k) = sooner covered day (from_day t k) (earliest covered t day k)

-- whether the query is covered on a day
abbrev pub covered_on : Terms → Quoted → ℕ → Bool
covered_on t x day = covering x (in_force t day (length (view_patterns x.offer)))

-- by value: 1 and the day, or 0 and 0 for none
unfoldable pub day_values : ℕ → List ℕ
day_values d = pick (ltb d 65536) (1 ∷ d ∷ []) (0 ∷ 0 ∷ [])

unfoldable pub first_day_for : Terms → ℕ → Quoted → Outcome
first_day_for t day x = give (day_values (earliest (covered_on t x) t day (length (view_patterns x.offer)))) []

unfoldable pub first_day : List ℕ → Brought → Terms → ℕ → Outcome
first_day q c t day = quoted_on q c t day (first_day_for t day)

-- the day, if any, or the refusal
abbrev pub FirstDay : Type 0
FirstDay = Result (Option ℕ) Refusal

-- what its result tells
abbrev pub first_day_told : FirstDay → Told
first_day_told (Ok (Some d)) = told 0 (1 ∷ d ∷ [])
first_day_told (Ok None) = told 0 (0 ∷ 0 ∷ [])
first_day_told (Err x) = told (number_of x) (detail_of x ∷ [])

-- inner: what terms are told, beside k views
abbrev pub TermsJudged : Terms → ℕ → Reply → Type 0
TermsJudged t k (Ok n) = judge_terms t k ≡ accepted []
TermsJudged t k (Err x) = judge_terms t k ≡ rejected (number_of x) (detail_of x)

-- inner: the same of the terms of a day, if there is one
abbrev pub DayJudged : Option (Terms × ℕ) → ℕ → Reply → Type 0
DayJudged day k (Ok n) = judge_day day k ≡ accepted []
DayJudged day k (Err x) = judge_day day k ≡ rejected (number_of x) (detail_of x)
