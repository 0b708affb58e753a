-- What an answer in numbers tells, and which of its fields are zero because they have no meaning.
use Rattle.std.specs.Prelude.{ℕ, ◌≡◌, List, [], ◌∷◌, eqb}
use Rattle.packed.specs.Format.{pick}
use Rattle.packed.specs.Refusals.{Told, told}
use Rattle.matching.specs.declared.state.Slip.{Slip}
use Rattle.containment.specs.Quote.{QuoteValues, flat}
use Rattle.yuthaqim.specs.declared.numbered.NumberedReply.{NumberedReply}
use Rattle.yuthaqim.specs.declared.numbered.NumberedQuote.{NumberedQuote}
use Rattle.yuthaqim.specs.declared.numbered.NumberedBoth.{NumberedBoth}
use Rattle.yuthaqim.specs.declared.numbered.NumberedSeveral.{NumberedSeveral}
use Rattle.yuthaqim.specs.declared.numbered.NumberedCheapest.{NumberedCheapest}
use Rattle.yuthaqim.specs.declared.numbered.NumberedFirstDay.{NumberedFirstDay}
use Rattle.yuthaqim.specs.declared.numbered.NumberedAsked.{NumberedAsked}

-- the values of success, or those of a refusal
unfoldable pub told_by : ℕ → List ℕ → List ℕ → Told
told_by number done refused = pick (eqb number 0) (told 0 done) (told number refused)

unfoldable pub numbered_reply_told : NumberedReply → Told
numbered_reply_told r = told r.number (r.value ∷ [])

-- a quote's values are told on a refusal too: there `blank` says of each that it is zero
abbrev pub numbered_values : NumberedQuote → QuoteValues
numbered_values q = record { covered = q.covered; mapping = q.mapping; edges = q.edges; chosen = q.chosen; lowest = q.lowest }

unfoldable pub numbered_quote_told : NumberedQuote → Told
numbered_quote_told q = told_by q.number (flat (numbered_values q)) (q.detail ∷ flat (numbered_values q))

unfoldable pub numbered_both_told : NumberedBoth → Told
numbered_both_told b = told_by b.number (b.first ∷ b.second ∷ []) (b.detail ∷ [])

unfoldable pub numbered_several_told : NumberedSeveral → Told
numbered_several_told s = told_by s.number (s.bytes ∷ s.sheets ∷ []) (s.detail ∷ [])

unfoldable pub numbered_cheapest_told : NumberedCheapest → Told
numbered_cheapest_told c = told_by c.number (c.set ∷ c.sum ∷ c.chosen ∷ []) (c.detail ∷ [])

unfoldable pub numbered_first_day_told : NumberedFirstDay → Told
numbered_first_day_told d = told_by d.number (d.found ∷ d.day ∷ []) (d.detail ∷ [])

abbrev slip_values : Slip → List ℕ
slip_values p = p.from ∷ p.to ∷ p.kind ∷ p.change ∷ []

unfoldable pub numbered_asked_told : NumberedAsked → Told
numbered_asked_told a = told_by a.number (a.set ∷ slip_values a.slip) (a.detail ∷ [])

-- what is not told: a quote has no detail
pub record QuoteZeros (q : NumberedQuote) : Type 0 where
  pub no_detail : q.number ≡ 0 → q.detail ≡ 0

-- two outputs have no detail, and a refusal has no lengths
pub record BothZeros (b : NumberedBoth) : Type 0 where
  pub no_detail : b.number ≡ 0 → b.detail ≡ 0
  pub no_first : (b.number ≡ 0 → ⊥) → b.first ≡ 0
  pub no_second : (b.number ≡ 0 → ⊥) → b.second ≡ 0

-- several answers have no detail, and a refusal has no bytes and no sheets
pub record SeveralZeros (s : NumberedSeveral) : Type 0 where
  pub no_detail : s.number ≡ 0 → s.detail ≡ 0
  pub no_bytes : (s.number ≡ 0 → ⊥) → s.bytes ≡ 0
  pub no_sheets : (s.number ≡ 0 → ⊥) → s.sheets ≡ 0

-- a cheapest set has no detail, and a refusal has no set and no sum
pub record CheapestZeros (c : NumberedCheapest) : Type 0 where
  pub no_detail : c.number ≡ 0 → c.detail ≡ 0
  pub no_sum : (c.number ≡ 0 → ⊥) → c.sum ≡ 0
  pub no_set : (c.number ≡ 0 → ⊥) → c.set ≡ 0
  pub no_chosen : (c.number ≡ 0 → ⊥) → c.chosen ≡ 0

-- a first day, or none, has no detail, and a refusal has no day
pub record FirstDayZeros (d : NumberedFirstDay) : Type 0 where
  pub no_detail : d.number ≡ 0 → d.detail ≡ 0
  pub no_found : (d.number ≡ 0 → ⊥) → d.found ≡ 0
  pub no_day : (d.number ≡ 0 → ⊥) → d.day ≡ 0

-- a slip has no detail, and a refusal has no set and no slip
pub record AskedZeros (a : NumberedAsked) : Type 0 where
  pub no_detail : a.number ≡ 0 → a.detail ≡ 0
  pub no_set : (a.number ≡ 0 → ⊥) → a.set ≡ 0
  pub no_slip_lem : (a.number ≡ 0 → ⊥) → a.slip ≡ record { from = 0; to = 0; kind = 0; change = 0 }
