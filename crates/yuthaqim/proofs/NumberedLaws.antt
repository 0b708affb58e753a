-- An answer in numbers tells what the answer told, so a call that hands it on settles the same.
use Prim.Native.Nat.{ℕ}
use mathlib.Core.Path.{◌≡◌, refl, sym, ap, ◌∙◌}
use mathlib.Core.List.{List, [], ◌∷◌}
use native.Mathlib.Omega.{arith}
use borrow.Author.Tests.{ne_eqb}
use Rattle.packed.specs.Refusals.{Told, told, number_of, detail_of}
use Rattle.packed.specs.Calls.{Outcome, Settled}
use Rattle.packed.specs.declared.reply.Refusal.{Refusal}
use Rattle.packed.proofs.RefusalNumbers.{refusal_numbered}
use Rattle.matching.specs.Enter.{Commits}
use Rattle.matching.specs.declared.state.State.{State}
use Rattle.matching.specs.declared.state.Slip.{Slip}
use Rattle.containment.specs.declared.quote_type.Coverage.{Coverage}
use Rattle.containment.specs.Quote.{CoverageReply, covered_of, quote_told}
use Rattle.containment.specs.declared.quote_type.Coverage.TheVariants as coverage-is
use Rattle.containment.specs.declared.quote_type.Quote.{Quote}
use Rattle.yuthaqim.specs.Numbered.{told_by, numbered_quote_told, numbered_both_told, numbered_several_told, numbered_cheapest_told, QuoteZeros, BothZeros, SeveralZeros, CheapestZeros, numbered_first_day_told, FirstDayZeros, numbered_asked_told, AskedZeros}
use Rattle.yuthaqim.specs.declared.numbered.NumberedQuote.{NumberedQuote}
use Rattle.std.specs.Prelude.{Ok, Err}

pub settled_as : {none : List ℕ} {a : Outcome} {r r' : Told} {outs outs' : List (List ℕ)} {work work' : List ℕ}
    → r' ≡ r → Settled none a r outs outs' work work' → Settled none a r' outs outs' work work'
settled_as e s = record { result = e ∙ s.result; outputs = s.outputs; workspace = s.workspace }

pub commits_as : {r : List ℕ} {s s' : State} {p : Slip} {t t' : Told} {out out' index index' work work' : List ℕ}
    → t' ≡ t → Commits r s p t s' out out' index index' work work' → Commits r s p t' s' out out' index index' work work'
commits_as e c = record { settled = settled_as e c.settled; state = c.state }

-- no refusal has the number of success
number_not_0 : (x : Refusal) → number_of x ≡ 0 → ⊥
number_not_0 x h = omega (arith, (refusal_numbered x).least)

refused_told : (x : Refusal) (done refused : List ℕ) → told_by (number_of x) done refused ≡ told (number_of x) refused
unfolding told_by
refused_told x done refused = rw (ne_eqb (number_of x) 0 (number_not_0 x))

-- a quote in numbers, by the coverage that the quote has
module _ (q : Quote) where
  quote_with : {x : CoverageReply} → q.coverage ≡ x → quote_told (record { coverage = x; mapping = q.mapping; edges = q.edges; chosen = q.chosen; lowest = q.lowest }) ≡ quote_told q
  quote_with e =
      sym (ap (λ (x : CoverageReply). quote_told (record { coverage = x; mapping = q.mapping; edges = q.edges; chosen = q.chosen; lowest = q.lowest })) e)

  abbrev pub in_numbers : ℕ → ℕ → ℕ → NumberedQuote
  in_numbers number detail covered =
      record { number = number; detail = detail; covered = covered; edges = q.edges; chosen = q.chosen; lowest = q.lowest; mapping = q.mapping }

  pub quote_given : (c : Coverage) {n : ℕ} → q.coverage ≡ Ok c → n ≡ covered_of (Ok c) → (numbered_quote_told (in_numbers 0 0 n) ≡ quote_told q) × QuoteZeros (in_numbers 0 0 n)
  unfolding numbered_quote_told told_by quote_told
  quote_given coverage-is.Covered e h = rw h (quote_with e, record { no_detail = λ z. refl })
  quote_given coverage-is.Uncovered e h = rw h (quote_with e, record { no_detail = λ z. refl })

  pub quote_refused : (x : Refusal) {n d : ℕ} → q.coverage ≡ Err x → n ≡ number_of x → d ≡ detail_of x
      → (numbered_quote_told (in_numbers n d 0) ≡ quote_told q) × QuoteZeros (in_numbers n d 0)
  unfolding numbered_quote_told quote_told
  quote_refused x e p r = (rw (p, r, refused_told) (quote_with e), record { no_detail = λ h. absurd (number_not_0 x (sym p ∙ h)) })

-- two outputs in numbers
pub both_done : (a b : ℕ) → (numbered_both_told (record { number = 0; detail = 0; first = a; second = b }) ≡ told 0 (a ∷ b ∷ []))
    × BothZeros (record { number = 0; detail = 0; first = a; second = b })
unfolding numbered_both_told told_by
both_done a b = (refl, record { no_detail = λ h. refl; no_first = λ n. absurd (n refl); no_second = λ n. absurd (n refl) })

pub both_refused : (x : Refusal) {n d : ℕ} → n ≡ number_of x → d ≡ detail_of x
    → (numbered_both_told (record { number = n; detail = d; first = 0; second = 0 }) ≡ told (number_of x) (detail_of x ∷ []))
    × BothZeros (record { number = n; detail = d; first = 0; second = 0 })
unfolding numbered_both_told
both_refused x p r = (rw (p, r, refused_told), record { no_detail = λ h. absurd (number_not_0 x (sym p ∙ h)); no_first = λ n. refl; no_second = λ n. refl })

-- several answers in numbers
pub several_done : (a b : ℕ) → (numbered_several_told (record { number = 0; detail = 0; bytes = a; sheets = b }) ≡ told 0 (a ∷ b ∷ []))
    × SeveralZeros (record { number = 0; detail = 0; bytes = a; sheets = b })
unfolding numbered_several_told told_by
several_done a b = (refl, record { no_detail = λ h. refl; no_bytes = λ n. absurd (n refl); no_sheets = λ n. absurd (n refl) })

pub several_refused : (x : Refusal) {n d : ℕ} → n ≡ number_of x → d ≡ detail_of x
    → (numbered_several_told (record { number = n; detail = d; bytes = 0; sheets = 0 }) ≡ told (number_of x) (detail_of x ∷ []))
    × SeveralZeros (record { number = n; detail = d; bytes = 0; sheets = 0 })
unfolding numbered_several_told
several_refused x p r =
    (rw (p, r, refused_told), record { no_detail = λ h. absurd (number_not_0 x (sym p ∙ h)); no_bytes = λ n. refl; no_sheets = λ n. refl })

-- a cheapest set in numbers
pub cheapest_done : (set sum chosen : ℕ) → (numbered_cheapest_told (record { number = 0; detail = 0; sum = sum; set = set; chosen = chosen }) ≡ told 0 (set ∷ sum ∷ chosen ∷ []))
    × CheapestZeros (record { number = 0; detail = 0; sum = sum; set = set; chosen = chosen })
unfolding numbered_cheapest_told told_by
cheapest_done set sum chosen =
    (refl, record { no_detail = λ h. refl; no_sum = λ n. absurd (n refl); no_set = λ n. absurd (n refl); no_chosen = λ n. absurd (n refl) })

pub cheapest_refused : (x : Refusal) {n d : ℕ} → n ≡ number_of x → d ≡ detail_of x
    → (numbered_cheapest_told (record { number = n; detail = d; sum = 0; set = 0; chosen = 0 }) ≡ told (number_of x) (detail_of x ∷ []))
    × CheapestZeros (record { number = n; detail = d; sum = 0; set = 0; chosen = 0 })
unfolding numbered_cheapest_told
cheapest_refused x p r =
    (rw (p, r, refused_told), record { no_detail = λ h. absurd (number_not_0 x (sym p ∙ h)); no_sum = λ n. refl; no_set = λ n. refl; no_chosen = λ n. refl })

-- a first day in numbers, or none
pub day_done : (found day : ℕ) → (numbered_first_day_told (record { number = 0; detail = 0; found = found; day = day }) ≡ told 0 (found ∷ day ∷ []))
    × FirstDayZeros (record { number = 0; detail = 0; found = found; day = day })
unfolding numbered_first_day_told told_by
day_done found day = (refl, record { no_detail = λ h. refl; no_found = λ n. absurd (n refl); no_day = λ n. absurd (n refl) })

pub day_refused : (x : Refusal) {n d : ℕ} → n ≡ number_of x → d ≡ detail_of x
    → (numbered_first_day_told (record { number = n; detail = d; found = 0; day = 0 }) ≡ told (number_of x) (detail_of x ∷ []))
    × FirstDayZeros (record { number = n; detail = d; found = 0; day = 0 })
unfolding numbered_first_day_told
day_refused x p r = (rw (p, r, refused_told), record { no_detail = λ h. absurd (number_not_0 x (sym p ∙ h)); no_found = λ n. refl; no_day = λ n. refl })

-- a set and a slip in numbers
pub asked_done : (set : ℕ) (p : Slip) → (numbered_asked_told (record { number = 0; detail = 0; set = set; slip = p }) ≡ told 0 (set ∷ p.from ∷ p.to ∷ p.kind ∷ p.change ∷ []))
    × AskedZeros (record { number = 0; detail = 0; set = set; slip = p })
unfolding numbered_asked_told told_by
asked_done set p = (refl, record { no_detail = λ h. refl; no_set = λ n. absurd (n refl); no_slip_lem = λ n. absurd (n refl) })

abbrev no_slip : Slip
no_slip = record { from = 0; to = 0; kind = 0; change = 0 }

pub asked_refused : (x : Refusal) {n d : ℕ} → n ≡ number_of x → d ≡ detail_of x
    → (numbered_asked_told (record { number = n; detail = d; set = 0; slip = no_slip }) ≡ told (number_of x) (detail_of x ∷ []))
    × AskedZeros (record { number = n; detail = d; set = 0; slip = no_slip })
unfolding numbered_asked_told
asked_refused x p r = (rw (p, r, refused_told), record { no_detail = λ h. absurd (number_not_0 x (sym p ∙ h)); no_set = λ n. refl; no_slip_lem = λ n. refl })
