-- What holds of the listing: how that of an uncovered question goes, what the call that writes a line settles, and how long a line gets.
use Prim.Native.Nat.{ℕ, ◌+◌, ◌-◌, ◌<◌, ◌≤◌}
use mathlib.Core.Path.{◌≡◌, refl, sym, ap, ◌∙◌}
use mathlib.Core.List.{List, [], ◌∷◌, ◌++◌}
use lib.ListN.{length, get_or, drop, length-append}
use native.Mathlib.Omega.{arith}
use borrow.Author.Tests.{lt-ltb, le-ltb}
use Rattle.packed.specs.Contents.{edges_of}
use Rattle.packed.specs.Refusals.{Told, told, number_of}
use Rattle.packed.specs.Calls.{give, told_of, fronts, outputs_of, fit, Settled, FulfilsOne, with_workspace}
use Rattle.packed.proofs.RefusalNumbers.{refusal_numbered}
use Rattle.engine.specs.Simulation.{pattern_of}
use Rattle.matching.specs.Offered.{Brought, Offered, view_patterns}
use Rattle.containment.specs.Quote.{CoverageReply, quoted_in, QuoteValues, flat, blank, one, mapping, values_from, quote_values, quote_for, quote_told}
use Rattle.containment.specs.Listing.{lines_after, chosen_line, line_of, line_outcome}
use Rattle.answering.specs.Demands.{Question, Catalogue, Leaves, masks_in, When, usable_when, Timely, quote_when, UncoveredListing, Listings}
use Rattle.containment.specs.declared.quote_type.Coverage.TheVariants as coverage-is
use Rattle.containment.specs.declared.quote_type.Quote.{Quote}
use Rattle.containment.proofs.ChoiceLaws.{chosen_none}
use Rattle.containment.proofs.ListingLaws.{line_first, line_beyond, line_last, line_link, line_length}
use Rattle.answering.proofs.WhenLaws.{goes_on_when, quote_by}
use Rattle.std.specs.Prelude.{Ok, Err}

-- ---- a quote's values stand in what it tells

-- two lists that end in equally many values
ends_same : (a b : List ℕ) {x y : List ℕ} → length x ≡ length y → a ++ x ≡ b ++ y → (a ≡ b) × (x ≡ y)
ends_same [] [] n e = (refl, e)
ends_same [] (v ∷ b) {x} {y} n e = absurd (omega (arith, ap length e, length-append b y))
ends_same (u ∷ a) [] {x} {y} n e = absurd (omega (arith, ap length e, length-append a x))
ends_same (u ∷ a) (v ∷ b) n e = let r = ends_same a b n (ap (drop 1) e) in (rw (ap (λ (l : List ℕ). get_or l 0 0) e, r.0), r.1)

-- a quote r that tells the values v of an uncovered question
record Tells (r : Quote) (v : QuoteValues) : Type 0 where
  pub coverage : r.coverage ≡ Ok coverage-is.Uncovered
  pub mapping : r.mapping ≡ v.mapping
  pub edges : r.edges ≡ v.edges
  pub chosen : r.chosen ≡ v.chosen

module _ (v : QuoteValues) (none : v.covered ≡ 0) where
  told_by : (x : CoverageReply) (t : List ℕ) (m set e : ℕ) → quote_told (record { coverage = x; mapping = t; edges = m; chosen = set; lowest = e }) ≡ told 0 (flat v)
      → Tells (record { coverage = x; mapping = t; edges = m; chosen = set; lowest = e }) v
  unfolding quote_told flat
  told_by (Ok coverage-is.Covered) t m set e h = absurd (let z : ◌≡◌ {A = ℕ} 1 0 = cc in omega arith)
  told_by (Ok coverage-is.Uncovered) t m set e h =
      let l : t ++ (m ∷ set ∷ e ∷ []) ≡ v.mapping ++ (v.edges ∷ v.chosen ∷ v.lowest ∷ []) = cc in
      let s = ends_same t v.mapping refl l in
      record { coverage = refl; mapping = s.0; edges = ap (λ (y : List ℕ). get_or y 0 0) s.1; chosen = ap (λ (y : List ℕ). get_or y 1 0) s.1 }
  told_by (Err x) t m set e h = absurd (let n = (refusal_numbered x).least in let z : number_of x ≡ 0 = cc in omega arith)

-- ---- the listing
module _ (w : When) (q : List ℕ) (c : Brought) (qs : List ℕ) (cs : Offered) (eq : Question q qs) (ec : Catalogue c cs) (y : Timely cs w) (no : Leaves (usable_when w cs) qs cs) (r : Quote) where
  abbrev values : QuoteValues
  values = quote_values (quoted_in (usable_when w cs) qs cs)

  given : quote_when w q c ≡ give (flat values) []
  unfolding quote_for
  given = quote_by q c w ∙ goes_on_when w q c qs cs eq ec y quote_for

  tells : {work work' : List ℕ} → 16384 ≤ length work → Settled blank (with_workspace (length work) (quote_when w q c)) (quote_told r) [] [] work work' → Tells r values
  unfolding with_workspace told_of quote_values values_from
  tells {work} l s =
      let none : values.covered ≡ 0 = ap one no in
      let h : quote_told r ≡ told 0 (flat values) = s.result ∙ rw (le-ltb (length work) 16384 l, given) in
      told_by values none r.coverage r.mapping r.edges r.chosen r.lowest h

  listing : Tells r values → UncoveredListing r (masks_in (usable_when w cs) qs cs) (edges_of qs)
  unfolding quote_values values_from chosen_line
  listing t =
      let t' = mapping (pattern_of qs) (view_patterns cs) in
      let k = length (view_patterns cs) in
      let last : lines_after r ≡ edges_of qs + 1 = rw t.coverage (ap (λ (m : ℕ). m + 1) t.edges) in
      let none : r.chosen ≡ 0 = t.chosen ∙ chosen_none t' (usable_when w cs) _ k no in
      record {
        first = line_first r 0 refl ∙ rw t.coverage;
        links = λ e h. let n : e + 1 - 1 ≡ e = omega arith in line_link r (e + 1) (λ z. omega arith) (omega arith) ∙ rw (t.mapping, n);
        last = line_last r (edges_of qs + 1) (λ z. omega arith) (sym last) ∙ rw none;
        nothing_after = λ j h. line_beyond r j (λ z. omega arith) (omega arith);
      }

-- ---- the call
module _ (q : Quote) (k : ℕ) (r : Told) (out out' : List ℕ) (a : FulfilsOne (line_outcome q k (length out)) r out out') where
  refuses : length out < length (line_of q k) → (r ≡ told 12 (length (line_of q k) ∷ [])) × (out' ≡ out)
  unfolding line_outcome fit told_of outputs_of
  refuses h =
      let e = lt-ltb (length out) (length (line_of q k)) h in
      let o : out' ∷ [] ≡ out ∷ [] = a.outputs ∙ rw e in
      (a.result ∙ rw e, cc)

  writes : length (line_of q k) ≤ length out → (r ≡ told 0 (length (line_of q k) ∷ [])) × (out' ≡ line_of q k ++ drop (length (line_of q k)) out)
  unfolding line_outcome fit told_of outputs_of fronts
  writes h =
      let e = le-ltb (length out) (length (line_of q k)) h in
      let o : out' ∷ [] ≡ (line_of q k ++ drop (length (line_of q k)) out) ∷ [] = a.outputs ∙ rw e in
      (a.result ∙ rw e, cc)

pub listings : Listings
listings = record {
  uncovered = λ w q c qs cs work work' eq ec y no r l s. listing w q c qs cs eq ec y no r (tells w q c qs cs eq ec y no r l s);
  refuses = refuses;
  writes = writes;
  longest = line_length;
}
