-- The cheapest set of extracts: what the call gives, and when it refuses.
use Prim.Native.Nat.{ℕ, ◌+◌, ◌-◌, ◌^◌, ◌<◌, ◌≤◌}
use mathlib.Core.Path.{◌≡◌, sym, ap, ◌∙◌}
use mathlib.Core.Logic.{◌↔◌, inl, inr, ⊎_elim}
use mathlib.Core.Bool.{true, false}
use mathlib.Core.List.{List, [], ◌∷◌}
use lib.ListN.{length, get_or}
use native.Mathlib.Omega.{arith}
use borrow.Author.Tests.{eq-eqb, ne_eqb}
use Rattle.packed.specs.Contents.{edges_of}
use Rattle.packed.specs.Calls.{Outcome, give, refuse, with_workspace}
use Rattle.packed.proofs.OrderCases.{lt_or_ge, eq_or_ne}
use Rattle.engine.specs.Simulation.{bit, pattern_of}
use Rattle.matching.specs.Offered.{Brought, Offered, view_patterns}
use Rattle.engine.proofs.MaskBits.{few_lt}
use Rattle.containment.specs.Choice.{matches, covers_in}
use Rattle.containment.specs.Quote.{mapping, quoted_in}
use Rattle.containment.specs.Cheapest.{weigh, cost, Better, IsCheapest, cheapest, cheapest_from, cheapest_for}
use Rattle.answering.specs.Demands.{Question, Catalogue, Covers, Leaves, lacking_in, chosen_in, masks_in, When, usable_when, Timely, cheapest_when, Charged, cost_of, Among, CheapestIn, Cheapests}
use Rattle.containment.proofs.SetBits.{test_cases, never, bit_le, bit_lt, less_self, less_by}
use Rattle.containment.proofs.ChoiceLaws.{covers_say, covers_by, chosen_covers}
use Rattle.containment.proofs.ColumnLaws.{columns_miss, columns_agree, covers_same}
use Rattle.answering.proofs.QuoteLaws.{test_is}
use Rattle.containment.proofs.TriesLaws.{weigh_taken}
use Rattle.answering.proofs.CoveredBytes.{covered_in, few_views}
use Rattle.answering.proofs.DemandRules.{number_same, detail_same, not_refused, enough_words, enough_for, full_same, full_words, choice_among}
use Rattle.answering.proofs.WhenLaws.{goes_on_when, cheapest_by, full_when}
use Rattle.answering.proofs.DemandThree.{demand_3}
use Rattle.containment.proofs.CheapestLaws.{better_total, cheapest_covered}

-- by the extracts in a set
module _ (usable : ℕ) (qs : List ℕ) (cs : Offered) (charges : List ℕ) where
  abbrev number : ℕ
  number = length (view_patterns cs)

  abbrev whole : List ℕ
  whole = mapping (pattern_of qs) (view_patterns cs)

  abbrev masks : List ℕ
  masks = masks_in usable qs cs

  abbrev found : ℕ
  found = cheapest masks (edges_of qs) charges number

  -- ---- what is found by their masks
  module _ (few : number ≤ 16) where
    -- a set of them covers by these as by all masks
    covers-masked : (s : ℕ) → ((a : ℕ) → bit s a ≡ true → bit usable a ≡ true) → covers_in masks s number (edges_of qs) ≡ covers_in whole s number (edges_of qs)
    covers-masked s w = covers_same masks whole usable number (edges_of qs) (columns_agree usable whole number few (edges_of qs)) s w

    covers-among : (s : ℕ) → Among usable cs s → covers_in masks s number (edges_of qs) ≡ covers_in whole s number (edges_of qs)
    covers-among s f = covers-masked s (λ a h. (test_is _).1 (f a ((test_is _).0 h)).1)

    -- the cheapest set by these masks has none but extracts that may be used: without another it would cover too, and be better
    module _ (s : ℕ) (is : IsCheapest masks (edges_of qs) charges number s) where
      module _ (a : ℕ) (has : bit s a ≡ true) (out : bit usable a ≡ false) where
        below : a < number
        below = bit_lt s a number has is.small

        less-covers : covers_in masks (s - 2 ^ a) number (edges_of qs) ≡ true
        less-covers =
            covers_by masks (s - 2 ^ a) number (edges_of qs)
            (λ e l.
            let o = covers_say masks s number (edges_of qs) is.covers e l in
            let n : a ≡ o.at → ⊥ = λ z. never (sym o.holds.1 ∙ ap (matches masks e) (sym z) ∙ columns_miss usable whole e a (let b = below in omega arith) out) in
            record { at = o.at; below = o.below; holds = (less_by s a has o.at o.holds.0 n, o.holds.1) })

        lighter : (w : ℕ → ℕ) → weigh w s number ≡ weigh w (s - 2 ^ a) number + w a
        lighter w =
            let l = bit_le s a has in
            let back : s ≡ s - 2 ^ a + 2 ^ a = omega arith in
            ap (λ (x : ℕ). weigh w x number) back ∙ weigh_taken w (s - 2 ^ a) a (less_self s a has) number below

        less-better : Better charges number (s - 2 ^ a) s
        less-better =
            let x = lighter (λ b. get_or charges b 0) in
            let y = lighter (λ _. 1) in
            ⊎_elim
            (λ (l : cost charges (s - 2 ^ a) number < cost charges s number). inl l)
            (λ (l : cost charges s number ≤ cost charges (s - 2 ^ a) number). inr (omega arith, inl (omega arith)))
            (lt_or_ge (cost charges (s - 2 ^ a) number) (cost charges s number))

        outside : ⊥
        outside = let l = is.small in is.least (s - 2 ^ a) (omega arith) less-covers less-better

      cheapest-among : Among usable cs s
      cheapest-among a h =
          let y = (test_is _).1 h in
          ⊎_elim (λ u. (bit_lt s a number y is.small, (test_is _).0 u)) (λ n. absurd (outside a y n)) (test_cases (bit usable a))

      cheapest-in : CheapestIn usable qs cs charges s
      cheapest-in = record {
        among = cheapest-among;
        covers = sym (covers-among s cheapest-among) ∙ is.covers;
        least = λ other f h. is.least other (few_lt number other (λ a x. (f a x).0)) (covers-among other f ∙ h);
      }

    found_in : Covers usable qs cs → CheapestIn usable qs cs charges found
    found_in h = cheapest-in found (cheapest_covered masks (edges_of qs) charges number few usable (covers-masked usable (λ a y. y) ∙ h))

    -- one set at most is so
    one_in : (a b : ℕ) → CheapestIn usable qs cs charges a → CheapestIn usable qs cs charges b → a ≡ b
    one_in a b x y =
        ⊎_elim (λ p. absurd (y.least a x.among x.covers p)) (λ r. ⊎_elim (λ p. absurd (x.least b y.among y.covers p)) (λ e. e) r)
        (better_total charges number few a b (few_lt number a (λ i h. (x.among i h).0)) (few_lt number b (λ i h. (y.among i h).0)))

  -- no set that covers costs less
  least_in : (set other : ℕ) → CheapestIn usable qs cs charges set → Among usable cs other → Covers other qs cs → cost_of charges cs set ≤ cost_of charges cs other
  least_in set other x f h =
      ⊎_elim (λ (p : cost_of charges cs other < cost_of charges cs set). absurd (x.least other f h (inl p))) (λ p. p) (lt_or_ge (cost_of charges cs other) (cost_of charges cs set))

  -- ---- what the call goes on with
  given : Charged charges cs → Covers usable qs cs → cheapest_for charges (quoted_in usable qs cs) ≡ give (found ∷ cost_of charges cs found ∷ chosen_in usable qs cs ∷ []) []
  unfolding cheapest_for cheapest_from
  given n h = let e = eq-eqb (length charges) (length (view_patterns cs)) n in rw (e, h)

  lacks : Charged charges cs → Leaves usable qs cs → cheapest_for charges (quoted_in usable qs cs) ≡ refuse 11 (lacking_in usable qs cs)
  unfolding cheapest_for cheapest_from
  lacks n h = let e = eq-eqb (length charges) (length (view_patterns cs)) n in rw (e, h)

  wrong : (Charged charges cs → ⊥) → cheapest_for charges (quoted_in usable qs cs) ≡ refuse 15 (length charges)
  unfolding cheapest_for
  wrong n = let e = ne_eqb (length charges) (length (view_patterns cs)) n in rw e

  module _ (a : Outcome) (is : a ≡ cheapest_for charges (quoted_in usable qs cs)) (words e : ℕ) where
    wrong_exactly : (with_workspace words a ≡ refuse 15 e) ↔ ((16384 ≤ words) × (Charged charges cs → ⊥) × (e ≡ length charges))
    wrong_exactly = (
      λ x.
          let w = enough_for words a (λ z. let y = number_same z in omega arith) x in
          ⊎_elim
          (λ n. absurd (⊎_elim (λ h. not_refused (sym (is ∙ given n h) ∙ w.1)) (λ h. let y = number_same (sym (is ∙ lacks n h) ∙ w.1) in omega arith) (test_cases (covered_in usable qs cs))))
          (λ n. (w.0, n, sym (detail_same (sym (is ∙ wrong n) ∙ w.1))))
          (eq_or_ne (length charges) (length (view_patterns cs))),
      λ x. enough_words words _ x.0 ∙ is ∙ wrong x.1 ∙ ap (refuse 15) (sym x.2),
    )

    lacks-exactly : (with_workspace words a ≡ refuse 11 e) ↔ ((16384 ≤ words) × Charged charges cs × Leaves usable qs cs × (e ≡ lacking_in usable qs cs))
    lacks-exactly = (
      λ x.
          let w = enough_for words a (λ z. let y = number_same z in omega arith) x in
          ⊎_elim
          (λ n. ⊎_elim (λ h. absurd (not_refused (sym (is ∙ given n h) ∙ w.1))) (λ h. (w.0, n, h, sym (detail_same (sym (is ∙ lacks n h) ∙ w.1)))) (test_cases (covered_in usable qs cs)))
          (λ n. absurd (let y = number_same (sym (is ∙ wrong n) ∙ w.1) in omega arith))
          (eq_or_ne (length charges) (length (view_patterns cs))),
      λ x. enough_words words _ x.0 ∙ is ∙ lacks x.1 x.2 ∙ ap (refuse 11) (sym x.3),
    )

cheapest_goes_on : (w : When) (q : List ℕ) (c : Brought) (qs : List ℕ) (cs : Offered) (charges : List ℕ) → Question q qs → Catalogue c cs → Timely cs w → cheapest_when w q c charges ≡ cheapest_for charges (quoted_in (usable_when w cs) qs cs)
cheapest_goes_on w q c qs cs charges p d y = cheapest_by q c w charges ∙ goes_on_when w q c qs cs p d y (cheapest_for charges)

pub cheapests : Cheapests
cheapests = record {
  gives = λ w q c qs cs charges p d y n h words l. (
    found (usable_when w cs) qs cs charges,
    found_in (usable_when w cs) qs cs charges (few_views c cs d) h,
    enough_words words _ l ∙ cheapest_goes_on w q c qs cs charges p d y ∙ given (usable_when w cs) qs cs charges n h,
  );
  one = λ c qs cs charges d usable a b x y. one_in usable qs cs charges (few_views c cs d) a b x y;
  least = λ usable qs cs charges set other x f h. least_in usable qs cs charges set other x f h;
  chosen = λ usable qs cs charges set x h. least_in usable qs cs charges set (chosen_in usable qs cs) x (λ a t. choice_among usable qs cs a ((test_is _).1 t)) (chosen_covers (mapping (pattern_of qs) (view_patterns cs)) usable (edges_of qs) (length (view_patterns cs)) h);
  wrong_charges = λ w q c qs cs charges p d y words e. wrong_exactly (usable_when w cs) qs cs charges (cheapest_when w q c charges) (cheapest_goes_on w q c qs cs charges p d y) words e;
  refused = λ w q c qs cs charges p d y words e. lacks-exactly (usable_when w cs) qs cs charges (cheapest_when w q c charges) (cheapest_goes_on w q c qs cs charges p d y) words e;
  answers = λ way usable q c r qs cs rs charges p d f set x l room words. demand_3.covered_by way q c r qs cs rs p d f set x.covers l room words;
  only = λ w q c charges words f. let t = full_when w q c (cheapest_for charges) (full_same (cheapest_by q c w charges) (full_words words _ f)) in (t.0, t.1, t.2, t.3, t.4);
}
