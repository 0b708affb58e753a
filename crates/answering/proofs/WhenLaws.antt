-- Calls by all views or for a day: what is judged of terms, what a call goes on with, and what it refuses.
use Prim.Native.Nat.{ℕ, ◌<◌, ◌≤◌}
use mathlib.Core.Path.{◌≡◌, refl, sym, ap, subst, ◌∙◌}
use mathlib.Core.Bool.{Bool, true, false, ◌||◌}
use mathlib.Core.Logic.{◌⊎◌, inl, inr, ◌↔◌, ⊎_elim}
use mathlib.Core.List.{List, []}
use lib.ListN.{length}
use lib.Dec.{ltb, eqb}
use native.Mathlib.Omega.{arith}
use Rattle.packed.specs.Format.{Format, pick}
use Rattle.packed.specs.Contents.{views_of, edge_counts}
use Rattle.packed.specs.Calls.{Outcome, give, refuse, with_workspace, Verdict, rejected, read_file, judged, read_pattern, read_catalogue, read_book, pairs_of, within_pairs_by, fit_file, fit_both}
use Rattle.packed.proofs.OrderCases.{lt_or_ge, eq_or_ne}
use Rattle.engine.specs.Lists.{some}
use Rattle.engine.specs.Simulation.{pattern_of}
use Rattle.matching.specs.Join.{matched}
use Rattle.matching.specs.Search.{book_for, make_book_outcome}
use Rattle.matching.specs.Offered.{Brought, Offered, offers, view_patterns, judge_set, with_set, offered}
use Rattle.matching.proofs.OfferedLaws.{Judges, judged_right, judged_wrong, set_judges, judged_rejected}
use Rattle.containment.specs.Quote.{Quoted, quoted_in, quoted_by, quoted, usable_views, covering, used_by, quote_for, quote_outcome}
use Rattle.containment.specs.Answer.{Choose, answer_in, answer_for, answer_by}
use Rattle.containment.specs.Cheapest.{cheapest_from, cheapest_for, cheapest_outcome}
use Rattle.containment.specs.Part.{part_quoted, fit_part, part_for, part_outcome}
use Rattle.containment.specs.Show.{show_for, show_outcome}
use Rattle.containment.specs.Terms.{first_turned, judge_terms, offered_on, quoted_on, quote_on, cheapest_on, part_on, show_on, first_day_for, first_day}
use Rattle.containment.specs.declared.terms.Terms.{Terms}
use Rattle.answering.specs.Demands.{Question, CataloguePaper, Catalogue, force_of, RightTerms, WrongTerms, When, always, on, usable_when, RightWhen, Timely, any_time, right, quote_when, cheapest_when, part_when, show_when, Full, Files, no_more, first, files_when, then_none, Refuses18, Refuses19}
use Rattle.containment.proofs.TermsLaws.{turned_is, turned_by, terms_number, terms_turned, terms_right}
use Rattle.answering.proofs.Numbered.{Faults, pattern_faults, record_faults, book_faults, read_few, catalogue_few}
use Rattle.answering.proofs.CoveredBytes.{set_goes_on, offered_goes_on}
use Rattle.answering.proofs.DemandRules.{number_same, detail_same, not_refused, goes_on, enough_words, enough_for, full_judged, full_twice, full_set, full_offered, refused_judged}
use Rattle.answering.proofs.DemandFiles.{Says, says_judged, says_late, says_either, first_refused, says_fit_part, says_within_pairs, says_answer, says_set, says_quoted}

-- ---- what is judged of terms: they are right, or 18 falls to them
pub terms_judges : (t : Terms) (k : ℕ) → Judges 18 (judge_terms t k) (RightTerms t k) (WrongTerms t k)
terms_judges t k =
    let f = first_turned t k in
    let i = turned_is t k in
    record {
      either = ⊎_elim
          (λ n. ⊎_elim
          (λ (l : f < k). inr (f, inr (record { number = n; below = l; bad = i.here l; before = i.lower })))
          (λ (l : k ≤ f). inl (record { number = n; ordered = λ a h. i.lower a (omega arith) }))
          (lt_or_ge f k))
          (λ n. inr (t.number, inl (n, refl)))
          (eq_or_ne t.number k);
      right = λ r. terms_right t k r.number (⊎_elim (λ (l : f < k). absurd (i.here l (r.ordered f l))) (λ l. l) (lt_or_ge f k));
      wrong = λ d. ⊎_elim
          (λ x. terms_number t k x.0 ∙ ap (rejected 18) (sym x.1))
          (λ x.
          let b = x.below in
          let e : d ≡ f = turned_by t k d (record { within = omega arith; lower = x.before; here = λ _. x.bad }) in
          terms_turned t k x.number (omega arith) ∙ ap (rejected 18) (sym e));
    }

-- ---- what a call goes on with
abbrev pub by_when : When → List ℕ → Brought → (Quoted → Outcome) → Outcome
by_when always q c k = quoted q c k
by_when (on t day) q c k = quoted_on q c t day k

-- with the extracts in force on a day
abbrev for_day : Terms → ℕ → List ℕ → Offered → Quoted
for_day t day qs o = quoted_in (force_of t day o) qs o

pub goes_on_when : (w : When) (q : List ℕ) (c : Brought) (qs : List ℕ) (cs : Offered) → Question q qs → Catalogue c cs → Timely cs w → (k : Quoted → Outcome) → by_when w q c k ≡ k (quoted_in (usable_when w cs) qs cs)
goes_on_when always q c qs cs p d y k = goes_on _ p ∙ offered_goes_on c cs d (λ o. k (quoted_by qs o))
goes_on_when (on t day) q c qs cs p d (right r) k =
    goes_on _ p ∙ goes_on _ d.paper ∙ goes_on _ ((terms_judges t (length (views_of cs.content))).right r) ∙ set_goes_on c cs d (λ o. k (for_day t day qs o))

module _ (q : List ℕ) (c : Brought) where
  pub quote_by : (w : When) → quote_when w q c ≡ by_when w q c quote_for
  unfolding quote_outcome quote_on
  quote_by always = refl
  quote_by (on t day) = refl

  pub cheapest_by : (w : When) (charges : List ℕ) → cheapest_when w q c charges ≡ by_when w q c (cheapest_for charges)
  unfolding cheapest_outcome cheapest_on
  cheapest_by always charges = refl
  cheapest_by (on t day) charges = refl

  pub part_by : (w : When) (b : List ℕ) (room room' : ℕ) → part_when w q c b room room' ≡ by_when w q c (part_for b room room')
  unfolding part_outcome part_on
  part_by always b room room' = refl
  part_by (on t day) b room room' = refl

  pub show_by : (w : When) (room room' : ℕ) → show_when w q c room room' ≡ by_when w q c (show_for room room')
  unfolding show_outcome show_on
  show_by always room room' = refl
  show_by (on t day) room room' = refl

pub show_goes_on : (w : When) (q : List ℕ) (c : Brought) (qs : List ℕ) (cs : Offered) → Question q qs → Catalogue c cs → Timely cs w → (room room' : ℕ)
    → show_when w q c room room' ≡ show_for room room' (quoted_in (usable_when w cs) qs cs)
show_goes_on w q c qs cs p d y room room' = show_by q c w room room' ∙ goes_on_when w q c qs cs p d y (show_for room room')

-- a full result comes of accepted files, and of right terms
pub full_when : (w : When) (q : List ℕ) (c : Brought) (k : Quoted → Outcome) → Full (by_when w q c k)
    → (qs : List ℕ) × (cs : Offered) × Question q qs × Catalogue c cs × Timely cs w × Full (k (quoted_in (usable_when w cs) qs cs))
full_when always q c k f =
    let x = full_judged _ _ f in
    let y = full_offered c (λ o. k (quoted_by x.0 o)) x.2 in
    (x.0, y.0, x.1, y.1, any_time, y.2)
full_when (on t day) q c k f =
    let x = full_twice _ _ _ f in
    let y = full_judged _ _ x.4 in
    let z = full_set c x.1 x.3 (λ o. k (for_day t day x.0 o)) y.2 in
    (x.0, offers x.1 c.one_way, x.2, z.0, right (judged_right (terms_judges t (length (views_of x.1))) y.1), z.1)

-- ---- what is refused first: 1 to 9 by the files, 18 by the terms and 19 by the set among them
pub says_when : (w : When) (q : List ℕ) (c : Brought) (next : List ℕ → Files) (k : Quoted → Outcome) → ((x : Quoted) → Says (next x.offer.content) (k x)) → Says (files_when w q c next) (by_when w q c k)
says_when always q c next k h = says_quoted q c k (λ qs cs. h (quoted_by qs cs))
says_when (on t day) q c next k h =
    says_judged (read_pattern q) (λ qs _.
    says_judged (read_catalogue c.file) (λ cs _.
    says_judged (judge_terms t (length (views_of cs))) (λ _ _.
    says_set c.one_way cs next (λ o. k (for_day t day qs o)) (h (for_day t day qs (offers cs c.one_way))))))

pub says_part : (b : List ℕ) (room room' : ℕ) (x : Quoted) → Says (first (read_book x.offer.content b) then_none) (part_for b room room' x)
unfolding part_for answer_for
says_part b room room' x =
    says_judged (read_book x.offer.content b) (λ bs k.
    says_within_pairs (edge_counts x.offer.content) bs
    (says_either (some (matched (pattern_of x.content) (usable_views x)) (pattern_of x.content).edges)
    (says_fit_part room _ (subst (Says no_more) (sym (goes_on _ k)) (says_answer (used_by (part_quoted x)) (part_quoted x) bs room')))
    (says_late 11 0 (omega arith))))

module _ (c : Brought) (k : Offered → Outcome) {n d : ℕ} where
  refused_set : (ws : List ℕ) → with_set c.one_way ws k ≡ refuse n d → (18 ≤ n) ⊎ ((o : Offered) × (k o ≡ refuse n d))
  refused_set ws e =
      ⊎_elim
      (λ r. inl (let z = judged_wrong (set_judges c.one_way (length (views_of ws))) r in omega arith))
      (λ x. inr (offers ws c.one_way, x.2))
      (refused_judged (judge_set c.one_way (length (views_of ws))) _ e)

  pub refused_offered : offered c k ≡ refuse n d → (n ≤ 9) ⊎ ((18 ≤ n) ⊎ ((o : Offered) × (k o ≡ refuse n d)))
  refused_offered e = ⊎_elim (λ r. inl (catalogue_few c.file r)) (λ x. inr (refused_set x.0 x.2)) (refused_judged (read_catalogue c.file) _ e)

pub refused_when : (w : When) (q : List ℕ) (c : Brought) (k : Quoted → Outcome) {n d : ℕ} → by_when w q c k ≡ refuse n d → (n ≤ 9) ⊎ ((18 ≤ n) ⊎ ((x : Quoted) × (k x ≡ refuse n d)))
refused_when w q c k {n} {d} e = ⊎_elim (λ r. inl (read_few 56 1 pattern_faults q r)) (λ x. by w x.0 x.2) (refused_judged (read_pattern q) _ (opened w e))
  where
    after : When → List ℕ → Outcome
    after always qs = offered c (λ o. k (quoted_by qs o))
    after (on t day) qs = offered_on qs c t day k

    opened : (w : When) → by_when w q c k ≡ refuse n d → judged (read_pattern q) (after w) ≡ refuse n d
    opened always e = e
    opened (on t day) e = e

    handed : (f : Offered → Quoted) → (18 ≤ n) ⊎ ((o : Offered) × (k (f o) ≡ refuse n d)) → (n ≤ 9) ⊎ ((18 ≤ n) ⊎ ((x : Quoted) × (k x ≡ refuse n d)))
    handed f r = inr (⊎_elim inl (λ x. inr (f x.0, x.1)) r)

    by : (w : When) (qs : List ℕ) → after w qs ≡ refuse n d → (n ≤ 9) ⊎ ((18 ≤ n) ⊎ ((x : Quoted) × (k x ≡ refuse n d)))
    by always qs e = ⊎_elim inl (handed (λ o. quoted_by qs o)) (refused_offered c (λ o. k (quoted_by qs o)) e)
    by (on t day) qs e =
        ⊎_elim
        (λ r. inl (catalogue_few c.file r))
        (λ x. ⊎_elim
        (λ r. inr (inl (let z = judged_wrong (terms_judges t (length (views_of x.0))) r in omega arith)))
        (λ y. handed (for_day t day qs) (refused_set c (λ o. k (for_day t day qs o)) x.0 y.2))
        (refused_judged (judge_terms t (length (views_of x.0))) _ x.2))
        (refused_judged (read_catalogue c.file) _ e)

-- ---- 18 and 19, exactly: what a call goes on with refuses with lower numbers alone
abbrev pub Lower : Outcome → Type 0
Lower a = (n d : ℕ) → a ≡ refuse n d → n ≤ 16

pub lower_give : (vs : List ℕ) (outs : List (List ℕ)) → Lower (give vs outs)
lower_give vs outs n d e = absurd (not_refused e)

pub lower_by : (m c : ℕ) → m ≤ 16 → Lower (refuse m c)
lower_by m c l n d e = let z = number_same e in omega arith

pub lower_either : (t : Bool) {a b : Outcome} → Lower a → Lower b → Lower (pick t a b)
lower_either true x y = x
lower_either false x y = y

pub lower_read : (most file : ℕ) {F : Format} → Faults F → (s : List ℕ) {k : List ℕ → Outcome} → ((ws : List ℕ) → Lower (k ws)) → Lower (judged (read_file most file F s) k)
lower_read most file {F} f s h n d e = ⊎_elim (λ r. let l = read_few most file f s r in omega arith) (λ x. h x.0 n d x.2) (refused_judged (read_file most file F s) _ e)

pub lower_pairs : (ms ws : List ℕ) {a : Outcome} → Lower a → Lower (within_pairs_by ms ws a)
unfolding within_pairs_by
lower_pairs ms ws h = lower_either (ltb 8192 (length (pairs_of ms ws))) (lower_by 10 _ (omega arith)) h

lower_file : (room : ℕ) (o : List ℕ) → Lower (fit_file room o)
unfolding fit_file
lower_file room o = lower_either (ltb room (length o) || ltb 65536 (length o)) (lower_by 12 _ (omega arith)) (lower_give _ _)

lower_quote : (x : Quoted) → Lower (quote_for x)
unfolding quote_for
lower_quote x = lower_give _ _

lower_first_day : (t : Terms) (day : ℕ) (x : Quoted) → Lower (first_day_for t day x)
unfolding first_day_for
lower_first_day t day x = lower_give _ _

lower_cheapest : (charges : List ℕ) (x : Quoted) → Lower (cheapest_for charges x)
unfolding cheapest_for cheapest_from
lower_cheapest charges x =
    lower_either (eqb (length charges) (length (view_patterns x.offer))) (lower_either (covering x x.usable) (lower_give _ _) (lower_by 11 _ (omega arith))) (lower_by 15 _ (omega arith))

pub lower_both : (room room' : ℕ) (o o' : List ℕ) → Lower (fit_both room room' o o')
unfolding fit_both
lower_both room room' o o' =
    lower_either (ltb room (length o)) (lower_by 12 _ (omega arith)) (lower_either (ltb room' (length o')) (lower_by 12 _ (omega arith)) (lower_give _ _))

lower_show : (room room' : ℕ) (x : Quoted) → Lower (show_for room room' x)
unfolding show_for
lower_show room room' x = lower_either (covering x x.usable) (lower_by 13 _ (omega arith)) (lower_both room room' _ _)

lower_answer : (choose : Choose) (b : List ℕ) (room : ℕ) (x : Quoted) → Lower (answer_for choose b room x)
unfolding answer_for answer_in
lower_answer choose b room x =
    lower_read 65536 4 (book_faults (edge_counts x.offer.content)) b (λ bs. lower_pairs (edge_counts x.offer.content) bs (lower_either (covering x (choose x)) (lower_file room _) (lower_by 11 _ (omega arith))))

lower_fit_part : (room : ℕ) (o : List ℕ) {a : Outcome} → Lower a → Lower (fit_part room o a)
unfolding fit_part
lower_fit_part room o {a} h = lower_either (ltb room (length o)) (lower_by 12 _ (omega arith)) (λ n d e. h n d (first_refused o a e))

lower_part : (b : List ℕ) (room room' : ℕ) (x : Quoted) → Lower (part_for b room room' x)
unfolding part_for
lower_part b room room' x =
    lower_read 65536 4 (book_faults (edge_counts x.offer.content)) b (λ bs.
    lower_pairs (edge_counts x.offer.content) bs
    (lower_either (some (matched (pattern_of x.content) (usable_views x)) (pattern_of x.content).edges)
    (lower_fit_part room _ (lower_answer used_by b room' (part_quoted x)))
    (lower_by 11 _ (omega arith))))

-- what is judged is refused exactly where it is wrong, if the call goes on with other numbers alone
refused_wrong : {number : ℕ} {v : Verdict} {Right : Type 0} {Wrong : ℕ → Type 0} (j : Judges number v Right Wrong) (a : Outcome) (k : List ℕ → Outcome) → a ≡ judged v k → 14 < number
    → ((d : ℕ) → k [] ≡ refuse number d → ⊥) → (words d : ℕ) → (with_workspace words a ≡ refuse number d) ↔ ((16384 ≤ words) × Wrong d)
refused_wrong {number} {Wrong = Wrong} j a k is l h words e =
    let wrong : (f : ℕ) → Wrong f → a ≡ refuse number f = λ f x. is ∙ judged_rejected k (j.wrong f x) in (
      λ x.
          let w = enough_for words a (λ z. let y = number_same z in omega arith) x in
          ⊎_elim
          (λ r. absurd (h e (sym (is ∙ goes_on k (j.right r)) ∙ w.1)))
          (λ y. (w.0, subst Wrong (detail_same (sym (wrong y.0 y.1) ∙ w.1)) y.1))
          j.either,
      λ x. enough_words words a x.0 ∙ wrong e x.1,
    )

-- ---- 19
pub refused_19 : (c : Brought) (ws : List ℕ) (a : Outcome) (k : Offered → Outcome) → a ≡ with_set c.one_way ws k → ((o : Offered) → Lower (k o)) → Refuses19 c ws a
refused_19 c ws a k is h =
    refused_wrong (set_judges c.one_way (length (views_of ws))) a (λ _. k (offers ws c.one_way)) is (omega arith) (λ d e. let l = h (offers ws c.one_way) 19 d e in omega arith)

pub make_book_19 : (c : Brought) (r cs : List ℕ) (room : ℕ) → CataloguePaper c.file cs → Refuses19 c cs (make_book_outcome c r room)
unfolding make_book_outcome
make_book_19 c r cs room d = refused_19 c cs _ (λ o. book_for o r room) (goes_on _ d) (λ o. lower_read 44036 3 record_faults r (λ rs. lower_file room _))

module _ (q : List ℕ) (c : Brought) (qs cs : List ℕ) (p : Question q qs) (d : CataloguePaper c.file cs) where
  when_19 : (w : When) → RightWhen cs w → (a : Outcome) (k : Quoted → Outcome) → a ≡ by_when w q c k → ((x : Quoted) → Lower (k x)) → Refuses19 c cs a
  when_19 always y a k is h = refused_19 c cs a (λ o. k (quoted_by qs o)) (is ∙ goes_on _ p ∙ goes_on _ d) (λ o. h (quoted_by qs o))
  when_19 (on t day) (right r) a k is h =
      refused_19 c cs a (λ o. k (for_day t day qs o)) (is ∙ goes_on _ p ∙ goes_on _ d ∙ goes_on _ ((terms_judges t (length (views_of cs))).right r)) (λ o. h (for_day t day qs o))

  module _ (w : When) (y : RightWhen cs w) where
    pub quote_19 : Refuses19 c cs (quote_when w q c)
    quote_19 = when_19 w y (quote_when w q c) quote_for (quote_by q c w) lower_quote

    pub cheapest_19 : (charges : List ℕ) → Refuses19 c cs (cheapest_when w q c charges)
    cheapest_19 charges = when_19 w y (cheapest_when w q c charges) (cheapest_for charges) (cheapest_by q c w charges) (lower_cheapest charges)

    pub part_19 : (b : List ℕ) (room room' : ℕ) → Refuses19 c cs (part_when w q c b room room')
    part_19 b room room' = when_19 w y (part_when w q c b room room') (part_for b room room') (part_by q c w b room room') (lower_part b room room')

    pub show_19 : (room room' : ℕ) → Refuses19 c cs (show_when w q c room room')
    show_19 room room' = when_19 w y (show_when w q c room room') (show_for room room') (show_by q c w room room') (lower_show room room')

  pub first_day_19 : (t : Terms) (day : ℕ) → RightWhen cs (on t day) → Refuses19 c cs (first_day q c t day)
  unfolding first_day
  first_day_19 t day y = when_19 (on t day) y _ (first_day_for t day) refl (lower_first_day t day)

  pub answer_19 : (choose : Choose) (b : List ℕ) (room : ℕ) → Refuses19 c cs (answer_by choose q c b room)
  unfolding answer_by
  answer_19 choose b room = when_19 always any_time _ (answer_for choose b room) refl (lower_answer choose b room)

  -- ---- 18
  module _ (t : Terms) (day : ℕ) where
    abbrev number : ℕ
    number = length (views_of cs)

    refused-18 : (a : Outcome) (k : Quoted → Outcome) → a ≡ quoted_on q c t day k → ((x : Quoted) → Lower (k x)) → Refuses18 t cs a
    refused-18 a k is h =
        refused_wrong (terms_judges t number) a (λ _. with_set c.one_way cs (λ o. k (for_day t day qs o)))
        (is ∙ goes_on _ p ∙ goes_on _ d) (omega arith)
        (λ e x.
        ⊎_elim
        (λ r. let z = judged_wrong (set_judges c.one_way number) r in omega arith)
        (λ y. let l = h (for_day t day qs (offers cs c.one_way)) 18 e y.2 in omega arith)
        (refused_judged (judge_set c.one_way number) _ x))

    pub quote_18 : Refuses18 t cs (quote_on q c t day)
    unfolding quote_on
    quote_18 = refused-18 _ quote_for refl lower_quote

    pub cheapest_18 : (charges : List ℕ) → Refuses18 t cs (cheapest_on q c t day charges)
    unfolding cheapest_on
    cheapest_18 charges = refused-18 _ (cheapest_for charges) refl (lower_cheapest charges)

    pub part_18 : (b : List ℕ) (room room' : ℕ) → Refuses18 t cs (part_on q c t day b room room')
    unfolding part_on
    part_18 b room room' = refused-18 _ (part_for b room room') refl (lower_part b room room')

    pub show_18 : (room room' : ℕ) → Refuses18 t cs (show_on q c t day room room')
    unfolding show_on
    show_18 room room' = refused-18 _ (show_for room room') refl (lower_show room room')

    pub first_day_18 : Refuses18 t cs (first_day q c t day)
    unfolding first_day
    first_day_18 = refused-18 _ (first_day_for t day) refl (lower_first_day t day)
