-- Several questions in one call: what it gives, that each gets what it gets by itself, and when it refuses.
use Prim.Native.Nat.{ℕ, zero, suc, ◌*◌, ◌<◌, ◌≤◌}
use mathlib.Core.Path.{◌≡◌, refl, sym, ap, ap₂, subst, subst₂, ◌∙◌}
use mathlib.Core.Bool.{Bool, true, false, ◌||◌, or-true}
use mathlib.Core.Logic.{◌⊎◌, inl, inr, ◌↔◌, ⊎_elim}
use mathlib.Core.List.{List, [], ◌∷◌, map, flatten}
use lib.ListN.{length, get_or}
use lib.Dec.{T, eqb, ltb}
use native.Mathlib.Omega.{arith}
use borrow.Author.Tests.{lt-ltb, le-ltb, ltb-true, eq-eqb, ne_eqb}
use Rattle.packed.specs.Contents.{edge_counts, sheets_in}
use Rattle.packed.specs.Calls.{Outcome, give, refuse, with_workspace, accepted, judged, read_questions, QuestionFiles, read_book, within_pairs_by, fit_file}
use Rattle.packed.proofs.OrderCases.{lt_or_ge, or_cases}
use Rattle.packed.proofs.CallLaws.{within_pairs_is}
use Rattle.packed.proofs.Accepted.{book_read_lem}
use Rattle.packed.proofs.Questions.{questions_apart, questions_contents}
use Rattle.engine.specs.Lists.{up_to}
use Rattle.engine.specs.Simulation.{bit, pattern_of, graph_of}
use Rattle.engine.specs.Masks.{OneOf}
use Rattle.matching.specs.Offered.{Brought, Offered, view_patterns}
use Rattle.matching.specs.Search.{sheet_bytes, view_sheets}
use Rattle.engine.proofs.ListLaws.{same_test, in_at, some_in, in_some}
use Rattle.engine.proofs.UpToLaws.{get_d_up_to, in_up_to, up_to_in, up_to_same}
use Rattle.matching.proofs.PlaceLaws.{rank_same}
use Rattle.containment.specs.Quote.{Quoted, quoted_by, covering, lowest_left, used_by}
use Rattle.containment.specs.Answer.{answer_bytes, answer_outcome}
use Rattle.answering.specs.Several.{question_at, counted, all_covered, is_needed, sheets_needed, answer_at, any_long, fit_several, several_in, several_outcome}
use Rattle.answering.specs.Demands.{Questions, CataloguePaper, Catalogue, Record, ManyPairs, Book, Covered, lacking, chosen_of, answer_of, book_of, sheet_of, Full, no_more, HandsUp, several_files, Refuses19, WrongNumber, RightNumber, FittedBeside, AllCovered, FirstUncovered, own_answer, own_answers, ChosenForOne, is_chosen_for_one, sheets_for, OverSum, Severals}
use Rattle.containment.proofs.SetBits.{test_cases, never}
use Rattle.answering.proofs.QuoteLaws.{test_is, place_of}
use Rattle.answering.proofs.CoveredBytes.{offered_goes_on, covered_in, covered_by, covered_bytes}
use Rattle.answering.proofs.Numbered.{patterns_faults, book_faults, read_few}
use Rattle.answering.proofs.DemandRules.{number_same, detail_same, not_refused, goes_on, enough_words, enough_for, full_words, full_judged, full_offered, full_within_pairs, refused_judged, fitted_by, many_pairs_exactly, used_chosen, used_covers, given_by}
use Rattle.answering.proofs.DemandFiles.{Says, content_same, hands_up, says_judged, says_late, says_several, says_offered}
use Rattle.answering.proofs.WhenLaws.{Lower, lower_give, lower_by, lower_either, lower_read, lower_pairs, refused_offered, refused_19}
use Rattle.answering.proofs.DemandThree.{demand_3, same_lists_in}

-- ---- the number of questions

wrong_or_right : (number : ℕ) → WrongNumber number ⊎ RightNumber number
wrong_or_right number =
    ⊎_elim
    (λ (h : number < 1). inl (inl (omega arith)))
    (λ (h : 1 ≤ number). ⊎_elim (λ (l : 8 < number). inl (inr l)) (λ (l : number ≤ 8). inr (h, l)) (lt_or_ge 8 number))
    (lt_or_ge number 1)

counted_wrong : (number : ℕ) (a : Outcome) → WrongNumber number → counted number a ≡ refuse 17 number
unfolding counted
counted_wrong number a (inl h) = rw (eq-eqb number 0 h)
counted_wrong number a (inr h) = rw (lt-ltb 8 number h, or-true (eqb number 0))

counted_right : (number : ℕ) (a : Outcome) → RightNumber number → counted number a ≡ a
unfolding counted
counted_right number a h = rw (ne_eqb number 0 (λ (z : number ≡ 0). let l = h.0 in omega arith), le-ltb 8 number h.1)

-- ---- a test of any of the first numbers, one number more at a time
module _ (f t : ℕ → Bool) (none : f 0 ≡ false) (more : (n : ℕ) → f (suc n) ≡ (f n || t n)) where
  any_say : (n : ℕ) → f n ≡ true → OneOf n (λ i. t i ≡ true)
  any_say zero h = never (sym h ∙ none)
  any_say (suc n) h =
      ⊎_elim
      (λ p. let o = any_say n p in let l = o.below in record { at = o.at; below = omega arith; holds = o.holds })
      (λ p. record { at = n; below = omega arith; holds = p })
      (or_cases (f n) (t n) (sym (more n) ∙ h))

  any_by : (n i : ℕ) → i < n → t i ≡ true → f n ≡ true
  any_by zero i l h = absurd (omega arith)
  any_by (suc n) i l h =
      ⊎_elim
      (λ (k : i < n). more n ∙ ap (λ b. b || t n) (any_by n i k h))
      (λ (k : n ≤ i). let e : i ≡ n = omega arith in more n ∙ ap (λ b. f n || b) (subst (λ (m : ℕ). t m ≡ true) e h) ∙ or-true (f n))
      (lt_or_ge i n)

-- ---- the members of a list by their numbers
up_to_list : {A : Type 0} (g : List ℕ → A) (l : List (List ℕ)) → up_to (λ i. g (get_or l i [])) (length l) ≡ map g l
unfolding up_to
up_to_list g [] = refl
up_to_list {A} g (x ∷ l) = ap (λ (m : List A). g x ∷ m) (up_to_list g l)

map_same : {A : Type 0} (g h : List ℕ → A) (l : List (List ℕ)) → ((i : ℕ) → i < length l → g (get_or l i []) ≡ h (get_or l i [])) → map g l ≡ map h l
map_same g h l e = sym (up_to_list g l) ∙ up_to_same _ _ (length l) e ∙ up_to_list h l

map_at : (g : List ℕ → List ℕ) (l : List (List ℕ)) (i : ℕ) → i < length l → get_or (map g l) i [] ≡ g (get_or l i [])
map_at g l i h = ap (λ m. get_or m i []) (sym (up_to_list g l)) ∙ get_d_up_to (λ j. g (get_or l j [])) (length l) i [] h

-- ---- 12, or the answers one after the other
module _ (room needed : ℕ) (o : ℕ → List ℕ) (n : ℕ) where
  abbrev over : Bool
  over = ltb room (length (flatten (up_to o n))) || any_long o n

  long_say : any_long o n ≡ true → OneOf n (λ i. ltb 65536 (length (o i)) ≡ true)
  unfolding any_long
  long_say = any_say (any_long o) (λ i. ltb 65536 (length (o i))) refl (λ m. refl) n

  long_by : (i : ℕ) → i < n → 65536 < length (o i) → any_long o n ≡ true
  unfolding any_long
  long_by i l h = any_by (any_long o) (λ j. ltb 65536 (length (o j))) refl (λ m. refl) n i l (lt-ltb 65536 (length (o i)) h)

  over_say : over ≡ true → OverSum room (up_to o n) (length (flatten (up_to o n)))
  over_say h = (
    ⊎_elim
        (λ p. inl (ltb-true room _ p))
        (λ p. let r = long_say p in inr (o r.at, in_up_to o n r.at r.below, ltb-true 65536 _ r.holds))
        (or_cases _ _ h),
    refl,
  )

  over_by : {d : ℕ} → OverSum room (up_to o n) d → over ≡ true
  over_by (inl h, e) = rw (lt-ltb room (length (flatten (up_to o n))) h)
  over_by (inr h, e) =
      let r = up_to_in o n h.1 in
      rw (long_by r.at r.below (subst (λ (l : List ℕ). 65536 < length l) r.holds h.2)) (or-true (ltb room (length (flatten (up_to o n)))))

  fit_refused : over ≡ true → fit_several room needed o n ≡ refuse 12 (length (flatten (up_to o n)))
  unfolding fit_several
  fit_refused h = rw h

  fit_given : over ≡ false → fit_several room needed o n ≡ give (needed ∷ []) (flatten (up_to o n) ∷ [])
  unfolding fit_several
  fit_given h = rw h

  -- what is refused is 12
  fit_number : {k d : ℕ} → fit_several room needed o n ≡ refuse k d → k ≡ 12
  fit_number e = ⊎_elim (λ h. number_same (sym e ∙ fit_refused h)) (λ h. absurd (not_refused (sym (fit_given h) ∙ e))) (test_cases over)

  fitted_several : (a : Outcome) (words : ℕ) → a ≡ fit_several room needed o n
      → FittedBeside (needed ∷ []) words (OverSum room (up_to o n)) (flatten (up_to o n) ∷ []) (with_workspace words a)
  fitted_several a words e =
      fitted_by words a (length (flatten (up_to o n)))
      (⊎_elim (λ h. inl (e ∙ fit_refused h, over_say h)) (λ h. inr (e ∙ fit_given h, λ x. never (sym (over_by x) ∙ h))) (test_cases over))
      (λ d x. x.1)

long_same : (o o' : ℕ → List ℕ) (n : ℕ) → ((i : ℕ) → i < n → o i ≡ o' i) → any_long o n ≡ any_long o' n
unfolding any_long
long_same o o' zero h = refl
long_same o o' (suc n) h = ap₂ (λ (b : Bool) (l : List ℕ). b || ltb 65536 (length l)) (long_same o o' n (λ i l. h i (omega arith))) (h n (omega arith))

fit_same : (room needed : ℕ) (o o' : ℕ → List ℕ) (n : ℕ) → ((i : ℕ) → i < n → o i ≡ o' i) → fit_several room needed o n ≡ fit_several room needed o' n
unfolding fit_several
fit_same room needed o o' n h = rw (up_to_same o o' n h, long_same o o' n h)

-- ---- extracts chosen for at least one question
chosen_exactly : (contents : List (List ℕ)) (cs : Offered) (a : ℕ) → T (is_chosen_for_one contents cs a) ↔ ChosenForOne contents cs a
chosen_exactly contents cs a = (
  λ t.
      let r = some_in _ contents t in
      let p = place_of [] r.1 in
      (p.at, p.below, subst (λ (qs : List ℕ). T (bit (chosen_of qs cs) a)) p.holds r.2),
  λ r. in_some (λ qs. bit (chosen_of qs cs) a) (in_at contents r.0 [] r.1) r.2,
)

-- ---- the questions x, whose contents are given, beside a catalogue
module _ (x : ℕ → Quoted) (contents : List (List ℕ)) (cs : Offered) (is : (i : ℕ) → x i ≡ quoted_by (get_or contents i []) cs) where
  covered_at : (i : ℕ) → covering (x i) (x i).usable ≡ covered_by (get_or contents i []) cs
  covered_at i = ap (λ (y : Quoted). covering y y.usable) (is i)

  lowest_at : (i : ℕ) → lowest_left (x i) (x i).usable ≡ lacking (get_or contents i []) cs
  lowest_at i = ap (λ (y : Quoted). lowest_left y y.usable) (is i)

  all_covered_lem : (n : ℕ) → ((i : ℕ) → i < n → Covered (get_or contents i []) cs) → (a : Outcome) → all_covered x n a ≡ a
  unfolding all_covered
  all_covered_lem zero h a = refl
  all_covered_lem (suc n) h a = all_covered_lem n (λ i l. h i (omega arith)) _ ∙ rw (covered_at n ∙ h n (omega arith))

  first_uncovered : (n i : ℕ) → i < n → FirstUncovered contents cs i → (a : Outcome) → all_covered x n a ≡ refuse 11 (lacking (get_or contents i []) cs)
  unfolding all_covered
  first_uncovered zero i l u a = absurd (omega arith)
  first_uncovered (suc n) i l u a =
      ⊎_elim
      (λ (k : i < n). first_uncovered n i k u _)
      (λ (k : n ≤ i).
      let e : i ≡ n = omega arith in
      let none : covering (x n) (x n).usable ≡ false = covered_at n ∙ subst (λ (m : ℕ). covered_by (get_or contents m []) cs ≡ false) e u.uncovered in
      all_covered_lem n (λ j m. u.before j (omega arith)) _ ∙ rw none (ap (refuse 11) (lowest_at n ∙ ap (λ (m : ℕ). lacking (get_or contents m []) cs) (sym e))))
      (lt_or_ge i n)

  -- each of the first is covered, or one is the first that isn't
  covered_or_first : (n : ℕ) → n ≤ length contents → ((i : ℕ) → i < n → Covered (get_or contents i []) cs) ⊎ ((i : ℕ) × FirstUncovered contents cs i)
  covered_or_first zero l = inl (λ i k. absurd (omega arith))
  covered_or_first (suc n) l =
      ⊎_elim
      (λ h. ⊎_elim
      (λ y. inl (λ i k. ⊎_elim (λ (m : i < n). h i m) (λ (m : n ≤ i). let e : n ≡ i = omega arith in subst (λ (j : ℕ). Covered (get_or contents j []) cs) e y) (lt_or_ge i n)))
      (λ u. inr (n, record { below = omega arith; uncovered = u; before = h }))
      (test_cases (covered_by (get_or contents n []) cs)))
      inr
      (covered_or_first n (omega arith))

  module _ (h : AllCovered contents cs) where
    used-at : (i : ℕ) → i < length contents → used_by (x i) ≡ chosen_of (get_or contents i []) cs
    used-at i l = ap used_by (is i) ∙ used_chosen (get_or contents i []) cs (h i l)

    needed-same : (a : ℕ) → is_needed x (length contents) a ≡ is_chosen_for_one contents cs a
    unfolding is_needed
    needed-same a =
        same_test _ _
        (λ t.
        let o = any_say (λ n. is_needed x n a) (λ i. bit (used_by (x i)) a) refl (λ n. refl) (length contents) ((test_is _).1 t) in
        (chosen_exactly contents cs a).1 (o.at, o.below, (test_is _).0 (sym (ap (λ (set : ℕ). bit set a) (used-at o.at o.below)) ∙ o.holds)))
        (λ t.
        let r = (chosen_exactly contents cs a).0 t in
        (test_is _).0 (any_by (λ n. is_needed x n a) (λ i. bit (used_by (x i)) a) refl (λ n. refl) (length contents) r.0 r.1 (ap (λ (set : ℕ). bit set a) (used-at r.0 r.1) ∙ (test_is _).1 r.2)))

    sheets_same : sheets_needed x (length contents) (length (view_patterns cs)) ≡ sheets_for contents cs
    unfolding sheets_needed
    sheets_same = rank_same _ _ (length (view_patterns cs)) (λ a l. needed-same a)

    answer_is : (bs : List ℕ) (i : ℕ) → i < length contents → answer_at x (sheets_in (edge_counts cs.content) bs) i ≡ own_answer cs bs (get_or contents i [])
    unfolding answer_at answer_bytes
    answer_is bs i l =
        ap (λ (y : Quoted). answer_bytes y.content (used_by y) (view_patterns y.offer) (sheets_in (edge_counts cs.content) bs)) (is i)
        ∙ ap (λ (set : ℕ). sheet_bytes (answer_of set (get_or contents i []) cs bs)) (used_chosen (get_or contents i []) cs (h i l))

    answers-are : (bs : List ℕ) → up_to (answer_at x (sheets_in (edge_counts cs.content) bs)) (length contents) ≡ own_answers contents cs bs
    answers-are bs = up_to_same _ _ (length contents) (answer_is bs) ∙ up_to_list (own_answer cs bs) contents

-- ---- accepted files are handed on

-- what is answered of so many queries where all are covered
abbrev fitted_answers : (ℕ → Quoted) → ℕ → Offered → List ℕ → ℕ → Outcome
fitted_answers x number cs bs room = fit_several room (sheets_needed x number (length (view_patterns cs))) (answer_at x (sheets_in (edge_counts cs.content) bs)) number

-- what follows the catalogue
abbrev after_book : ℕ → List ℕ → List ℕ → ℕ → Offered → Outcome
after_book number ws b room o = judged (read_book o.content b) (λ bs. several_in (question_at number ws o) number o bs room)

-- what follows the files and 10
abbrev after : ℕ → List ℕ → Offered → List ℕ → ℕ → Outcome
after number ws cs bs room = all_covered (question_at number ws cs) number (fitted_answers (question_at number ws cs) number cs bs room)

module _ (number : ℕ) (q : List ℕ) (c : Brought) (b ws : List ℕ) (cs : Offered) (bs : List ℕ) (right : RightNumber number) (p : Questions number q ws) (d : Catalogue c cs) (k : read_book cs.content b ≡ accepted bs) (room : ℕ) where
  several_after : several_outcome q number c b room ≡ within_pairs_by (edge_counts cs.content) bs (after number ws cs bs room)
  unfolding several_outcome several_in
  several_after = counted_right number _ right ∙ goes_on _ p ∙ offered_goes_on c cs d (after_book number ws b room) ∙ goes_on _ k

-- ---- accepted questions
module _ (number : ℕ) (q : List ℕ) (c : Brought) (ws : List ℕ) (cs : Offered) (f : QuestionFiles number q ws) (d : Catalogue c cs) where
  abbrev contents : List (List ℕ)
  contents = f.contents

  abbrev x : ℕ → Quoted
  x = question_at number ws cs

  many : length contents ≡ number
  many = f.many_contents

  paper : Questions number q ws
  paper = (questions_apart number q ws).1 f

  x_is : (i : ℕ) → x i ≡ quoted_by (get_or contents i []) cs
  unfolding question_at
  x_is i = ap (λ (l : List (List ℕ)). quoted_by (get_or l i []) cs) (questions_contents number q ws f)

  -- each by itself
  module _ (i : ℕ) (l : i < number) (h : Covered (get_or contents i []) cs) where
    own-answered : (b bs : List ℕ) → Book cs.content b bs → (room : ℕ) → answer_outcome (get_or f.files i []) c b room ≡ fit_file room (get_or (own_answers contents cs bs) i [])
    own-answered b bs k room =
        given_by (get_or f.files i []) c (get_or contents i []) cs (f.each i l) d b bs k used_by room (used_covers (get_or contents i []) cs h)
        ∙ ap (λ (set : ℕ). fit_file room (sheet_bytes (answer_of set (get_or contents i []) cs bs))) (used_chosen (get_or contents i []) cs h)
        ∙ ap (fit_file room) (sym (map_at (own_answer cs bs) contents i (omega (arith, many))))

  all_or_first : AllCovered contents cs ⊎ ((i : ℕ) × FirstUncovered contents cs i)
  all_or_first = covered_or_first x contents cs x_is (length contents) (omega arith)

  module _ (room : ℕ) (bs : List ℕ) where
    after-covered : AllCovered contents cs → after number ws cs bs room ≡ fitted_answers x number cs bs room
    after-covered h = all_covered_lem x contents cs x_is number (λ i l. h i (omega (arith, many))) _

    after_first : (i : ℕ) → FirstUncovered contents cs i → after number ws cs bs room ≡ refuse 11 (lacking (get_or contents i []) cs)
    after_first i u = first_uncovered x contents cs x_is number i (omega (arith, u.below, many)) u _

    -- what is refused is 11 or 12
    after-number : {n e : ℕ} → after number ws cs bs room ≡ refuse n e → (n ≡ 11) ⊎ (n ≡ 12)
    after-number y =
        ⊎_elim
        (λ h. inr (fit_number room _ _ number (sym (after-covered h) ∙ y)))
        (λ r. inl (number_same (sym y ∙ after_first r.0 r.1)))
        all_or_first

  module _ (right : RightNumber number) (b bs : List ℕ) (k : Book cs.content b bs) (room : ℕ) where
    given-after : several_outcome q number c b room ≡ after number ws cs bs room
    given-after = several_after number q c b ws cs bs right paper d k.read room ∙ within_pairs_is (edge_counts cs.content) bs _ k.few

    several_given : AllCovered contents cs → several_outcome q number c b room ≡ fitted_answers x number cs bs room
    several_given h = given-after ∙ after-covered room bs h

    several_refused : (i : ℕ) → FirstUncovered contents cs i → several_outcome q number c b room ≡ refuse 11 (lacking (get_or contents i []) cs)
    several_refused i u = given-after ∙ after_first room bs i u

    several-fitted : AllCovered contents cs → (words : ℕ)
        → FittedBeside (sheets_for contents cs ∷ []) words (OverSum room (own_answers contents cs bs)) (flatten (own_answers contents cs bs) ∷ []) (with_workspace words (several_outcome q number c b room))
    several-fitted h words =
        subst₂ (λ (n : ℕ) (os : List (List ℕ)). FittedBeside (n ∷ []) words (OverSum room os) (flatten os ∷ []) (with_workspace words (several_outcome q number c b room)))
        (ap (λ (n : ℕ). sheets_needed x n (length (view_patterns cs))) (sym many) ∙ sheets_same x contents cs x_is h)
        (ap (up_to (answer_at x (sheets_in (edge_counts cs.content) bs))) (sym many) ∙ answers-are x contents cs x_is h bs)
        (fitted_several room _ (answer_at x (sheets_in (edge_counts cs.content) bs)) number (several_outcome q number c b room) words (several_given h))

    -- 11 falls exactly to the first that isn't covered
    first-exactly : (words e : ℕ) → (with_workspace words (several_outcome q number c b room) ≡ refuse 11 e)
        ↔ ((16384 ≤ words) × ((i : ℕ) × FirstUncovered contents cs i × (e ≡ lacking (get_or contents i []) cs)))
    first-exactly words e = (
      λ y.
          let w = enough_for words (several_outcome q number c b room) (λ z. let m = number_same z in omega arith) y in
          ⊎_elim
          (λ h. absurd (let m = fit_number room _ _ number (sym (several_given h) ∙ w.1) in omega arith))
          (λ r. (w.0, (r.0, r.1, sym (detail_same (sym (several_refused r.0 r.1) ∙ w.1)))))
          all_or_first,
      λ y. enough_words words _ y.0 ∙ several_refused y.1.0 y.1.1 ∙ ap (refuse 11) (sym y.1.2),
    )

  -- from two books that agree on the sheets that are needed
  several_same : (b b' bs bs' : List ℕ) → Book cs.content b bs → Book cs.content b' bs'
      → (AllCovered contents cs → (a : ℕ) → a < length (view_patterns cs) → ChosenForOne contents cs a → get_or (sheets_in (edge_counts cs.content) bs) a [] ≡ get_or (sheets_in (edge_counts cs.content) bs') a [])
      → (room : ℕ) → several_outcome q number c b room ≡ several_outcome q number c b' room
  unfolding several_outcome
  several_same b b' bs bs' k k' s room =
      ⊎_elim
      (λ wrong. counted_wrong number _ wrong ∙ sym (counted_wrong number _ wrong))
      (λ right. ⊎_elim
      (λ h.
      several_given right b bs k room h
      ∙ fit_same room _ _ _ number
      (λ i l.
      let m : i < length contents = omega (arith, many) in
      answer_is x contents cs x_is h bs i m
      ∙ ap sheet_bytes (same_lists_in (chosen_of (get_or contents i []) cs) (get_or contents i []) cs bs bs' (λ a n t. s h a n (i, m, t)))
      ∙ sym (answer_is x contents cs x_is h bs' i m))
      ∙ sym (several_given right b' bs' k' room h))
      (λ r. several_refused right b bs k room r.0 r.1 ∙ sym (several_refused right b' bs' k' room r.0 r.1))
      all_or_first)
      (wrong_or_right number)

  -- from the book of a record: the questions' sheets
  record_sheets : (r rs bs : List ℕ) → Record r rs → AllCovered contents cs → Book cs.content (book_of cs rs) bs → own_answers contents cs bs ≡ map (λ qs. sheet_of (pattern_of qs) rs) contents
  unfolding answer_bytes
  record_sheets r rs bs e h k =
      let o = demand_3.fits c r cs rs d e ((book_read_lem cs.content (book_of cs rs) bs).0 k.read).0 in
      let same : sheets_in (edge_counts cs.content) bs ≡ view_sheets cs (graph_of rs) = ap (sheets_in (edge_counts cs.content)) (content_same (sym k.read ∙ o.1.read)) ∙ o.2 in
      map_same _ _ contents
      (λ i l.
      let qs = get_or contents i [] in
      ap (λ (sheets : List (List (List ℕ))). answer_bytes qs (chosen_of qs cs) (view_patterns cs) sheets) same
      ∙ covered_bytes (get_or f.files i []) c qs cs (f.each i (omega (arith, many))) d r rs e (chosen_of qs cs) (subst (λ (set : ℕ). covered_in set qs cs ≡ true) (used_chosen qs cs (h i l)) (used_covers qs cs (h i l))))

-- ---- the calls whatever they are sent

-- 1 to 9 are those of the files
pub several_hands_up : (q : List ℕ) (number : ℕ) (c : Brought) (b : List ℕ) (room : ℕ) → RightNumber number → HandsUp (several_files number q c b) (several_outcome q number c b room)
unfolding several_outcome
several_hands_up q number c b room right =
    hands_up
    (subst (Says (several_files number q c b)) (sym (counted_right number _ right))
    (says_judged (read_questions number q) (λ ws _. says_offered c _ (λ cs. says_judged (read_book cs.content b) (λ bs _.
    says_several (question_at number ws cs) number cs bs room)))))

pub several_reads_none : (q : List ℕ) (number : ℕ) (c : Brought) (b : List ℕ) (room : ℕ) → WrongNumber number → HandsUp no_more (several_outcome q number c b room)
unfolding several_outcome
several_reads_none q number c b room wrong = hands_up (subst (Says no_more) (sym (counted_wrong number _ wrong)) (says_late 17 number (omega arith)))

-- 10 falls exactly to a crowded book
pub many_pairs_several : (number : ℕ) (q : List ℕ) (c : Brought) (b ws : List ℕ) (cs : Offered) (bs : List ℕ) → RightNumber number → Questions number q ws → Catalogue c cs → read_book cs.content b ≡ accepted bs → (room words d : ℕ)
    → (with_workspace words (several_outcome q number c b room) ≡ refuse 10 d) ↔ ((16384 ≤ words) × ManyPairs cs.content bs × (d ≡ 4))
many_pairs_several number q c b ws cs bs right p d k room words e =
    many_pairs_exactly words (several_outcome q number c b room) (edge_counts cs.content) bs (after number ws cs bs room) (several_after number q c b ws cs bs right p d k room)
    (λ _ j y. ⊎_elim (λ z. omega arith) (λ z. omega arith) (after-number number q c ws cs ((questions_apart number q ws).0 p) d room bs y)) e

-- what follows the catalogue refuses with lower numbers than 17
lower_covered : (x : ℕ → Quoted) (n : ℕ) {a : Outcome} → Lower a → Lower (all_covered x n a)
unfolding all_covered
lower_covered x zero h = h
lower_covered x (suc n) h = lower_covered x n (lower_either (covering (x n) (x n).usable) h (lower_by 11 _ (omega arith)))

lower_after : (number : ℕ) (ws b : List ℕ) (room : ℕ) (o : Offered) → Lower (after_book number ws b room o)
unfolding several_in fit_several
lower_after number ws b room o =
    lower_read 65536 4 (book_faults (edge_counts o.content)) b (λ bs.
    lower_pairs (edge_counts o.content) bs
    (lower_covered (question_at number ws o) number
    (lower_either (over room 0 (answer_at (question_at number ws o) (sheets_in (edge_counts o.content) bs)) number) (lower_by 12 _ (omega arith)) (lower_give _ _))))

-- 19 falls exactly to a set that names an extract that there isn't
pub several_19 : (number : ℕ) (q : List ℕ) (c : Brought) (b ws cs : List ℕ) (room : ℕ) → RightNumber number → Questions number q ws → CataloguePaper c.file cs → Refuses19 c cs (several_outcome q number c b room)
unfolding several_outcome
several_19 number q c b ws cs room right p d = refused_19 c cs _ (after_book number ws b room) (counted_right number _ right ∙ goes_on _ p ∙ goes_on _ d) (lower_after number ws b room)

-- with a right number no refusal is 17
several_other : (q : List ℕ) (number : ℕ) (c : Brought) (b : List ℕ) (room : ℕ) {d : ℕ} → RightNumber number → several_outcome q number c b room ≡ refuse 17 d → ⊥
unfolding several_outcome
several_other q number c b room {d} right e =
    ⊎_elim
    (λ v. let l = read_few (56 * number) 1 (patterns_faults number) q v in omega arith)
    (λ t. ⊎_elim
    (λ l. omega arith)
    (⊎_elim (λ l. omega arith) (λ o. let l = lower_after number t.0 b room o.0 17 d o.1 in omega arith))
    (refused_offered c (after_book number t.0 b room) t.2))
    (refused_judged (read_questions number q) _ (sym (counted_right number _ right) ∙ e))

-- 17 falls exactly to a wrong number
wrong_exactly : (q : List ℕ) (number : ℕ) (c : Brought) (b : List ℕ) (room words d : ℕ)
    → (with_workspace words (several_outcome q number c b room) ≡ refuse 17 d) ↔ ((16384 ≤ words) × WrongNumber number × (d ≡ number))
unfolding several_outcome
wrong_exactly q number c b room words d = (
  λ y.
      let w = enough_for words (several_outcome q number c b room) (λ z. let m = number_same z in omega arith) y in
      ⊎_elim
      (λ h. (w.0, h, sym (detail_same (sym (wrong-refused h) ∙ w.1))))
      (λ h. absurd (several_other q number c b room h w.1))
      (wrong_or_right number),
  λ y. enough_words words _ y.0 ∙ wrong-refused y.1 ∙ ap (refuse 17) (sym y.2),
)
  where
    wrong-refused : WrongNumber number → several_outcome q number c b room ≡ refuse 17 number
    wrong-refused h = counted_wrong number _ h

-- a full result comes of accepted files, whose questions are covered
full_several : (q : List ℕ) (number : ℕ) (c : Brought) (b : List ℕ) (room : ℕ) → Full (several_outcome q number c b room)
    → RightNumber number × ((ws : List ℕ) × (cs : Offered) × (bs : List ℕ) × (f : QuestionFiles number q ws) × Catalogue c cs × Book cs.content b bs × AllCovered f.contents cs)
unfolding several_outcome several_in
full_several q number c b room g =
    ⊎_elim
    (λ h. absurd (not_refused (sym g.is ∙ counted_wrong number _ h)))
    (λ h.
    let t = full_judged (read_questions number q) _ (record { values = g.values; outputs = g.outputs; is = sym (counted_right number _ h) ∙ g.is }) in
    let u = full_offered c (after_book number t.0 b room) t.2 in
    let z = full_judged _ _ u.2 in
    let k : Book u.0.content b z.0 = record { read = z.1; few = full_within_pairs _ _ _ z.2 } in
    let f = (questions_apart number q t.0).0 t.1 in
    let none : (i : ℕ) → FirstUncovered f.contents u.0 i → ⊥ =
    λ i v. not_refused (sym g.is ∙ several_refused number q c t.0 u.0 f u.1 h b z.0 k room i v) in
    (h, (t.0, u.0, z.0, f, u.1, k, ⊎_elim (λ y. y) (λ r. absurd (none r.0 r.1)) (all_or_first number q c t.0 u.0 f u.1))))
    (wrong_or_right number)

pub severals : Severals
severals = record {
  accepts = questions_apart;
  gives = λ number q c b ws cs bs right f d k h room words. several-fitted number q c ws cs f d right b bs k room h words;
  answers = λ number q c b ws cs bs f d k i l h room. own-answered number q c ws cs f d i l h b bs k room;
  chosen = chosen_exactly;
  same = λ number q c b b' ws cs bs bs' f d k k' s room. several_same number q c ws cs f d b b' bs bs' k k' s room;
  equals = λ way number q c r ws cs rs f d e i l h m room words. demand_3.covered way (get_or f.files i []) c r (get_or f.contents i []) cs rs (f.each i l) d e h m room words;
  sheets = λ number q c r ws cs rs bs f d e h k. record_sheets number q c ws cs f d r rs bs e h k;
  wrong_number = wrong_exactly;
  refused = λ number q c b ws cs bs right f d k room words e. first-exactly number q c ws cs f d right b bs k room words e;
  only = λ q number c b room words g. full_several q number c b room (full_words words _ g);
}
