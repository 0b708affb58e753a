-- Several queries: read one after the other, mapped one by one, and what the call answers from what its parts found.
use Prim.Native.Nat.{ℕ, zero, suc, ◌+◌, ◌*◌, ◌/◌, ◌%◌, ◌^◌, max, ◌<◌, ◌≤◌}
use mathlib.Core.Path.{◌≡◌, refl, sym, ap, ap₂, subst, ◌∙◌}
use mathlib.Core.Bool.{Bool, true, false, ◌||◌}
use mathlib.Core.Logic.{⊎_elim}
use mathlib.Core.List.{List, []}
use Rattle.std.specs.Prelude.{Option, Some, None}
use lib.ListN.{length, drop, get_or, replicate, set, length-set, length-drop}
use lib.Seq.{drop-cons, get_or-set_same, get_or-set_other}
use lib.Dec.{eqb, ltb}
use lib.Bits.{bit_or}
use native.Mathlib.Omega.{arith}
use native.Mathlib.Nat.{mod-lt, zero-lt-suc}
use native.Mathlib.Numerals.{add-one}
use borrow.Author.Tests.{lt-ltb, le-ltb, ltb-false, eq-eqb}
use Rattle.packed.specs.Formats.{pattern, patterns}
use Rattle.packed.specs.Contents.{edges_of, edge_counts, sheets_in, patterns_in}
use Rattle.packed.specs.Plain.{PlainPattern}
use Rattle.packed.specs.ByValue.{HoldsPattern}
use Rattle.packed.specs.Accepting.{ContentTaken}
use Rattle.packed.specs.Refusals.{Told}
use Rattle.packed.specs.Calls.{Outcome, refuse, Fulfils, accepted, rejected, judged, read_questions, read_book, within_pairs}
use Rattle.packed.specs.declared.by_value.Pattern.{Pattern as Given}
use Rattle.packed.proofs.OrderCases.{lt_or_ge}
use Rattle.packed.proofs.NotedLaws.{bit_or_lem}
use Rattle.packed.proofs.AcceptedGraphs.{accepts_pattern}
use Rattle.packed.proofs.Accepted.{written_accepted, plain_written}
use Rattle.packed.proofs.AcceptedBounds.{length-patterns_in}
use Rattle.packed.proofs.CallLaws.{read_says, judged_accepted}
use Rattle.engine.specs.Simulation.{bit, pattern_of}
use Rattle.engine.specs.Matched.{ViewAt, Ahead}
use Rattle.engine.specs.declared.views.View.{View}
use Rattle.matching.specs.Offered.{Brought, Offered, offers, view_patterns, offered}
use Rattle.matching.specs.Part.{rank}
use Rattle.engine.proofs.ViewLaws.{Advanced, advance, questions_ahead}
use Rattle.matching.proofs.PlaceLaws.{rank_same}
use Rattle.matching.proofs.OfferedLaws.{judged_rejected}
use Rattle.containment.specs.Choice.{lowest_unmatched, used}
use Rattle.containment.specs.Quote.{Quoted, mapping, table_of, lowest_left, used_by}
use Rattle.answering.specs.Several.{question_at, counted, all_covered, is_needed, sheets_needed, answer_at, fit_several, several_in, several_outcome}
use Rattle.containment.specs.Steps.{Query, Views, ViewCounts, Loaded, offer_of}
use Rattle.answering.specs.SeveralSteps.{Asked, asked_at, first_lowest, uncovered_or, Mapped, Answerable}
use Rattle.containment.proofs.SetBits.{never, bit_zero}
use Rattle.containment.proofs.ChoiceLaws.{lowest_leaves, lowest_covers}
use Rattle.containment.proofs.AnswerLaws.{views_many}

-- ---- the queries one after the other

-- a content that keeps the rules of patterns is that of an accepted query
abbrev pub query_plain : {ws : List ℕ} {body : List Bool} {q : Given} → PlainPattern ws body → HoldsPattern ws q → Query q
query_plain {ws} {body} p h =
    let w = plain_written pattern (accepts_pattern 0) ws body p in
    record { bytes = w.0; content = ws; is = ((written_accepted pattern ws w.0).0 w.1).1; holds = h }

-- those from the i-th on stand from the byte on
pub record AskedFrom (s : List ℕ) (number i byte : ℕ) : Type 0 where
  pub ahead : (a : Asked s number) → Ahead s byte (drop i (patterns_in number a.content))

pub asked_start : {s : List ℕ} {number : ℕ} → AskedFrom s number 0 0
asked_start {s} {number} = record { ahead = λ a. questions_ahead number s a.content a.is }

-- the i-th begins in the file
pub asked_inside : {s : List ℕ} {number i byte : ℕ} → AskedFrom s number i byte → i < number → Asked s number → byte ≤ length s
asked_inside {number = number} {i = i} f l a = (f.ahead a).inside (omega (arith, length-drop i (patterns_in number a.content), length-patterns_in number a.content))

module _ {s : List ℕ} {number i byte : ℕ} (f : AskedFrom s number i byte) (l : i < number) (r : View) (view : ViewAt s byte r) where
  -- what `view_at` gives is the i-th, and the others are ahead
  pub asked_next : (a : Asked s number) → Advanced s (get_or (patterns_in number a.content) i []) (drop (suc i) (patterns_in number a.content)) r
  asked_next a =
      advance (subst (Ahead s byte) (drop-cons (patterns_in number a.content) i [] (omega (arith, length-patterns_in number a.content))) (f.ahead a)) view

  -- an accepted query by value
  abbrev pub asked_query : Asked s number → Query r.pattern
  asked_query a = let n = asked_next a in query_plain n.plain n.holds

  pub asked_more : AskedFrom s number (i + 1) r.next
  asked_more = record {
    ahead = λ a. subst (λ (j : ℕ). Ahead s r.next (drop j (patterns_in number a.content))) (sym (add-one i)) (asked_next a).ahead;
  }

-- ---- the queries mapped one by one

-- a view is in one of two sets
either : (x y : ℕ) → x < 2 → y < 2 → eqb (max x y) 1 ≡ eqb x 1 || eqb y 1
either zero zero p q = refl
either zero (suc zero) p q = refl
either zero (suc (suc y)) p q = absurd (omega arith)
either (suc zero) zero p q = refl
either (suc zero) (suc zero) p q = refl
either (suc zero) (suc (suc y)) p q = absurd (omega arith)
either (suc (suc x)) y p q = absurd (omega arith)

bit_either : (a b k : ℕ) → bit (bit_or a b) k ≡ bit a k || bit b k
unfolding bit
bit_either a b k =
    ap (λ (n : ℕ). eqb n 1) (bit_or_lem a b k) ∙ either (a / 2 ^ k % 2) (b / 2 ^ k % 2) (mod-lt (a / 2 ^ k) (zero-lt-suc 1)) (mod-lt (b / 2 ^ k) (zero-lt-suc 1))

-- one query more, of which low is the lowest unmatched edge, or m
covers_more : (x : ℕ → Quoted) (n : ℕ) (lowest : Option ℕ) (low m : ℕ) → ((a : Outcome) → all_covered x n a ≡ uncovered_or lowest a)
    → low ≡ lowest_left (x n) (x n).usable → m ≡ edges_of (x n).content
    → (a : Outcome) → all_covered x (suc n) a ≡ uncovered_or (first_lowest lowest low m) a
unfolding all_covered first_lowest
covers_more x n (Some f) low m h e d a = h _
covers_more x n None low m h e d a =
    h _
    ∙ ⊎_elim
    (λ (l : low < m).
    let c = lowest_leaves (table_of (x n)) (x n).usable (length (view_patterns (x n).offer)) (edges_of (x n).content) e (omega (arith, d)) in
    rw (c, lt-ltb low m l) (ap (refuse 11) (sym e)))
    (λ (l : m ≤ low).
    let c = lowest_covers (table_of (x n)) (x n).usable (length (view_patterns (x n).offer)) (edges_of (x n).content) e (omega (arith, d)) in
    rw (c, le-ltb low m l))
    (lt_or_ge low m)

pub mapped_start : (x : ℕ → Quoted) {tables : List (List ℕ)} {used : List ℕ} → length tables ≡ 8 → used ≡ replicate 8 0 → Mapped x 0 tables used 0 None
unfolding is_needed all_covered
mapped_start x l e = record {
  long = l;
  eight = ap length e ∙ refl;
  table = λ i p. absurd (omega arith);
  used_is = λ i p. absurd (omega arith);
  needs = λ a. bit_zero a;
  covers = λ a. refl;
}

-- what is found of the query i
pub record Found (y : Quoted) (table : List ℕ) (views low m : ℕ) : Type 0 where
  pub table_is : table ≡ table_of y
  pub used_is : views ≡ used_by y
  pub lowest_is : low ≡ lowest_left y y.usable
  pub edges_is : m ≡ edges_of y.content

pub mapped_more : {x : ℕ → Quoted} {i : ℕ} {tables : List (List ℕ)} {used : List ℕ} {needed : ℕ} {lowest : Option ℕ} → Mapped x i tables used needed lowest → i < 8
    → {table : List ℕ} {views low m : ℕ} → Found (x i) table views low m
    → {lowest' : Option ℕ} → lowest' ≡ first_lowest lowest low m → Mapped x (i + 1) (set tables i table) (set used i views) (bit_or needed views) lowest'
unfolding is_needed
mapped_more {x} {i} {tables} {used} {needed} {lowest} h l {table} {views} {low} {m} f first = record {
  long = length-set tables i table ∙ h.long;
  eight = length-set used i views ∙ h.eight;
  table = λ j p.
      ⊎_elim (λ (g : j < i). get_or-set_other tables i j table [] (λ e. omega arith) ∙ h.table j g)
      (λ (g : i ≤ j). let e : i ≡ j = omega arith in subst (λ (n : ℕ). get_or (set tables i table) n [] ≡ table_of (x n)) e (get_or-set_same tables i table [] (omega (arith, h.long)) ∙ f.table_is))
      (lt_or_ge j i);
  used_is = λ j p.
      ⊎_elim (λ (g : j < i). get_or-set_other used i j views 0 (λ e. omega arith) ∙ h.used_is j g)
      (λ (g : i ≤ j). let e : i ≡ j = omega arith in subst (λ (n : ℕ). get_or (set used i views) n 0 ≡ used_by (x n)) e (get_or-set_same used i views 0 (omega (arith, h.eight)) ∙ f.used_is))
      (lt_or_ge j i);
  needs = λ a. rw (add-one i) (bit_either needed views a ∙ ap₂ ◌||◌ (h.needs a) (ap (λ (s : ℕ). bit s a) f.used_is));
  covers = λ a. rw (first, add-one i) (covers_more x i lowest low m h.covers f.lowest_is f.edges_is a);
}

-- the i-th of the accepted queries, whose table was made
module _ {s : List ℕ} {number : ℕ} (a : Asked s number) {c : List ℕ} {k : ℕ} (v : Views c k) (one i : ℕ) {q : Given} (holds : HoldsPattern (get_or (patterns_in number a.content) i []) q)
    {table : List ℕ} (is : table ≡ mapping (pattern_of (get_or (patterns_in number a.content) i [])) (view_patterns (offers v.content one))) where
  pub asked_found : {views low : ℕ} → low ≡ lowest_unmatched table 65535 k q.edges → views ≡ used table 65535 q.edges k → Found (asked_at a v one i) table views low q.edges
  unfolding question_at
  asked_found l u = record {
    table_is = is;
    used_is = u ∙ rw (is, views_many v one, ← holds.edges);
    lowest_is = l ∙ rw (is, views_many v one, ← holds.edges);
    edges_is = holds.edges;
  }

-- ---- what is answered from a book
module _ {s : List ℕ} {number : ℕ} (a : Asked s number) {counts : List ℕ} {k : ℕ} (v : ViewCounts counts k) (b : List ℕ) (room : ℕ) where
  abbrev content : List ℕ
  content = v.views.content

  abbrev asked : ℕ → Quoted
  asked = asked_at a v.views v.one_way

  pub several_unloaded : {n d : ℕ} → ((f : List ℕ → Outcome) → judged (read_book v.views.content b) (λ bs. within_pairs v.views.content bs (f bs)) ≡ refuse n d)
      → judged (read_book v.views.content b) (λ bs. several_in (asked_at a v.views v.one_way) number (offer_of v) bs room) ≡ refuse n d
  unfolding several_in
  several_unloaded e = e _

  module _ {d : ℕ} {w : List ℕ} (l : Loaded v.views.content b counts k d w) {tables : List (List ℕ)} {used : List ℕ} {needed : ℕ} {lowest : Option ℕ} (m : Mapped (asked_at a v.views v.one_way) number tables used needed lowest) where
    loaded-is : judged (read_book content b) (λ bs. several_in asked number (offer_of v) bs room)
        ≡ uncovered_or lowest
        (fit_several room (sheets_needed asked number (length (view_patterns (offer_of v)))) (answer_at asked (sheets_in (edge_counts content) l.fields)) number)
    unfolding several_in
    loaded-is = judged_accepted _ l.is ∙ l.few _ ∙ m.covers _

    pub several_uncovered : {e : ℕ} → lowest ≡ Some e → judged (read_book v.views.content b) (λ bs. several_in (asked_at a v.views v.one_way) number (offer_of v) bs room) ≡ refuse 11 e
    several_uncovered h = loaded-is ∙ rw h

    several-covered : {sheets : ℕ} → lowest ≡ None → sheets ≡ rank (bit needed) k
        → judged (read_book content b) (λ bs. several_in asked number (offer_of v) bs room) ≡ fit_several room sheets (answer_at asked (sheets_in (edge_counts content) l.fields)) number
    unfolding sheets_needed
    several-covered {sheets} h e =
        let n : rank (λ i. is_needed asked number i) (length (view_patterns (offer_of v))) ≡ sheets =
        ap (rank (is_needed asked number)) (views_many v.views v.one_way) ∙ sym (e ∙ rank_same (bit needed) (is_needed asked number) k (λ i q. m.needs i)) in
        loaded-is ∙ rw h (ap (λ (t : ℕ). fit_several room t (answer_at asked (sheets_in (edge_counts content) l.fields)) number) n)

    -- the pairs that were loaded are enough to answer from
    abbrev pub answerable : Answerable s number tables used b counts k d w
    answerable = record { asked = a; views = v; long = m.long; eight = m.eight; table = m.table; used_is = m.used_is; loaded = l }

    pub several_answered : {sheets : ℕ} {r : Told} {outs outs' : List (List ℕ)} → lowest ≡ None → sheets ≡ rank (bit needed) k
        → Fulfils [] (fit_several room sheets (answer_at (asked_at a v.views v.one_way) (sheets_in (edge_counts v.views.content) l.fields)) number) r outs outs'
        → Fulfils [] (judged (read_book v.views.content b) (λ bs. several_in (asked_at a v.views v.one_way) number (offer_of v) bs room)) r outs outs'
    several_answered {r = r} {outs} {outs'} h e f = subst (λ y. Fulfils [] y r outs outs') (sym (several-covered h e)) f

-- ---- what the call answers, from what is judged

-- neither of two tests holds
pub neither : (s t : Bool) → (s || t) ≡ false → (s ≡ false) × (t ≡ false)
neither true t q = never q
neither false t q = (refl, q)

-- the number is that of at least one query and at most eight
pub some_few : (number : ℕ) → (eqb number 0 || ltb 8 number) ≡ false → (1 ≤ number) × (number ≤ 8)
some_few number e =
    let q = neither (eqb number 0) (ltb 8 number) e in
    (⊎_elim (λ (h : number < 1). never (sym (eq-eqb number 0 (omega arith)) ∙ q.0)) (λ (h : 1 ≤ number). h) (lt_or_ge number 1), ltb-false 8 number q.1)

abbrev pub asked_by : (s : List ℕ) (number : ℕ) {n : ℕ} {w w' : List ℕ} → ContentTaken (read_questions number s) n w w' → number ≤ 8 → Asked s number
asked_by s number t few =
    let r = read_says (56 * number) 1 (patterns number) s t.fields t.is in
    record { content = t.fields; is = r.0; few = few; short = omega (arith, r.1) }

module _ (q : List ℕ) (c : Brought) (b : List ℕ) (number room : ℕ) where
  pub miscounted : (eqb number 0 || ltb 8 number) ≡ true → several_outcome q number c b room ≡ refuse 17 number
  unfolding several_outcome counted
  miscounted e = rw e

  module _ (e : (eqb number 0 || ltb 8 number) ≡ false) where
    pub questions_refused : {n d : ℕ} → read_questions number q ≡ rejected n d → several_outcome q number c b room ≡ refuse n d
    unfolding several_outcome counted
    questions_refused h = rw e (judged_rejected _ h)

    module _ {ws : List ℕ} (is : read_questions number q ≡ accepted ws) where
      abbrev from-book : Offered → Outcome
      from-book o = judged (read_book o.content b) (λ bs. several_in (question_at number ws o) number o bs room)

      pub offer_refused : {n d : ℕ} → ((f : Offered → Outcome) → offered c f ≡ refuse n d) → several_outcome q number c b room ≡ refuse n d
      unfolding several_outcome counted
      offer_refused h = rw e (judged_accepted _ is ∙ h from-book)

      on : {o : Offered} → ((f : Offered → Outcome) → offered c f ≡ f o) → several_outcome q number c b room ≡ from-book o
      unfolding several_outcome counted
      on h = rw e (judged_accepted _ is ∙ h from-book)

      pub several_on : {o : Offered} → ((f : Offered → Outcome) → offered c f ≡ f o) → {r : Told} {outs outs' : List (List ℕ)}
          → Fulfils [] (judged (read_book o.content b) (λ bs. several_in (question_at number ws o) number o bs room)) r outs outs'
          → Fulfils [] (several_outcome q number c b room) r outs outs'
      several_on h {r} {outs} {outs'} f = subst (λ y. Fulfils [] y r outs outs') (sym (on h)) f
