-- Which refusals are those of files: 1 to 9, of the first that isn't accepted.
use Prim.Native.Nat.{ℕ, zero, suc, ◌<◌, ◌≤◌}
use mathlib.Core.Path.{◌≡◌, refl, sym, subst, ◌∙◌}
use mathlib.Core.Logic.{◌↔◌}
use mathlib.Core.Bool.{Bool, true, false, ◌||◌}
use mathlib.Core.List.{List, flatten}
use lib.ListN.{length}
use lib.Dec.{ltb, eqb}
use native.Mathlib.Omega.{arith}
use Rattle.packed.specs.Format.{pick}
use Rattle.packed.specs.Contents.{views_of, edge_counts, sheets_in}
use Rattle.packed.specs.Calls.{Outcome, give, refuse, Verdict, accepted, rejected, judged, read_pattern, read_catalogue, pairs_of, within_pairs_by, fit, fit_file, fit_both}
use Rattle.engine.specs.Lists.{up_to}
use Rattle.engine.specs.Index.{alike, own_index}
use Rattle.matching.specs.Offered.{Brought, Offered, offers, view_patterns, judge_set, with_set, offered}
use Rattle.containment.specs.Quote.{Quoted, quoted_by, quoted, covering, quote_for}
use Rattle.containment.specs.Answer.{answer_in}
use Rattle.containment.specs.Cheapest.{cheapest_from, cheapest_for}
use Rattle.containment.specs.Part.{with_first, fit_part}
use Rattle.answering.specs.Several.{all_covered, sheets_needed, answer_at, any_long, fit_several, several_in}
use Rattle.containment.specs.Show.{show_for}
use Rattle.answering.specs.Demands.{Files, no_more, first, FirstRejected, here, later, HandsUp, set_file, offered_files, quoted_files}
use Rattle.answering.proofs.DemandRules.{number_same, not_refused, enough_words, enough_for}

-- with the workspace aside
abbrev pub Says : Files → Outcome → Type 0
Says fs a = (n d : ℕ) → n ≤ 9 → (a ≡ refuse n d) ↔ FirstRejected fs n d

pub hands_up : {fs : Files} {a : Outcome} → Says fs a → HandsUp fs a
hands_up {a = a} s n d words l = (
  λ e. let w = enough_for words a (λ z. let y = number_same z in omega arith) e in (w.0, (s n d l).0 w.1),
  λ x. enough_words words a x.0 ∙ (s n d l).1 x.1,
)

-- ---- a file is judged first
not_accepted : {ws : List ℕ} {n d : ℕ} → accepted ws ≡ rejected n d → ⊥
not_accepted e = let z : ◌≡◌ {A = ℕ} 0 1 = cc in omega arith

pub content_same : {ws vs : List ℕ} → accepted ws ≡ accepted vs → ws ≡ vs
content_same e = cc

pub says_judged : (v : Verdict) {next : List ℕ → Files} {k : List ℕ → Outcome} → ((ws : List ℕ) → v ≡ accepted ws → Says (next ws) (k ws)) → Says (first v next) (judged v k)
unfolding judged
says_judged (accepted ws) {next} {k} h n d l = (λ e. later refl ((h ws refl n d l).0 e), back)
  where
    back : FirstRejected (first (accepted ws) next) n d → k ws ≡ refuse n d
    back (here e) = absurd (not_accepted e)
    back (later {ws = vs} e r) = (h ws refl n d l).1 (subst (λ us. FirstRejected (next us) n d) (sym (content_same e)) r)
says_judged (rejected m c) {next} {k} h n d l = (λ e. here {v = rejected m c} {next = next} {n = n} {d = d} (cc), back)
  where
    back : FirstRejected (first (rejected m c) next) n d → refuse m c ≡ refuse n d
    back (here e) = cc
    back (later e r) = absurd (not_accepted (sym e))

-- ---- after the files
none_first : {n d : ℕ} → FirstRejected no_more n d → ⊥
none_first = elim [ ]

pub says_give : (vs : List ℕ) (outs : List (List ℕ)) → Says no_more (give vs outs)
says_give vs outs n d l = (λ e. absurd (not_refused e), λ r. absurd (none_first r))

pub says_late : (m c : ℕ) → 9 < m → Says no_more (refuse m c)
says_late m c h n d l = (λ e. absurd (let z = number_same e in omega arith), λ r. absurd (none_first r))

pub says_either : {fs : Files} {a b : Outcome} (t : Bool) → Says fs a → Says fs b → Says fs (pick t a b)
says_either true x y = x
says_either false x y = y

pub says_fit : (room : ℕ) (o : List ℕ) → Says no_more (fit room o)
unfolding fit
says_fit room o = says_either (ltb room (length o)) (says_late 12 _ (omega arith)) (says_give _ _)

pub says_fit_file : (room : ℕ) (o : List ℕ) → Says no_more (fit_file room o)
unfolding fit_file
says_fit_file room o = says_either (ltb room (length o) || ltb 65536 (length o)) (says_late 12 _ (omega arith)) (says_give _ _)

pub says_fit_both : (room room' : ℕ) (a b : List ℕ) → Says no_more (fit_both room room' a b)
unfolding fit_both
says_fit_both room room' a b = says_either (ltb room (length a)) (says_late 12 _ (omega arith)) (says_either (ltb room' (length b)) (says_late 12 _ (omega arith)) (says_give _ _))

-- an output before those of an outcome refuses nothing more
pub first_refused : (o : List ℕ) (a : Outcome) {n d : ℕ} → with_first o a ≡ refuse n d → a ≡ refuse n d
unfolding with_first
first_refused o (give vs outs) e = absurd (not_refused e)
first_refused o (refuse m c) e = e

pub says_fit_part : (room : ℕ) (o : List ℕ) {a : Outcome} → Says no_more a → Says no_more (fit_part room o a)
unfolding fit_part
says_fit_part room o {a} h =
    says_either (ltb room (length o)) (says_late 12 _ (omega arith)) (λ n d l. (λ e. (h n d l).0 (first_refused o a e), λ r. absurd (none_first r)))

pub says_within_pairs : (ms ws : List ℕ) {a : Outcome} → Says no_more a → Says no_more (within_pairs_by ms ws a)
unfolding within_pairs_by
says_within_pairs ms ws h = says_either (ltb 8192 (length (pairs_of ms ws))) (says_late 10 _ (omega arith)) h

pub says_own : (own index : List ℕ) {a : Outcome} → Says no_more a → Says no_more (own_index own index a)
unfolding own_index
says_own own index h =
    says_either (eqb (length index) (length own)) (says_either (eqb (alike own index) (length own)) h (says_late 16 _ (omega arith))) (says_late 16 _ (omega arith))

-- ---- what the calls that quote go on with
pub says_quote : (x : Quoted) → Says no_more (quote_for x)
unfolding quote_for
says_quote x = says_give _ _

pub says_cheapest : (charges : List ℕ) (x : Quoted) → Says no_more (cheapest_for charges x)
unfolding cheapest_for cheapest_from
says_cheapest charges x =
    says_either (eqb (length charges) (length (view_patterns x.offer))) (says_either (covering x x.usable) (says_give _ _) (says_late 11 _ (omega arith))) (says_late 15 _ (omega arith))

pub says_answer : (set : ℕ) (x : Quoted) (bs : List ℕ) (room : ℕ) → Says no_more (answer_in set x bs room)
unfolding answer_in
says_answer set x bs room = says_within_pairs _ bs (says_either (covering x set) (says_fit_file room _) (says_late 11 _ (omega arith)))

pub says_show : (room room' : ℕ) (x : Quoted) → Says no_more (show_for room room' x)
unfolding show_for
says_show room room' x = says_either (covering x x.usable) (says_late 13 _ (omega arith)) (says_fit_both room room' _ _)

-- ---- what is answered of several queries
says_all_covered : (x : ℕ → Quoted) (n : ℕ) {a : Outcome} → Says no_more a → Says no_more (all_covered x n a)
unfolding all_covered
says_all_covered x zero h = h
says_all_covered x (suc n) h = says_all_covered x n (says_either (covering (x n) (x n).usable) h (says_late 11 _ (omega arith)))

says_fit_several : (room needed : ℕ) (o : ℕ → List ℕ) (n : ℕ) → Says no_more (fit_several room needed o n)
unfolding fit_several
says_fit_several room needed o n = says_either (ltb room (length (flatten (up_to o n))) || any_long o n) (says_late 12 _ (omega arith)) (says_give _ _)

pub says_several : (x : ℕ → Quoted) (n : ℕ) (o : Offered) (bs : List ℕ) (room : ℕ) → Says no_more (several_in x n o bs room)
unfolding several_in
says_several x n o bs room =
    says_within_pairs _ bs (says_all_covered x n (says_fit_several room (sheets_needed x n (length (view_patterns o))) (answer_at x (sheets_in (edge_counts o.content) bs)) n))

-- ---- with what the calls that match views are brought: a catalogue and its set, after a question
pub says_set : (set : ℕ) (ws : List ℕ) (next : List ℕ → Files) (k : Offered → Outcome) → Says (next ws) (k (offers ws set)) → Says (set_file set ws next) (with_set set ws k)
says_set set ws next k h = says_judged (judge_set set (length (views_of ws))) (λ _ _. h)

pub says_offered : (c : Brought) {next : List ℕ → Files} (k : Offered → Outcome) → ((o : Offered) → Says (next o.content) (k o)) → Says (offered_files c next) (offered c k)
says_offered c {next} k h = says_judged (read_catalogue c.file) (λ ws _. says_set c.one_way ws next k (h (offers ws c.one_way)))

pub says_quoted : (q : List ℕ) (c : Brought) {next : List ℕ → Files} (k : Quoted → Outcome) → ((qs : List ℕ) (cs : Offered) → Says (next cs.content) (k (quoted_by qs cs))) → Says (quoted_files q c next) (quoted q c k)
says_quoted q c k h = says_judged (read_pattern q) (λ qs _. says_offered c (λ o. k (quoted_by qs o)) (h qs))
