-- Asking gives the set of the extracts that the link changes, or refuses, exactly as is said of it.
use Prim.Native.Nat.{ℕ, zero, suc, ◌+◌, ◌^◌, ◌<◌, ◌≤◌}
use mathlib.Core.Path.{◌≡◌, refl, sym, ap, ◌∙◌, subst}
use mathlib.Core.Bool.{Bool, true, false}
use mathlib.Core.Logic.{⊎_elim, ◌↔◌, ◌⊎◌, inl, inr}
use mathlib.Core.List.{List, []}
use lib.ListN.{length}
use lib.Dec.{T}
use native.Mathlib.Omega.{arith}
use Rattle.packed.specs.Format.{pick, ok, decode}
use Rattle.packed.specs.Formats.{record'}
use Rattle.packed.specs.Contents.{views_of}
use Rattle.packed.specs.Calls.{Outcome, give, refuse, with_workspace, rejected, read_catalogue, read_record, record_bytes}
use Rattle.packed.proofs.OrderCases.{lt_or_ge, eq_or_ne}
use Rattle.packed.proofs.EnteredLaws.{record_enters}
use Rattle.engine.specs.Lists.{In}
use Rattle.engine.specs.Simulation.{Pattern, Graph, graph_of, bit, view_sheet}
use Rattle.matching.specs.Search.{sheet_bytes}
use Rattle.matching.specs.Offered.{Brought, Offered, view_at, view_patterns}
use Rattle.matching.specs.Enter.{judge_link}
use Rattle.matching.specs.Ask.{changes, changed_views, ask_values, ask_for, ask_of, ask_outcome}
use Rattle.matching.specs.declared.state.State.{State}
use Rattle.matching.specs.declared.state.Link.{Link}
use Rattle.engine.proofs.ListLaws.{in_at}
use Rattle.matching.proofs.MatchSetLaws.{view_sheet_lem, view_same}
use Rattle.matching.proofs.RecordLaws.{graph_narrow, graph_few}
use Rattle.matching.proofs.SheetBytes.{sets_sheet, sheets_apart}
use Rattle.matching.proofs.OfferedLaws.{views_number, view_is, judged_wrong, set_judges}
use Rattle.matching.proofs.AskLaws.{changes_exactly, views_lt}
use Rattle.containment.specs.Quote.{no_pattern}
use Rattle.answering.specs.Demands.{CataloguePaper, Catalogue, Record, extract_of, extract_sheet_of, Full, Settles, first, then_none, ask_files, Refuses19, with_link, Fit, changed_of, ask_given, Asking}
use Rattle.containment.proofs.SetBits.{bit_over, bit_lt, more_self, more_other}
use Rattle.answering.proofs.Numbered.{record_faults, gives, read_settles, read_few, catalogue_few}
use Rattle.answering.proofs.CoveredBytes.{record_is, offered_goes_on}
use Rattle.answering.proofs.DemandRules.{number_same, goes_on, few_words, enough_words, full_judged, full_offered, full_words, refused_judged}
use Rattle.answering.proofs.DemandFiles.{Says, says_judged, says_give, says_offered}
use Rattle.answering.proofs.DemandSheets.{views_sound}
use Rattle.answering.proofs.WhenLaws.{refused_19}
use Rattle.answering.proofs.Entering.{fit_may, fit_judged, fit_exactly, unfit_exactly, unfit_low, link_settles}

-- ---- what is answered
module _ (r : List ℕ) (s : State) (l : Link) where
  abbrev next : Offered → Outcome
  next o = ask_of o r s l

  pub ask_settles_on : (o : Offered) → Settles (ask_of o r s l)
  ask_settles_on o = read_settles 44036 3 record_faults r (λ rs. link_settles s.links rs l (λ ws. gives _ []))

  link_rejected : (rs : List ℕ) {n d : ℕ} → judge_link s.links rs l ≡ rejected n d → n ≤ 6
  link_rejected rs {n} {d} e = (unfit_low s.links rs l ((unfit_exactly s.links rs l n d).0 e).0).1

  -- what follows the catalogue and its set has no number above 9
  refused_few : (o : Offered) {n d : ℕ} → ask_of o r s l ≡ refuse n d → n ≤ 9
  refused_few o {n} {d} e =
      ⊎_elim
      (λ x. read_few 44036 3 record_faults r x)
      (λ x.
      ⊎_elim
      (λ y. let z = link_rejected x.0 y in omega arith)
      (λ y. absurd (not-given y.2))
      (refused_judged (judge_link s.links x.0 l) _ x.2))
      (refused_judged (read_record r) (λ rs. ask_for o rs s l) e)
    where
      not-given : {vs : List ℕ} {outs : List (List ℕ)} → give vs outs ≡ refuse n d → ⊥
      not-given q = let z : ◌≡◌ {A = ℕ} 0 1 = cc in omega arith

  pub ask_says_on : (o : Offered) → Says (first (read_record r) (λ rs. first (judge_link s.links rs l) then_none)) (ask_of o r s l)
  ask_says_on o = says_judged (read_record r) (λ rs _. says_judged (judge_link s.links rs l) (λ ws _. says_give _ []))

  module _ (c : Brought) where
    pub ask_says : Says (ask_files c r s l) (ask_outcome c r s l)
    unfolding ask_outcome
    ask_says = says_offered c (λ o. ask_of o r s l) ask_says_on

    pub ask_19 : (cs : List ℕ) → CataloguePaper c.file cs → Refuses19 c cs (ask_outcome c r s l)
    unfolding ask_outcome
    ask_19 cs d = refused_19 c cs _ (λ o. ask_of o r s l) (goes_on _ d) (λ o n e q. let z = refused_few o q in omega arith)

    asked : (cs : Offered) (rs : List ℕ) → Catalogue c cs → Record r rs → Fit s.links rs l → ask_outcome c r s l ≡ give (ask_given (changed_of cs rs l) l s) []
    unfolding ask_outcome ask_values
    asked cs rs d e f =
        offered_goes_on c cs d (λ o. ask_of o r s l)
        ∙ goes_on (λ ws. ask_for cs ws s l) e
        ∙ goes_on (λ ws. give (ask_values cs rs s l ws) []) (fit_judged s.links rs l f)

    asked-only : Full (ask_outcome c r s l) → (cs : Offered) × (rs : List ℕ) × Catalogue c cs × Record r rs × Fit s.links rs l
    unfolding ask_outcome
    asked-only f =
        let t = full_offered c (λ o. ask_of o r s l) f in
        let u = full_judged (read_record r) (λ rs. ask_for t.0 rs s l) t.2 in
        let v = full_judged (judge_link s.links u.0 l) _ u.2 in
        (t.0, u.0, t.1, u.1, ((fit_exactly s.links u.0 l v.0).0 v.1).0)

    asked_refused : (n d : ℕ) → ask_outcome c r s l ≡ refuse n d → (n ≤ 9) ⊎ (n ≡ 19)
    unfolding ask_outcome
    asked_refused n d e =
        ⊎_elim
        (λ x. inl (catalogue_few c.file x))
        (λ x.
        ⊎_elim
        (λ y. inr (judged_wrong (set_judges c.one_way (length (views_of x.0))) y))
        (λ y. inl (refused_few _ y.2))
        (refused_judged _ _ x.2))
        (refused_judged (read_catalogue c.file) _ e)

-- ---- the set
module _ (o : Offered) (G H : Graph) where
  abbrev set_of : ℕ → ℕ
  set_of k = changed_views o G H k

  set_bit : (k a : ℕ) → a < k → bit (changed_views o G H k) a ≡ changes G H (view_at o a)
  unfolding changed_views
  set_bit zero a h = absurd (omega arith)
  set_bit (suc k) a h =
      ⊎_elim
      (λ (e : a ≡ k). subst (λ (i : ℕ). bit (set_of k + pick (changes G H (view_at o k)) (2 ^ k) 0) i ≡ changes G H (view_at o i)) (sym e) (own (changes G H (view_at o k))))
      (λ (e : a ≡ k → ⊥). other (changes G H (view_at o k)) (λ q. e (sym q)) ∙ set_bit k a (let z = apart e in omega arith))
      (eq_or_ne a k)
    where
      apart : (a ≡ k → ⊥) → a < k
      apart n = ⊎_elim (λ (l : a < k). l) (λ (l : k ≤ a). absurd (n (omega arith))) (lt_or_ge a k)

      lacks : bit (set_of k) k ≡ false
      lacks = bit_over (set_of k) k (views_lt o G H k)

      none : set_of k + 0 ≡ set_of k
      none = omega arith

      own : (b : Bool) → bit (set_of k + pick b (2 ^ k) 0) k ≡ b
      own true = more_self (set_of k) k lacks
      own false = ap (λ (x : ℕ). bit x k) none ∙ lacks

      other : (b : Bool) → (k ≡ a → ⊥) → bit (set_of k + pick b (2 ^ k) 0) a ≡ bit (set_of k) a
      other true n = more_other (set_of k) k lacks a n
      other false n = ap (λ (x : ℕ). bit x a) none

  true_by : (b : Bool) → T b → b ≡ true
  true_by true t = refl
  true_by false t = absurd t

  set_inside : (k a : ℕ) → T (bit (changed_views o G H k) a) → a < k
  set_inside k a t = bit_lt (set_of k) a k (true_by _ t) (views_lt o G H k)

-- ---- the extracts of the set
module _ (c : Brought) (r : List ℕ) (cs : Offered) (rs : List ℕ) (d : Catalogue c cs) (e : Record r rs) (links : ℕ) (l : Link) (f : Fit links rs l) where
  abbrev before : Graph
  before = graph_of rs

  abbrev after : Graph
  after = graph_of (with_link rs l)

  many : length (view_patterns cs) ≡ length (views_of cs.content)
  many = views_number cs

  extract_is : (a : ℕ) → a < length (view_patterns cs) → extract_of cs a ≡ view_at cs a
  extract_is a h = view_is cs a no_pattern (omega (arith, many))

  changes_lists : (a : ℕ) → T (bit (changed_of cs rs l) a) ↔ ((a < length (view_patterns cs)) × (view_sheet (extract_of cs a) before ≡ view_sheet (extract_of cs a) after → ⊥))
  changes_lists a = (
    λ t.
        let h : a < length (views_of cs.content) = set_inside cs before after _ a t in
        let i : a < length (view_patterns cs) = omega (arith, many) in
        (i, subst (λ (P : Pattern). view_sheet P before ≡ view_sheet P after → ⊥) (sym (extract_is a i)) ((changes_exactly before after (view_at cs a)).0 (subst T (set_bit cs before after _ a h) t))),
    λ x.
        let h : a < length (views_of cs.content) = omega (arith, x.0, many) in
        subst T (sym (set_bit cs before after _ a h)) ((changes_exactly before after (view_at cs a)).1 (subst (λ (P : Pattern). view_sheet P before ≡ view_sheet P after → ⊥) (extract_is a x.0) x.1)),
  )

  reads : decode record' r ≡ ok rs
  reads = record_is r rs e

  reads_after : decode record' (record_bytes (with_link rs l)) ≡ ok (with_link rs l)
  reads_after = (record_enters r rs reads l.from l.to l.kind (fit_may links rs l f)).made.back

  bytes_apart : (P : Pattern) → In P (view_patterns cs) → (sheet_bytes (view_sheet P before) ≡ sheet_bytes (view_sheet P after)) ↔ (view_sheet P before ≡ view_sheet P after)
  bytes_apart P i =
      let s = views_sound c cs d P i in (
        λ q.
            view_same P before after
            (sheets_apart P before after (sets_sheet P before s (graph_narrow r rs reads) (graph_few r rs reads))
            (sets_sheet P after s (graph_narrow (record_bytes (with_link rs l)) (with_link rs l) reads_after) (graph_few (record_bytes (with_link rs l)) (with_link rs l) reads_after))
            (ap sheet_bytes (sym (view_sheet_lem P before)) ∙ q ∙ ap sheet_bytes (view_sheet_lem P after))),
        λ q. ap sheet_bytes q,
      )

  changes_sheets : (a : ℕ) → T (bit (changed_of cs rs l) a) ↔ ((a < length (view_patterns cs)) × (extract_sheet_of (extract_of cs a) rs ≡ extract_sheet_of (extract_of cs a) (with_link rs l) → ⊥))
  changes_sheets a = (
    λ t. let x = (changes_lists a).0 t in (x.0, λ q. x.1 ((bytes_apart (extract_of cs a) (in_at (view_patterns cs) a no_pattern x.0)).0 q)),
    λ x. (changes_lists a).1 (x.0, λ q. x.1 ((bytes_apart (extract_of cs a) (in_at (view_patterns cs) a no_pattern x.0)).1 q)),
  )

pub asking : Asking
asking =
    record {
      gives = λ c r cs rs d e s l f words h. enough_words words (ask_outcome c r s l) h ∙ asked r s l c cs rs d e f;
      only = λ c r s l words f. asked-only r s l c (full_words words (ask_outcome c r s l) f);
      refuses = λ c r s l words n d e. refused_by c r s l words n d e;
      changes = changes_lists;
      changes_bytes = changes_sheets;
    }
  where
    refused_by : (c : Brought) (r : List ℕ) (s : State) (l : Link) (words n d : ℕ) → with_workspace words (ask_outcome c r s l) ≡ refuse n d → (n ≤ 9) ⊎ ((n ≡ 14) ⊎ (n ≡ 19))
    refused_by c r s l words n d e =
        ⊎_elim
        (λ (h : words < 16384). inr (inl (sym (number_same (sym (few_words words (ask_outcome c r s l) h) ∙ e)))))
        (λ (h : 16384 ≤ words). ⊎_elim inl (λ x. inr (inr x)) (asked_refused r s l c n d (sym (enough_words words (ask_outcome c r s l) h) ∙ e)))
        (lt_or_ge words 16384)
