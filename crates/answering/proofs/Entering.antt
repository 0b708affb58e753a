-- A link enters a record, or is refused, exactly as is said of it.
use Prim.Native.Nat.{ℕ, ◌+◌, ◌<◌, ◌≤◌}
use mathlib.Core.Path.{◌≡◌, refl, sym, ap, ◌∙◌, subst}
use mathlib.Core.Bool.{Bool, true, false}
use mathlib.Core.Logic.{◌⊎◌, ⊎_elim, ◌↔◌, inl, inr}
use mathlib.Core.List.{List, [], ◌∷◌}
use native.Mathlib.Omega.{arith}
use borrow.Author.Tests.{eq-eqb, ne_eqb}
use Rattle.packed.specs.Format.{ok, decode}
use Rattle.packed.specs.Formats.{record', linked}
use Rattle.packed.specs.Contents.{nodes_of, edges_of}
use Rattle.packed.specs.Entered.{edges_in, MayEnter}
use Rattle.packed.specs.Calls.{Outcome, give, refuse, with_workspace, accepted, rejected, judged, read_record, record_bytes}
use Rattle.packed.proofs.OrderCases.{lt_or_ge, eq_or_ne}
use Rattle.packed.proofs.CallLaws.{read_says}
use Rattle.packed.proofs.Accepted.{record_accepted, record_read_lem}
use Rattle.packed.proofs.EnteredLaws.{Entered, record_enters}
use Rattle.engine.specs.Lists.{In}
use Rattle.engine.specs.Simulation.{Edge, graph_of}
use Rattle.matching.specs.Enter.{judge_link, judge_slip, link_on, give_both, commit_for, commit_outcome, state_after}
use Rattle.matching.specs.declared.state.State.{State}
use Rattle.matching.specs.declared.state.Link.{Link}
use Rattle.matching.specs.declared.state.Slip.{Slip}
use Rattle.matching.proofs.EnteringLaws as laws
use Rattle.matching.proofs.EnteredGraphs.{linked_in, not_linked, links_before, links_after, links_split, graph_entered, links_entered}
use Rattle.answering.specs.Demands.{Record, own_of, Full, Refused, Settles, commit_files, Fitted, OverEither, as_edge, with_link, Fit, Unfit, wrong_count, no_item, no_kind, there_already, full, Current, AtPlace, Entering}
use Rattle.answering.proofs.Numbered.{numbered, record_faults, refuses, fit_both_settles, read_settles}
use Rattle.matching.proofs.OfferedLaws.{judged_rejected}
use Rattle.answering.proofs.DemandRules.{number_same, detail_same, not_refused, goes_on, enough_words, enough_for, full_words, full_judged, fitted_both}
use Rattle.answering.proofs.DemandFiles.{Says, says_judged, says_fit_both, content_same}
use Rattle.answering.proofs.WhenLaws.{lower_both}

-- ---- the link
decided : (b : Bool) → (b ≡ true) ⊎ (b ≡ false)
decided true = inl refl
decided false = inr refl

module _ (links : ℕ) (rs : List ℕ) (l : Link) where
  abbrev is_linked : Bool
  is_linked = linked l.from l.to l.kind (edges_in rs)

  linked_there : is_linked ≡ true → In (as_edge l) (graph_of rs).edges
  unfolding graph_of
  linked_there t = linked_in l.from l.to l.kind (edges_in rs) t

  linked_not : is_linked ≡ false → In (as_edge l) (graph_of rs).edges → ⊥
  unfolding graph_of
  linked_not t i = not_linked l.from l.to l.kind (edges_in rs) t i

  new_linked : (In (as_edge l) (graph_of rs).edges → ⊥) → is_linked ≡ false
  new_linked n = ⊎_elim (λ t. absurd (n (linked_there t))) (λ t. t) (decided is_linked)

  there_linked : In (as_edge l) (graph_of rs).edges → is_linked ≡ true
  there_linked i = ⊎_elim (λ t. t) (λ t. absurd (linked_not t i)) (decided is_linked)

  pub fit_may : Fit links rs l → MayEnter rs l.from l.to l.kind
  fit_may f = record { from = f.items.0; to = f.items.1; is_kind = (let k = f.kind in omega arith); new = new_linked f.new; room = f.room }

  pub fit_judged : Fit links rs l → judge_link links rs l ≡ accepted (with_link rs l)
  fit_judged f =
      let m = fit_may f in
      (laws.link_enters links rs l f.count m.from m.to m.is_kind m.new m.room refl).judged

  unfit_judged : {n : ℕ} → Unfit links rs l n → judge_link links rs l ≡ rejected n 3
  unfit_judged (wrong_count c) = laws.wrong_count links rs l c
  unfit_judged (no_item c i) =
      ⊎_elim
      (λ (g : l.from < nodes_of rs). ⊎_elim (λ (h : l.to < nodes_of rs). absurd (i (g, h))) (λ (h : nodes_of rs ≤ l.to). laws.wrong_to links rs l c g h) (lt_or_ge l.to (nodes_of rs)))
      (λ (g : nodes_of rs ≤ l.from). laws.wrong_from links rs l c g)
      (lt_or_ge l.from (nodes_of rs))
  unfit_judged (no_kind c i k) = laws.wrong_kind links rs l c i.0 i.1 (omega arith)
  unfit_judged (there_already c i k t) = laws.link_there links rs l c i.0 i.1 (omega arith) (there_linked t)
  unfit_judged (full c i k n h) = laws.record_full links rs l c i.0 i.1 (omega arith) (new_linked n) h

  fit_or_unfit : Fit links rs l ⊎ ((n : ℕ) × Unfit links rs l n)
  fit_or_unfit =
      ⊎_elim
      (λ (c : links ≡ edges_of rs).
      ⊎_elim
      (λ (g : l.from < nodes_of rs).
      ⊎_elim
      (λ (h : l.to < nodes_of rs).
      ⊎_elim
      (λ (k : l.kind < 8).
      ⊎_elim
      (λ (t : is_linked ≡ true). inr (6, there_already c (g, h) (omega arith) (linked_there t)))
      (λ (t : is_linked ≡ false).
      ⊎_elim
      (λ (r : edges_of rs < 8192). inl (record { count = c; items = (g, h); kind = omega arith; new = linked_not t; room = r }))
      (λ (r : 8192 ≤ edges_of rs). inr (3, full c (g, h) (omega arith) (linked_not t) r))
      (lt_or_ge (edges_of rs) 8192))
      (decided is_linked))
      (λ (k : 8 ≤ l.kind). inr (3, no_kind c (g, h) (omega arith)))
      (lt_or_ge l.kind 8))
      (λ (h : nodes_of rs ≤ l.to). inr (4, no_item c (λ i. let x = i.1 in omega arith)))
      (lt_or_ge l.to (nodes_of rs)))
      (λ (g : nodes_of rs ≤ l.from). inr (4, no_item c (λ i. let x = i.0 in omega arith)))
      (lt_or_ge l.from (nodes_of rs)))
      (λ (c : links ≡ edges_of rs → ⊥). inr (3, wrong_count c))
      (eq_or_ne links (edges_of rs))

  not_rejected : {ws : List ℕ} {n d : ℕ} → accepted ws ≡ rejected n d → ⊥
  not_rejected e = let z : ◌≡◌ {A = ℕ} 0 1 = cc in omega arith

  pub fit_exactly : (ws : List ℕ) → (judge_link links rs l ≡ accepted ws) ↔ (Fit links rs l × (ws ≡ with_link rs l))
  fit_exactly ws = (
    λ e. ⊎_elim (λ f. (f, content_same (sym e ∙ fit_judged f))) (λ u. absurd (not_rejected (sym e ∙ unfit_judged u.1))) fit_or_unfit,
    λ f. fit_judged f.0 ∙ ap accepted (sym f.1),
  )

  pub unfit_exactly : (n d : ℕ) → (judge_link links rs l ≡ rejected n d) ↔ (Unfit links rs l n × (d ≡ 3))
  unfit_exactly n d = (
    λ e. ⊎_elim
        (λ f. absurd (not_rejected (sym (fit_judged f) ∙ e)))
        (λ u.
        let q : rejected u.0 3 ≡ rejected n d = sym (unfit_judged u.1) ∙ e in
        let x : u.0 ≡ n = cc in
        let y : d ≡ 3 = cc in
        (subst (λ (i : ℕ). Unfit links rs l i) x u.1, y))
        fit_or_unfit,
    λ x. unfit_judged x.0 ∙ ap (rejected n) (sym x.1),
  )

  pub unfit_low : {n : ℕ} → Unfit links rs l n → (1 ≤ n) × (n ≤ 6)
  unfit_low (wrong_count c) = (omega arith, omega arith)
  unfit_low (no_item c i) = (omega arith, omega arith)
  unfit_low (no_kind c i k) = (omega arith, omega arith)
  unfit_low (there_already c i k t) = (omega arith, omega arith)
  unfit_low (full c i k n h) = (omega arith, omega arith)

  pub link_settles : {k : List ℕ → Outcome} → ((ws : List ℕ) → Settles (k ws)) → Settles (judged (judge_link links rs l) k)
  link_settles {k} h =
      ⊎_elim
      (λ f. subst Settles (sym (goes_on k (fit_judged f))) (h (with_link rs l)))
      (λ u. subst Settles (sym (judged_rejected k (unfit_judged u.1))) (refuses 3 (let b = unfit_low u.1 in record { least = b.0; most = omega (arith, b.1) })))
      fit_or_unfit

  -- no number above 16 falls to what follows the slip
  link_lower : (room room' : ℕ) {n d : ℕ} → judged (judge_link links rs l) (give_both room room') ≡ refuse n d → n ≤ 16
  link_lower room room' {n} {d} e =
      ⊎_elim
      (λ f. lower_both room room' _ _ n d (sym (goes_on (give_both room room') (fit_judged f)) ∙ e))
      (λ u. let b = unfit_low u.1 in let z = number_same (sym (judged_rejected (give_both room room') (unfit_judged u.1)) ∙ e) in omega (arith, b.1))
      fit_or_unfit

-- ---- the slip
module _ (s : State) (p : Slip) where
  slip_old : (p.change ≡ s.change → ⊥) → judge_slip s p ≡ rejected 20 s.change
  unfolding judge_slip
  slip_old h = rw (ne_eqb p.change s.change h)

  slip_last : p.change ≡ s.change → s.change ≡ 4294967295 → judge_slip s p ≡ rejected 21 s.change
  unfolding judge_slip
  slip_last g h = rw (eq-eqb p.change s.change g, eq-eqb s.change 4294967295 h)

  slip_current : Current s p → judge_slip s p ≡ accepted []
  unfolding judge_slip
  slip_current c = rw (eq-eqb p.change s.change c.same, ne_eqb s.change 4294967295 c.not_last)

  slip_cases : (p.change ≡ s.change → ⊥) ⊎ (((p.change ≡ s.change) × (s.change ≡ 4294967295)) ⊎ Current s p)
  slip_cases =
      ⊎_elim
      (λ (g : p.change ≡ s.change). inr (⊎_elim (λ (h : s.change ≡ 4294967295). inl (g, h)) (λ (h : s.change ≡ 4294967295 → ⊥). inr (record { same = g; not_last = h })) (eq_or_ne s.change 4294967295)))
      (λ (g : p.change ≡ s.change → ⊥). inl g)
      (eq_or_ne p.change s.change)

  slip_settles : {k : List ℕ → Outcome} → ((ws : List ℕ) → Settles (k ws)) → Settles (judged (judge_slip s p) k)
  slip_settles {k} h =
      ⊎_elim
      (λ x. subst Settles (sym (judged_rejected k (slip_old x))) (refuses s.change (numbered 20 refl refl)))
      (⊎_elim (λ x. subst Settles (sym (judged_rejected k (slip_last x.0 x.1))) (refuses s.change (numbered 21 refl refl))) (λ c. subst Settles (sym (goes_on k (slip_current c))) (h [])))
      slip_cases

-- ---- commit
module _ (r : List ℕ) (s : State) (p : Slip) (room room' : ℕ) where
  pub commit_settles : Settles (commit_outcome r s p room room')
  unfolding commit_outcome
  commit_settles = read_settles 44036 3 record_faults r (λ rs. slip_settles s p (λ _. link_settles s.links rs (link_on p) (λ ws. fit_both_settles room room' _ _)))

  pub commit_says : Says (commit_files r s p) (commit_outcome r s p room room')
  unfolding commit_outcome
  commit_says =
      says_judged (read_record r) (λ rs _. says_judged (judge_slip s p) (λ _ _. says_judged (judge_link s.links rs (link_on p)) (λ ws _. says_fit_both room room' _ _)))

  commit_full : Full (commit_outcome r s p room room') → (rs : List ℕ) × Record r rs × Current s p × Fit s.links rs (link_on p)
  unfolding commit_outcome
  commit_full f =
      let a = full_judged (read_record r) (λ rs. commit_for rs s p room room') f in
      let b = full_judged (judge_slip s p) (λ _. judged (judge_link s.links a.0 (link_on p)) (give_both room room')) a.2 in
      let c = full_judged (judge_link s.links a.0 (link_on p)) (give_both room room') b.2 in
      let current : Current s p =
      ⊎_elim
      (λ x. absurd (rejects (sym (slip_old s p x) ∙ b.1)))
      (⊎_elim (λ x. absurd (rejects (sym (slip_last s p x.0 x.1) ∙ b.1))) (λ c. c))
      (slip_cases s p) in
      (a.0, a.1, current, ((fit_exactly s.links a.0 (link_on p) c.0).0 c.1).0)
    where
      rejects : {n d : ℕ} {ws : List ℕ} → rejected n d ≡ accepted ws → ⊥
      rejects e = let z : ◌≡◌ {A = ℕ} 0 1 = cc in omega arith

  module _ (rs : List ℕ) (e : Record r rs) where
    commit-read : commit_outcome r s p room room' ≡ commit_for rs s p room room'
    unfolding commit_outcome
    commit-read = goes_on (λ ws. commit_for ws s p room room') e

    commit-old : (p.change ≡ s.change → ⊥) → commit_outcome r s p room room' ≡ refuse 20 s.change
    commit-old h = commit-read ∙ judged_rejected _ (slip_old s p h)

    commit-last : p.change ≡ s.change → s.change ≡ 4294967295 → commit_outcome r s p room room' ≡ refuse 21 s.change
    commit-last g h = commit-read ∙ judged_rejected _ (slip_last s p g h)

    commit-on : Current s p → commit_outcome r s p room room' ≡ judged (judge_link s.links rs (link_on p)) (give_both room room')
    commit-on c = commit-read ∙ goes_on _ (slip_current s p c)

    commit-lower : Current s p → {n d : ℕ} → commit_outcome r s p room room' ≡ refuse n d → n ≤ 16
    commit-lower c q = link_lower s.links rs (link_on p) room room' (sym (commit-on c) ∙ q)

    old-exactly : (words d : ℕ) → (with_workspace words (commit_outcome r s p room room') ≡ refuse 20 d) ↔ ((16384 ≤ words) × (p.change ≡ s.change → ⊥) × (d ≡ s.change))
    old-exactly words d = (
      λ q.
          let w = enough_for words (commit_outcome r s p room room') (λ z. let y = number_same z in omega arith) q in
          ⊎_elim
          (λ x. (w.0, x, sym (detail_same (sym (commit-old x) ∙ w.1))))
          (⊎_elim
          (λ x. absurd (let y = number_same (sym (commit-last x.0 x.1) ∙ w.1) in omega arith))
          (λ c. absurd (let y = commit-lower c w.1 in omega arith)))
          (slip_cases s p),
      λ x. enough_words words (commit_outcome r s p room room') x.0 ∙ commit-old x.1 ∙ ap (refuse 20) (sym x.2),
    )

    last-exactly : (words d : ℕ)
        → (with_workspace words (commit_outcome r s p room room') ≡ refuse 21 d) ↔ ((16384 ≤ words) × (p.change ≡ s.change) × (s.change ≡ 4294967295) × (d ≡ s.change))
    last-exactly words d = (
      λ q.
          let w = enough_for words (commit_outcome r s p room room') (λ z. let y = number_same z in omega arith) q in
          ⊎_elim
          (λ x. absurd (let y = number_same (sym (commit-old x) ∙ w.1) in omega arith))
          (⊎_elim
          (λ x. (w.0, x.0, x.1, sym (detail_same (sym (commit-last x.0 x.1) ∙ w.1))))
          (λ c. absurd (let y = commit-lower c w.1 in omega arith)))
          (slip_cases s p),
      λ x. enough_words words (commit_outcome r s p room room') x.0 ∙ commit-last x.1 x.2 ∙ ap (refuse 21) (sym x.3),
    )

    commit-gives : Current s p → Fit s.links rs (link_on p) → (words : ℕ)
        → Fitted words (OverEither room room' (record_bytes (with_link rs (link_on p))) (own_of (with_link rs (link_on p)))) (record_bytes (with_link rs (link_on p)) ∷ own_of (with_link rs (link_on p)) ∷ [])
        (with_workspace words (commit_outcome r s p room room'))
    commit-gives c f words = fitted_both (commit_outcome r s p room room') words room room' _ _ (commit-on c ∙ goes_on (give_both room room') (fit_judged s.links rs (link_on p) f))

-- ---- the record with the link
module _ (r rs : List ℕ) (e : Record r rs) (links : ℕ) (l : Link) (f : Fit links rs l) where
  reads : decode record' r ≡ ok rs
  reads = (read_says 44036 3 record' r rs e).0

  may : MayEnter rs l.from l.to l.kind
  may = fit_may links rs l f

  enters : Entered rs l.from l.to l.kind
  enters = record_enters r rs reads l.from l.to l.kind may

  entered_read : Record (record_bytes (with_link rs l)) (with_link rs l)
  entered_read =
      (record_read_lem (record_bytes (with_link rs l)) (with_link rs l)).1 (enters.made.size, (record_accepted (record_bytes (with_link rs l)) (with_link rs l)).0 enters.made.back)

  entered_items : (graph_of (with_link rs l)).labels ≡ (graph_of rs).labels
  entered_items = ap (λ G. G.labels) (graph_entered r rs reads l.from l.to l.kind may)

  entered_links : (g : Edge) → In g (graph_of (with_link rs l)).edges ↔ ((g ≡ as_edge l) ⊎ In g (graph_of rs).edges)
  entered_links g = links_entered r rs reads l.from l.to l.kind may g

  entered_place : AtPlace rs l
  entered_place =
      record {
        before = links_before r rs reads l.from l.to l.kind may;
        after = links_after r rs reads l.from l.to l.kind may;
        old = links_split r rs reads l.from l.to l.kind may;
        new = ap (λ G. G.edges) (graph_entered r rs reads l.from l.to l.kind may);
      }

  entered_count : links + 1 ≡ edges_of (with_link rs l)
  entered_count = omega (arith, f.count, enters.number)

-- ---- the state
counts_on : (a : Outcome) (s : State) → Full a → ((state_after a s).links ≡ s.links + 1) × ((state_after a s).change ≡ s.change + 1)
unfolding state_after
counts_on (give vs outs) s f = (refl, refl)
counts_on (refuse n d) s f = absurd (not_refused (sym f.is))

stays_so : (a : Outcome) (s : State) → Refused a → state_after a s ≡ s
unfolding state_after
stays_so (give vs outs) s f = absurd (not_refused f.is)
stays_so (refuse n d) s f = refl

pub entering : Entering
entering =
    record {
      fit = fit_exactly;
      unfit = unfit_exactly;
      old_slip = λ r rs e s p room room'. old-exactly r s p room room' rs e;
      last_change = λ r rs e s p room room'. last-exactly r s p room room' rs e;
      gives = λ r rs e s p c f room room' words. commit-gives r s p room room' rs e c f words;
      only = λ r s p room room' words f. commit_full r s p room room' (full_words words (commit_outcome r s p room room') f);
      is_record = entered_read;
      items = entered_items;
      links = entered_links;
      at_place = entered_place;
      counts = counts_on;
      count_again = λ r rs e s l f. entered_count r rs e s.links l f;
      stays = stays_so;
    }
