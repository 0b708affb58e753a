-- A link that enters a record: it is judged as the definition says, and the record with it and its index are what commit gives.
use Prim.Native.Nat.{ℕ, suc, ◌+◌, ◌<◌, ◌≤◌}
use mathlib.Core.Path.{◌≡◌, refl, sym, ap, ap₂, subst, ◌∙◌}
use mathlib.Core.List.{List, [], ◌∷◌}
use mathlib.Core.Bool.{true, false, ◌||◌}
use mathlib.Core.Logic.{⊎_elim}
use lib.ListN.{length, take, drop, length-drop}
use lib.Seq.{sets, length-take-le}
use lib.Dec.{leb}
use native.Mathlib.Omega.{arith}
use borrow.Author.Tests.{eq-eqb, ne_eqb, lt-ltb, le-ltb, leb-true, leb-false}
use Rattle.packed.specs.Format.{ok, decode}
use Rattle.packed.specs.Formats.{record', rank, linked}
use Rattle.packed.specs.Contents.{nodes_of, edges_of, member, ranks}
use Rattle.packed.specs.Entered.{edges_in, MayEnter, record_length, lower}
use Rattle.packed.specs.Entering.{word_ranks, Placed, EntersAt}
use Rattle.packed.specs.LoadedGraph.{Holds}
use Rattle.packed.specs.Refusals.{Told, told, number_of, detail_of, both_told}
use Rattle.packed.specs.Calls.{Outcome, give, refuse, told_of, Settled, Fulfils, with_workspace, accepted, rejected, record_bytes}
use Rattle.packed.specs.declared.reply.Refusal.{Refusal}
use Rattle.packed.specs.Parts.{Both}
use Rattle.packed.proofs.OrderCases.{lt_or_ge, or_cases, or_neither}
use Rattle.packed.proofs.CallLaws.{answers_refused, answers_on}
use Rattle.packed.proofs.RefusalNumbers.{refusal_numbered}
use Rattle.packed.proofs.GraphLaws.{record_bounds, holds_bounds}
use Rattle.packed.proofs.EnteredLaws.{Entered, record_enters}
use Rattle.packed.proofs.EnteredWords.{holds_ranks, holds_linked}
use Rattle.engine.specs.Simulation.{graph_of}
use Rattle.engine.specs.Index.{index_of}
use Rattle.engine.specs.Places.{FirstsMade}
use Rattle.engine.specs.Loaded.{Ready}
use Rattle.matching.specs.Enter.{judge_link, judge_slip, link_on, give_both, commit_for, commit_outcome, state_of, state_after, Commits}
use Rattle.matching.specs.Entering.{with_link, Enters, Counted, answered_by}
use Rattle.matching.specs.declared.entering.Answered.{Answered}
use Rattle.matching.specs.declared.state.State.{State}
use Rattle.matching.specs.declared.state.Link.{Link}
use Rattle.matching.specs.declared.state.Slip.{Slip}
use Rattle.engine.proofs.OwnIndex.{index_long, firsts_front}
use Rattle.matching.proofs.RecordLaws.{ready_by, ready_ends, index_same}
use Rattle.std.specs.Prelude.{Ok, Err, Some, None}

-- ---- a link is judged
module _ (links : ℕ) (ws : List ℕ) (l : Link) where
  pub wrong_count : (links ≡ edges_of ws → ⊥) → judge_link links ws l ≡ rejected 3 3
  unfolding judge_link
  wrong_count h = rw (ne_eqb links (edges_of ws) h)

  module _ (c : links ≡ edges_of ws) where
    pub wrong_from : nodes_of ws ≤ l.from → judge_link links ws l ≡ rejected 4 3
    unfolding judge_link
    wrong_from h = rw (eq-eqb links (edges_of ws) c, le-ltb l.from (nodes_of ws) h)

    pub wrong_to : l.from < nodes_of ws → nodes_of ws ≤ l.to → judge_link links ws l ≡ rejected 4 3
    unfolding judge_link
    wrong_to g h = rw (eq-eqb links (edges_of ws) c, lt-ltb l.from (nodes_of ws) g, le-ltb l.to (nodes_of ws) h)

    pub wrong_end : (leb (nodes_of ws) l.from || leb (nodes_of ws) l.to) ≡ true → judge_link links ws l ≡ rejected 4 3
    wrong_end t =
        ⊎_elim
        (λ (e : leb (nodes_of ws) l.from ≡ true). wrong_from (leb-true (nodes_of ws) l.from e))
        (λ (e : leb (nodes_of ws) l.to ≡ true).
        ⊎_elim (λ (g : l.from < nodes_of ws). wrong_to g (leb-true (nodes_of ws) l.to e)) (λ (g : nodes_of ws ≤ l.from). wrong_from g) (lt_or_ge l.from (nodes_of ws)))
        (or_cases (leb (nodes_of ws) l.from) (leb (nodes_of ws) l.to) t)

    module _ (from : l.from < nodes_of ws) (to : l.to < nodes_of ws) where
      pub wrong_kind : 8 ≤ l.kind → judge_link links ws l ≡ rejected 3 3
      unfolding judge_link
      wrong_kind h = rw (eq-eqb links (edges_of ws) c, lt-ltb l.from (nodes_of ws) from, lt-ltb l.to (nodes_of ws) to, le-ltb l.kind 8 h)

      module _ (kind : l.kind < 8) where
        pub link_there : linked l.from l.to l.kind (edges_in ws) ≡ true → judge_link links ws l ≡ rejected 6 3
        unfolding judge_link
        link_there h = rw (eq-eqb links (edges_of ws) c, lt-ltb l.from (nodes_of ws) from, lt-ltb l.to (nodes_of ws) to, lt-ltb l.kind 8 kind, h)

        module _ (new : linked l.from l.to l.kind (edges_in ws) ≡ false) where
          pub record_full : 8192 ≤ edges_of ws → judge_link links ws l ≡ rejected 3 3
          unfolding judge_link
          record_full h = rw (eq-eqb links (edges_of ws) c, lt-ltb l.from (nodes_of ws) from, lt-ltb l.to (nodes_of ws) to, lt-ltb l.kind 8 kind, new, le-ltb (edges_of ws) 8192 h)

          pub link_enters : edges_of ws < 8192 → {at : ℕ} → at ≡ lower (rank l.from l.to l.kind) (ranks (edges_in ws)) → Enters links ws l at
          link_enters h b =
              record {
                judged = unfold judge_link in rw (eq-eqb links (edges_of ws) c, lt-ltb l.from (nodes_of ws) from, lt-ltb l.to (nodes_of ws) to, lt-ltb l.kind 8 kind, new, lt-ltb (edges_of ws) 8192 h);
                count = c;
                may = record { from = from; to = to; is_kind = kind; new = new; room = h };
                behind = b;
              }

-- the ends are nodes where neither is beyond them
pub right_ends : (n : ℕ) (l : Link) → (leb n l.from || leb n l.to) ≡ false → (l.from < n) × (l.to < n)
right_ends n l t =
    let o = or_neither (leb n l.from) (leb n l.to) t in
    (leb-false n l.from o.0, leb-false n l.to o.1)

-- ---- beside a record whose edges stand in the workspace
module _ {s : List ℕ} {n m : ℕ} {w : List ℕ} (h : Holds s n m w) (links : ℕ) (l : Link) where
  abbrev content : List ℕ
  content = h.fields

  pub judged_count : (links ≡ m → ⊥) → judge_link links h.fields l ≡ rejected 3 3
  judged_count q = wrong_count links content l (λ e. q (e ∙ sym h.edges))

  module _ (c : links ≡ m) where
    pub judged_end : (leb n l.from || leb n l.to) ≡ true → judge_link links h.fields l ≡ rejected 4 3
    judged_end t = wrong_end links content l (c ∙ h.edges) (subst (λ (k : ℕ). (leb k l.from || leb k l.to) ≡ true) h.nodes t)

    module _ (t : (leb n l.from || leb n l.to) ≡ false) where
      from_is : l.from < nodes_of content
      from_is = omega (arith, (right_ends n l t).0, h.nodes)

      to_is : l.to < nodes_of content
      to_is = omega (arith, (right_ends n l t).1, h.nodes)

      pub judged_kind : 8 ≤ l.kind → judge_link links h.fields l ≡ rejected 3 3
      judged_kind k = wrong_kind links content l (c ∙ h.edges) from_is to_is k

      module _ (k : l.kind < 8) where
        linked-is : linked l.from l.to l.kind (edges_in content) ≡ member (rank l.from l.to l.kind) (word_ranks (take m w))
        linked-is = holds_linked h l.from l.to l.kind (omega (arith, (right_ends n l t).1, (holds_bounds h).0)) k

        pub judged_there : Placed (rank l.from l.to l.kind) (word_ranks (take m w)) None → judge_link links h.fields l ≡ rejected 6 3
        judged_there p = link_there links content l (c ∙ h.edges) from_is to_is k (linked-is ∙ p)

        module _ (at : ℕ) (p : Placed (rank l.from l.to l.kind) (word_ranks (take m w)) (Some at)) where
          pub judged_full : 8192 ≤ m → judge_link links h.fields l ≡ rejected 3 3
          judged_full q = record_full links content l (c ∙ h.edges) from_is to_is k (linked-is ∙ p.0) (omega (arith, h.edges))

          pub judged_enters : m < 8192 → Enters links h.fields l at
          judged_enters q =
              link_enters links content l (c ∙ h.edges) from_is to_is k (linked-is ∙ p.0) (omega (arith, h.edges))
              (p.1 ∙ ap (lower (rank l.from l.to l.kind)) (holds_ranks h))

  pub enters_at : {at : ℕ} → Enters links h.fields l at → EntersAt s l.from l.to l.kind at
  enters_at e = record { fields = h.fields; is = h.is; may = e.may; behind = e.behind }

-- ---- the record with the link, and its index
module _ {s : List ℕ} {n m : ℕ} {w : List ℕ} {l : Link} {at : ℕ} (h : Holds s n m w) (t : EntersAt s l.from l.to l.kind at) (ws : List ℕ) (e : decode record' s ≡ ok ws) where
  abbrev after : List ℕ
  after = with_link ws l

  fields_are : h.fields ≡ ws
  fields_are = cc (h.is, e)

  enters : Entered ws l.from l.to l.kind
  enters =
      let q : t.fields ≡ ws = cc (t.is, e) in
      record_enters s ws e l.from l.to l.kind (subst (λ (x : List ℕ). MayEnter x l.from l.to l.kind) q t.may)

  nodes_are : n ≡ nodes_of ws
  nodes_are = h.nodes ∙ ap nodes_of fields_are

  pub size_is : {r : ℕ} → r ≡ record_length n (m + 1) → r ≡ length (record_bytes after)
  size_is q =
      let x : m + 1 ≡ suc (edges_of ws) = omega (arith, h.edges, ap edges_of fields_are) in
      q ∙ ap₂ record_length nodes_are x ∙ sym enters.size

  after_nodes : length (graph_of after).labels ≡ n
  unfolding graph_of
  after_nodes =
      let b = record_bounds (record_bytes after) after enters.made.back in
      length-take-le (nodes_of after) (drop 2 after) (omega (arith, length-drop 2 after, b.2)) ∙ enters.nodes ∙ sym nodes_are

  pub entries_are : n + 1 ≡ length (index_of (graph_of after))
  entries_are = sym (index_long (length (graph_of after).labels) (graph_of after).edges ∙ ap (λ (k : ℕ). k + 1) after_nodes)

  pub now_ready : {w' : List ℕ} → Holds (record_bytes after) n (m + 1) w' → Ready (record_bytes after) n (m + 1) w'
  now_ready x = ready_by x (omega (arith, enters.made.size))

  pub index_given : {w' index index' : List ℕ} → Holds (record_bytes after) n (m + 1) w' → FirstsMade (m + 1) n w' index index' → n + 1 ≤ length index
      → index' ≡ sets index 0 (index_of (graph_of after))
  index_given {index = index} x F r =
      let q : x.fields ≡ after = cc (x.is, enters.made.back) in
      firsts_front (ready_ends (now_ready x)) F (omega arith)
      ∙ ap (sets index 0) (index_same x ∙ ap (λ (k : List ℕ). index_of (graph_of k)) q)

-- ---- the slip
module _ (ws : List ℕ) (links change : ℕ) (p : Slip) (room room' : ℕ) (outs : List (List ℕ)) where
  pub slip_old : (p.change ≡ change → ⊥) → Fulfils [] (commit_for ws (state_of links change) p room room') (told 20 (change ∷ [])) outs outs
  slip_old h = answers_refused _ outs {n = 20} {d = change} (unfold judge_slip in rw (ne_eqb p.change change h)) refl

  pub slip_last : p.change ≡ change → change ≡ 4294967295 → Fulfils [] (commit_for ws (state_of links change) p room room') (told 21 (change ∷ [])) outs outs
  slip_last g h = answers_refused _ outs {n = 21} {d = change} (unfold judge_slip in rw (eq-eqb p.change change g, eq-eqb change 4294967295 h)) refl

  module _ (g : p.change ≡ change) (h : change ≡ 4294967295 → ⊥) where
    current : judge_slip (state_of links change) p ≡ accepted []
    unfolding judge_slip
    current = rw (eq-eqb p.change change g, ne_eqb change 4294967295 h)

    pub link_refused : (x : Refusal) → judge_link links ws (link_on p) ≡ rejected (number_of x) (detail_of x)
        → Fulfils [] (commit_for ws (state_of links change) p room room') (both_told (Err x)) outs outs
    link_refused x e = answers_on _ current (answers_refused (give_both room room') outs e refl)

    pub link_accepted : {r : Told} {outs' : List (List ℕ)} → judge_link links ws (link_on p) ≡ accepted (with_link ws (link_on p)) → Fulfils [] (give_both room room' (with_link ws (link_on p))) r outs outs'
        → Fulfils [] (commit_for ws (state_of links change) p room room') r outs outs'
    link_accepted e b = answers_on _ current (answers_on (give_both room room') e b)

pub counted_by : (r : Both) {links change : ℕ} → links < 8192 → change < 4294967295 → Counted links change r
counted_by (Ok (a, b)) x y = (x, y)
counted_by (Err x) g h = tt

-- ---- the state
-- the two numbers after an answer are those after its outcome
pub state_after_lem : (a : Outcome) (r : Both) (s : State) → both_told r ≡ told_of [] a → state_of (answered_by r s).links (answered_by r s).change ≡ state_after a s
unfolding told_of state_after
state_after_lem (give vs outs) (Ok (x, y)) s e = refl
state_after_lem (refuse n d) (Ok (x, y)) s e = absurd (let z : ◌≡◌ {A = List ℕ} (x ∷ y ∷ []) (d ∷ []) = cc in let q = ap length z in omega arith)
state_after_lem (give vs outs) (Err x) s e = absurd (let n = (refusal_numbered x).least in let z : number_of x ≡ 0 = cc in omega arith)
state_after_lem (refuse n d) (Err x) s e = refl

answer_same : (b : Both) (s : State) → (answered_by b s).answer ≡ b
answer_same (Ok (x, y)) s = refl
answer_same (Err x) s = refl

-- what is settled of the outputs and the workspace settles the state
pub commits_by : (r : List ℕ) (links change : ℕ) (p : Slip) (b : Both) (z : Answered) {out out' index index' work work' : List ℕ} → z ≡ answered_by b (state_of links change)
    → Settled [] (with_workspace (length work) (commit_outcome r (state_of links change) p (length out) (length index))) (both_told b) (out ∷ index ∷ []) (out' ∷ index' ∷ []) work work'
    → Commits r (state_of links change) p (both_told z.answer) (state_of z.links z.change) out out' index index' work work'
commits_by r links change p b z {out} {out'} {index} {index'} {work} {work'} q t =
    let s : State = state_of links change in
    let a : Outcome = with_workspace (length work) (commit_outcome r (state_of links change) p (length out) (length index)) in
    let e : z.answer ≡ b = ap (λ (y : Answered). y.answer) q ∙ answer_same b s in
    record {
      settled = subst (λ (y : Both). Settled [] a (both_told y) (out ∷ index ∷ []) (out' ∷ index' ∷ []) work work') (sym e) t;
      state = ap (λ (y : Answered). state_of y.links y.change) q ∙ state_after_lem a b s t.result;
    }
