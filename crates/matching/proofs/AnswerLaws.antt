-- The lists of an answer from any sheets, also from those of no graph: all or none, where their pairs come from, and that a sheet can have them.
use mathlib.Core.Path.{◌≡◌, refl, sym, subst}
use mathlib.Core.Logic.{⊎_elim}
use mathlib.Core.Bool.{cond}
use mathlib.Core.List.{List, [], ◌∷◌}
use Prim.Native.Nat.{ℕ, ◌^◌, ◌≤◌, ◌<◌}
use native.Mathlib.Omega.{arith}
use lib.ListN.{length}
use Rattle.packed.specs.Formats.{code}
use Rattle.packed.specs.Distinct.{Increasing}
use Rattle.packed.specs.Contents.{distinct}
use Rattle.packed.specs.Matches.{all_or_none}
use Rattle.packed.proofs.DistinctLaws.{distinct_own}
use Rattle.engine.specs.Lists.{In, here, there, gather, each}
use Rattle.engine.specs.Simulation.{Pair, Edge, Pattern, as_graph, ascending, view_sheet}
use Rattle.matching.specs.Join.{is_match, View, pair_of, under, candidates, join, complete, kept_for, answer_sets}
use Rattle.engine.proofs.ListLaws.{cond_case, not_in_none, append_in, gather_in, each_in}
use Rattle.engine.proofs.CodeLaws.{ascending_say, ascending_increasing, distinct_fewer}
use Rattle.engine.proofs.AllOrNone.{cond_all_or_none}
use Rattle.matching.proofs.ByEdge.{answer_to}
use Rattle.matching.proofs.MatchSetLaws.{Listable, listable_by}
use Rattle.matching.proofs.JoinLaws.{join_candidate, kept_in, in_kept, complete_say, complete_by, answer_say, answer_each, pair_code}

-- the code c stands in a list of one of the sheets
pub record AnswerStands (vs : List View) (c : ℕ) : Type 0 where
  pub view : View
  pub given : In view vs
  pub list : List ℕ
  pub of_view : In list view.sheet
  pub here : In c list

under_from : (e : Edge) (gs : List Edge) (ms ls : List (List ℕ)) {c : ℕ} → In c (under e gs ms ls) → (l : List ℕ) × In l ls × In c l
unfolding under
under_from e [] ms ls i = absurd (not_in_none i)
under_from e (g ∷ gs) [] ls i = absurd (not_in_none i)
under_from e (g ∷ gs) (m ∷ ms) [] i = absurd (not_in_none i)
under_from e (g ∷ gs) (m ∷ ms) (l ∷ ls) {c} i =
    ⊎_elim first (λ j. let r = under_from e gs ms ls {c = c} j in (r.0, there r.1, r.2)) (append_in (cond (is_match e g m) l []) i)
  where
    first : In c (cond (is_match e g m) l []) → (k : List ℕ) × In k (l ∷ ls) × In c k
    first = cond_case (λ k. In c k → (h : List ℕ) × In h (l ∷ ls) × In c h) (is_match e g m) l [] (λ t j. (l, here refl, j)) (λ t j. absurd (not_in_none j))

module _ (Q : Pattern) (vs : List View) where
  -- the answer by the pairs kept, found without asking whether every edge keeps some
  pub answer_all_or_none : answer_sets Q vs ≡ all_or_none (each (λ e. ascending (kept_for (join Q vs) e)) Q.edges)
  unfolding answer_sets
  answer_all_or_none =
      cond_all_or_none (kept_for (join Q vs)) Q.edges (complete Q (join Q vs)) (
        λ f. complete_by Q vs λ e i. let r = f e i in (r.0, kept_in (join Q vs) r.1),
        λ t e i. let r = complete_say Q vs t e i in (r.0, in_kept (join Q vs) r.1),
      )

  candidate_stands : (e : Edge) {f : Pair} → In f (candidates Q vs e) → AnswerStands vs (code f.0 f.1)
  unfolding candidates
  candidate_stands e {f} i = of_code (each_in pair_of _ i)
    where
      of_view : (c : ℕ) (v : View) → In v vs → In c (under e v.pattern.edges (view_sheet v.pattern (as_graph Q)) v.sheet) → AnswerStands vs c
      of_view c v i j = let r = under_from e v.pattern.edges (view_sheet v.pattern (as_graph Q)) v.sheet j in record { view = v; given = i; list = r.0; of_view = r.1; here = r.2 }

      of_code : (c : ℕ) × In c (gather (λ v. under e v.pattern.edges (view_sheet v.pattern (as_graph Q)) v.sheet) vs) × (f ≡ pair_of c) → AnswerStands vs (code f.0 f.1)
      of_code (c, j, q) =
          let r = gather_in _ vs j in
          subst (λ g. AnswerStands vs (code g.0 g.1)) (sym q) (subst (AnswerStands vs) (sym (pair_code c)) (of_view c r.0 r.1 r.2))

  -- each pair of an answer stands in a sheet
  pub answer_stands : {l : List ℕ} {c : ℕ} → In l (answer_sets Q vs) → In c l → AnswerStands vs c
  answer_stands {l} {c} i j = of-list (each_in _ Q.edges (subst (λ ls. In l ls) (answer_each Q vs) i))
    where
      of_pair : (e : Edge) → (f : Pair) × In f (answer_to Q vs e) × (c ≡ code f.0 f.1) → AnswerStands vs c
      of_pair e (f, k, q) = subst (AnswerStands vs) (sym q) (candidate_stands e (join_candidate Q vs (answer_say Q vs k).1).1)

      of-list : (e : Edge) × In e Q.edges × (l ≡ ascending (answer_to Q vs e)) → AnswerStands vs c
      of-list (e, k, q) = of_pair e (ascending_say _ (subst (λ z. In c z) q j))

  pub answer_increasing : {l : List ℕ} → In l (answer_sets Q vs) → Increasing l
  answer_increasing {l} i = let r = each_in _ Q.edges (subst (λ ls. In l ls) (answer_each Q vs) i) in subst Increasing (sym r.2) (ascending_increasing (answer_to Q vs r.0))

  -- a sheet can have the lists of the answer, where the sheets have at most 8192 different pairs: those of pool
  pub answer_listable : (pool : List ℕ) → length pool ≤ 8192 → ((c : ℕ) → In c pool → c < 2 ^ 24) → ((c : ℕ) → AnswerStands vs c → In c pool) → (l : List ℕ) → In l (answer_sets Q vs) → Listable l
  answer_listable pool h s p l i = listable_by l (answer_increasing i) (λ c j. s c (in-pool c j)) most
    where
      in-pool : (c : ℕ) → In c l → In c pool
      in-pool c j = p c (answer_stands i j)

      most : length l ≤ 8192
      most = let q : length (distinct l) ≡ length l = rw (distinct_own l (answer_increasing i)) in omega (arith, distinct_fewer l pool in-pool)
