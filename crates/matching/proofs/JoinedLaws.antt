-- What pruning both ways leaves of what the steps of a join left is the join.
use Prim.Native.Nat.{ℕ, ◌+◌, ◌<◌}
use mathlib.Core.Path.{◌≡◌, sym, ap, subst, ◌∙◌}
use mathlib.Core.Logic.{inr, ⊎_elim}
use mathlib.Core.Bool.{Bool}
use mathlib.Core.List.{List}
use lib.ListN.{get_or}
use native.Mathlib.Omega.{arith}
use Rattle.packed.specs.Limits.{pattern_nodes_most}
use Rattle.packed.specs.Formats.{code}
use Rattle.packed.specs.Contents.{distinct}
use Rattle.packed.specs.BookSheets.{list_at}
use Rattle.packed.specs.Matches.{marked, pair_in, codes_of, masks_of, matches_of}
use Rattle.packed.specs.Matches.{Marked as MarkedPairs}
use Rattle.packed.specs.declared.by_value.Pattern.{Pattern as Given}
use Rattle.engine.specs.Lists.{In, each, keep, up_to}
use Rattle.engine.specs.Simulation.{bit, Pair, Edge, Pattern, has, ascending}
use Rattle.engine.specs.Loaded.{given_edge, pattern_in, Edges}
use Rattle.engine.specs.Masks.{Has, OneOf}
use Rattle.matching.specs.Join.{View, pair_of, candidates, Kept, choice, join, kept_for, answer_sets}
use Rattle.matching.specs.Components.{state_at, Holds, Ran, Pruned}
use Rattle.matching.specs.Candidates.{Booked, Blank, Taken, BookListing}
use Rattle.matching.specs.Joining.{Agrees, Joined}
use Rattle.engine.proofs.ListLaws.{same_test, in_cast, each_in, in_each, keep_in, in_keep}
use Rattle.engine.proofs.SimLaws.{has_in, in_has}
use Rattle.engine.proofs.MaskBits.{none_has}
use Rattle.engine.proofs.UpToLaws.{in_up_to}
use Rattle.engine.proofs.CodeLaws.{ascending_same}
use Rattle.engine.proofs.MatchedLaws.{row_marked, sets_marked}
use Rattle.matching.proofs.JoinLaws.{kept_in, in_kept, pair_code}
use Rattle.matching.proofs.ComponentLaws.{after_more, after_less}
use Rattle.matching.proofs.AnswerLaws.{answer_all_or_none}

module _ (q : Given) (t : List ℕ) (set : ℕ) {s counts : List ℕ} {k d : ℕ} {w w₁ w₂ w₃ w₄ : List ℕ} {settled : ℕ}
    (book : Booked s counts k d w) (blank : Blank d w w₁) (taken : Taken d (BookListing s counts k t set q.edges) w₁ w₂)
    (ran : Ran q d pattern_nodes_most w₂ settled w₃) (pruned : Pruned q d w₃ w₄) where
  abbrev Q : Pattern
  Q = pattern_in q

  abbrev Takes : ℕ → ℕ → Type 0
  Takes c n = BookListing s counts k t set q.edges c n

  -- ---- what stays
  short : (i : ℕ) → i < d → i < 8192
  short i l = let b = book.pool.most in omega arith

  once : (i : ℕ) → i < 8192 → get_or w₁ i 0 ≡ get_or w i 0
  once i l = blank.around.low i l

  twice : (i : ℕ) → i < 8192 → get_or w₂ i 0 ≡ get_or w i 0
  twice i l = taken.around.low i l ∙ once i l

  edges : Edges w w₄
  edges =
      record {
        long = pruned.long ∙ ran.long ∙ taken.around.long ∙ blank.around.long;
        same = λ i l. pruned.pairs i l ∙ ran.pairs i l ∙ twice i l;
      }

  -- a word is the code of its pair
  low : (i : ℕ) → i < d → pair_in (get_or w₄ i 0) ≡ get_or w₄ i 0
  low i l = let z = edges.same i (short i l) in let s = book.pool.small i l in omega arith

  pairs_marked : MarkedPairs d w₄
  pairs_marked =
      let p = book.pool in
      let o = p.long in
      let e = edges.long in
      record {
        long = omega arith;
        most = p.most;
        rises = λ i j e l h a b.
            (let x = low i (omega arith) in
            let y = low j h in
            let u = edges.same i (short i (omega arith)) in
            let v = edges.same j (short j h) in
            let r = p.rises i j l h in
            omega arith);
      }

  -- ---- what is held before the steps
  before_say : (i n : ℕ) → i < d → Has (get_or w₂ (8192 + i) 0) n → Takes (get_or w i 0) n
  before_say i n l h =
      subst (λ (c : ℕ). Takes c n) (once i (short i l))
      (⊎_elim (λ b. absurd (none_has n (subst (λ (x : ℕ). Has x n) (blank.each i l) b))) (λ b. b) ((taken.each i l).why n h))

  before_by : (i n : ℕ) → i < d → Takes (get_or w i 0) n → Has (get_or w₂ (8192 + i) 0) n
  before_by i n l h = (taken.each i l).hit n (inr (subst (λ (c : ℕ). Takes c n) (sym (once i (short i l))) h))

  -- a pair that a list has stands among the d pairs
  present : (c n : ℕ) → Takes c n → OneOf d (λ i. get_or w i 0 ≡ c)
  unfolding list_at
  present c n h =
      let a = h.holds.1.under in
      ((book.each h.at h.below).each a.at a.below).present c a.holds.0

  pair : ℕ → Pair
  pair i = pair_of (get_or w₄ i 0)

  module _ (vs : List View) (g : Agrees q t set s counts k vs) where
    abbrev J : List Kept
    J = join Q vs

    -- what is chosen from what the steps leave
    abbrev After : List Kept
    After = choice Q (state_at (bit settled) Q (candidates Q vs))

    pair_same : {a b : ℕ} → pair_of a ≡ pair_of b → b ≡ a
    pair_same {a} {b} e = sym (pair_code b) ∙ sym (ap (λ (x : Pair). code x.0 x.1) e) ∙ pair_code a

    -- at first the pairs are held for the candidates
    first : Holds q d w₂ (candidates Q vs)
    first =
        record {
          listed = λ i n l le h. subst (λ (c : ℕ). In (pair_of c) (candidates Q vs (given_edge q n))) (sym (twice i (short i l))) (g.to n (get_or w i 0) le (before_say i n l h));
          held = λ i n l le h.
              (let r = g.from n (pair_of (get_or w₂ i 0)) le h in
              before_by i n l (subst (λ (x : ℕ). Takes x n) (pair_same r.1 ∙ twice i (short i l)) r.2));
          among = λ n f le h.
              (let r = g.from n f le h in
              let o = present r.0 n r.2 in
              (o.at, o.below, r.1 ∙ ap pair_of (sym o.holds ∙ sym (twice o.at (short o.at o.below)))));
        }

    -- in the end for those of the join: pruning starts from the state at the nodes that the steps settled
    last : Holds q d w₄ (kept_for J)
    unfolding join
    last =
        let h = pruned.state (state_at (bit settled) Q (candidates Q vs)) (ran.state (candidates Q vs) first) in
        record {
          listed = λ i n l le x. say (given_edge q n) (h.listed i n l le x);
          held = λ i n l le x. h.held i n l le (by (given_edge q n) x);
          among = λ n f le x. h.among n f le (by (given_edge q n) x);
        }
      where
        say : (e : Edge) {f : Pair} → In f (kept_for After e) → In f (kept_for J e)
        say e x = in_kept J (after_more (bit settled) Q (candidates Q vs) (kept_in After x))

        by : (e : Edge) {f : Pair} → In f (kept_for J e) → In f (kept_for After e)
        by e x = in_kept After (after_less (bit settled) Q (candidates Q vs) (kept_in J x))

    -- ---- the lists
    row : (n : ℕ) → n < q.edges → distinct (marked n (codes_of d w₄) (masks_of d w₄)) ≡ ascending (kept_for J (given_edge q n))
    row n l =
        row_marked pairs_marked n (λ i. i) pair test
        (λ i m. same_test _ _ (λ h. in_has (unfold pair in last.listed i n m l h)) (λ h. last.held i n m l (unfold pair in has_in (pair i) h)))
        (λ i m. low i m ∙ sym (unfold pair in pair_code (get_or w₄ i 0)))
        ∙ ascending_same (each pair (keep test (up_to (λ i. i) d))) (kept_for J (given_edge q n))
        (λ f j. let r = each_in pair _ j in in_cast (sym r.2) (has_in (pair r.0) (keep_in test (up_to (λ i. i) d) r.1).1))
        (λ f j.
        let o = last.among n f l j in
        let z : f ≡ pair o.0 = unfold pair in o.2 in
        in_cast (sym z) (in_each pair (in_keep test (in_up_to (λ i. i) d o.0 o.1) (in_has (in_cast z j)))))
      where
        test : ℕ → Bool
        test i = has (pair i) (kept_for J (given_edge q n))

    sets : matches_of d q.edges w₄ ≡ answer_sets Q vs
    unfolding pattern_in
    sets = sets_marked pairs_marked q.edges (given_edge q) (kept_for J) row ∙ sym (answer_all_or_none Q vs)

  pub joined_by : Joined q t set s counts k d w w₄
  joined_by = record { edges = edges; sets = sets; start = w₂; settled = settled; held = first; middle = w₃; ran = ran; pruned = pruned }
