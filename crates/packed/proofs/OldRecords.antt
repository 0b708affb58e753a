-- The edges of an old record by their ranks: the ranks of one edge more, an edge among others, and the ranks at the front of the workspace.
use Prim.Native.Nat.{ℕ, ◌+◌, ◌-◌, ◌<◌, ◌≤◌}
use mathlib.Core.Path.{◌≡◌, refl, ap, sym, ◌∙◌}
use mathlib.Core.List.{List, [], ◌∷◌, ◌++◌}
use mathlib.Core.Bool.{Bool, true, false, not, ◌&&◌}
use mathlib.Core.Logic.{⊎_elim}
use lib.ListN.{length, drop, get_or, set, length-append, length-set, get_or-append}
use lib.Seq.{sets}
use lib.Dec.{eqb}
use native.Mathlib.Omega.{arith}
use borrow.Author.Tests.{eq-eqb, ne_eqb, not-true, not-false}
use Rattle.packed.specs.Formats.{rank, linked}
use Rattle.packed.specs.OldLoading.{once, RanksKept}
use Rattle.packed.specs.Order.{word, all_different, TellsRepeat}
use Rattle.packed.specs.Contents.{member, each_edge, ranks}
use Rattle.packed.proofs.OrderCases.{eq_or_ne}
use Rattle.packed.proofs.Sets.{sets_append, sets_front}
use Rattle.packed.proofs.Sorts.{word_front}
use Rattle.packed.proofs.Repeats.{different_snoc, repeats_told}

-- the fields of so many edges: ends of 12 bits, and a kind
pub data RecordEdges : List ℕ → Type 0 where
  none : RecordEdges []
  edge : {x y z : ℕ} {es : List ℕ} → x < 4096 → y < 4096 → z < 8 → RecordEdges es → RecordEdges (x ∷ y ∷ z ∷ es)

-- ---- one edge more
pub edges_more : {a b k : ℕ} {es : List ℕ} → a < 4096 → b < 4096 → k < 8 → RecordEdges es → RecordEdges (es ++ (a ∷ b ∷ k ∷ []))
edges_more p q t none = edge p q t none
edges_more p q t (edge h g f e) = edge h g f (edges_more p q t e)

ranks_more : (a b k : ℕ) {es : List ℕ} → RecordEdges es → ranks (es ++ (a ∷ b ∷ k ∷ [])) ≡ ranks es ++ (rank a b k ∷ [])
unfolding each_edge
ranks_more a b k none = refl
ranks_more a b k (edge {x} {y} {z} h g f e) = ap (λ (l : List ℕ). rank x y z ∷ l) (ranks_more a b k e)

-- ---- an edge is among others where its rank is among theirs
same_rank : (x y z a b k : ℕ) → y < 4096 → b < 4096 → z < 8 → k < 8 → (eqb x a && (eqb y b && eqb z k)) ≡ eqb (rank x y z) (rank a b k)
same_rank x y z a b k h g f l =
    ⊎_elim
    (λ (p : x ≡ a). ⊎_elim
    (λ (q : y ≡ b). ⊎_elim
    (λ (t : z ≡ k). rw (eq-eqb x a p, eq-eqb y b q, eq-eqb z k t) (sym (eq-eqb (rank x y z) (rank a b k) (omega arith))))
    (λ (t : z ≡ k → ⊥). rw (eq-eqb x a p, eq-eqb y b q, ne_eqb z k t) (sym (ne_eqb (rank x y z) (rank a b k) (λ e. t (omega arith)))))
    (eq_or_ne z k))
    (λ (q : y ≡ b → ⊥). rw (eq-eqb x a p, ne_eqb y b q) (sym (ne_eqb (rank x y z) (rank a b k) (λ e. q (omega arith)))))
    (eq_or_ne y b))
    (λ (p : x ≡ a → ⊥). rw (ne_eqb x a p) (sym (ne_eqb (rank x y z) (rank a b k) (λ e. p (omega arith)))))
    (eq_or_ne x a)

linked_rank : (a b k : ℕ) {es : List ℕ} → b < 4096 → k < 8 → RecordEdges es → linked a b k es ≡ member (rank a b k) (ranks es)
unfolding linked each_edge member
linked_rank a b k p q none = refl
linked_rank a b k p q (edge {x} {y} {z} h g f e) = rw (same_rank x y z a b k g p f q, linked_rank a b k p q e)

-- no edge stands twice with one edge more, where none did and that edge was not among them
pub once_more : (a b k : ℕ) {es : List ℕ} → b < 4096 → k < 8 → RecordEdges es → once (es ++ (a ∷ b ∷ k ∷ [])) ≡ (once es && not (linked a b k es))
once_more a b k {es} p q e =
    ap all_different (ranks_more a b k e)
    ∙ different_snoc (ranks es) (rank a b k)
    ∙ ap (λ (t : Bool). once es && not t) (sym (linked_rank a b k p q e))

pub once_none : once [] ≡ true
unfolding each_edge all_different
once_none = refl

-- ---- the ranks in the workspace
-- k edges are loaded, and left more come
pub record RecordHeld (number : ℕ) (work₀ : List ℕ) (es : List ℕ) (work : List ℕ) (k left : ℕ) : Type 0 where
  pub fine : RecordEdges es
  pub kept : RanksKept es k work₀ work
  pub long : length work ≡ length work₀
  pub rest : k + left ≡ number

pub held_none : (number : ℕ) (work : List ℕ) → RecordHeld number work [] work 0 number
unfolding each_edge
held_none number work =
    record {
      fine = none;
      kept = record { held = refl; number = refl; few = omega arith };
      long = refl;
      rest = omega arith;
    }

pub held_more : {number : ℕ} {work₀ es work : List ℕ} {k left a b : ℕ} → number ≤ 8192 → 0 < left → a < 4096 → b < 4096
    → RecordHeld number work₀ es work k left → RecordHeld number work₀ (es ++ (a ∷ b ∷ 0 ∷ [])) (set work k (rank a b 0)) (k + 1) (left - 1)
held_more {number} {work₀} {es} {work} {k} {left} {a} {b} m l p q h =
    let c : ℕ = rank a b 0 in
    let e : ranks (es ++ (a ∷ b ∷ 0 ∷ [])) ≡ ranks es ++ (c ∷ []) = ranks_more a b 0 h.fine in
    let n : k ≡ length (ranks es) = h.kept.number in
    let z : k ≡ 0 + length (ranks es) = omega arith in
    let fine : RecordEdges (es ++ (a ∷ b ∷ 0 ∷ [])) = edges_more p q (omega arith) h.fine in
    record {
      fine = fine;
      kept = record {
        held =
            ap (λ (w : List ℕ). sets w k (c ∷ [])) h.kept.held
            ∙ ap (λ (j : ℕ). sets (sets work₀ 0 (ranks es)) j (c ∷ [])) z
            ∙ sets_append work₀ 0 (ranks es) (c ∷ [])
            ∙ ap (sets work₀ 0) (sym e);
        number = omega (arith, ap length e, length-append (ranks es) (c ∷ []));
        few = omega (arith, h.rest);
      };
      long = length-set work k c ∙ h.long;
      rest = omega (arith, h.rest);
    }

-- ---- the repeat check over the ranks
module _ {es : List ℕ} {k : ℕ} {work work' : List ℕ} (fits : 8192 ≤ length work) (h : RanksKept es k work work') where
  kept_word : (j : ℕ) → j < length (ranks es) → word work' 0 j ≡ get_or (ranks es) j 0
  kept_word j l =
      word_front work' j
      ∙ ap (λ (w : List ℕ). get_or w j 0) (h.held ∙ sets_front work (ranks es) (omega (arith, h.number, h.few)))
      ∙ get_or-append (ranks es) (drop (length (ranks es)) work) 0 j l

  kept_told : {r : Bool} → TellsRepeat k (word work' 0) r → r ≡ not (once es)
  kept_told {r} t = repeats_told work' (ranks es) k r h.number kept_word t

  pub kept_once : {r : Bool} → TellsRepeat k (word work' 0) r → r ≡ false → once es ≡ true
  kept_once t e = not-false (once es) (sym (kept_told t) ∙ e)

  pub kept_twice : {r : Bool} → TellsRepeat k (word work' 0) r → r ≡ true → once es ≡ false
  kept_twice t e = not-true (once es) (sym (kept_told t) ∙ e)
