-- Lists of which all or none are empty; the match sets are such.
use mathlib.Core.Path.{◌≡◌, refl, sym, ap, subst, ◌∙◌}
use mathlib.Core.Logic.{◌⊎◌, inl, inr, ⊎_elim, ◌↔◌}
use mathlib.Core.Bool.{Bool, true, false, cond}
use mathlib.Core.List.{List, [], ◌∷◌}
use Prim.Native.Nat.{ℕ, ◌<◌}
use native.Mathlib.Omega.{arith}
use lib.ListN.{length}
use lib.Dec.{T, eqb}
use borrow.Author.Tests.{eqb-true, eqb-false}
use Rattle.packed.specs.Format.{pick}
use Rattle.packed.specs.Contents.{pair_count}
use Rattle.packed.specs.Matches.{any_empty, emptied, all_or_none}
use Rattle.packed.proofs.OrderCases.{or_cases, or_neither}
use Rattle.packed.proofs.SheetLaws.{total_emptied}
use Rattle.engine.specs.Lists.{In, here, there, each}
use Rattle.engine.specs.Simulation.{Pair, Edge, as_pair, Pattern, Graph, sim, total, row, ascending, match_sets, sound}
use Rattle.engine.proofs.ListLaws.{not_in_none, in_cases, each_in, in_each, in_length, first_in}
use Rattle.engine.proofs.SimLaws.{sim_is}
use Rattle.engine.proofs.MatchLaws.{Sim, Total, total_say, total_by, row_in, in_row, SoundPattern, sound_say}
use Rattle.engine.proofs.CodeLaws.{ascending_say, ascending_by, ascending_none}

pub none_empty : (ls : List (List ℕ)) → any_empty ls ≡ false → (l : List ℕ) → In l ls → 0 < length l
unfolding any_empty
none_empty [] h l i = absurd (not_in_none i)
none_empty (m ∷ ls) h l i =
    let n = or_neither (eqb (length m) 0) (any_empty ls) h in
    ⊎_elim (λ e. long (ap length e) (eqb-false (length m) 0 n.0)) (λ j. none_empty ls n.1 l j) (in_cases i)
  where
    long : length l ≡ length m → (length m ≡ 0 → ⊥) → 0 < length l
    long e f = omega arith

pub one_empty : (ls : List (List ℕ)) → any_empty ls ≡ true → (l : List ℕ) × In l ls × (length l ≡ 0)
unfolding any_empty
one_empty [] h = absurd (let z : ◌≡◌ {A = ℕ} 0 1 = cc in omega arith)
one_empty (m ∷ ls) h = ⊎_elim (λ e. (m, here refl, eqb-true _ _ e)) (λ e. let r = one_empty ls e in (r.0, there r.1, r.2)) (or_cases _ _ h)

pub emptied_each : {A : Type 0} (f : A → List ℕ) (l : List A) → emptied (each f l) ≡ each (λ x. []) l
unfolding emptied each
emptied_each f [] = refl
emptied_each f (x ∷ l) = ap (λ ls. [] ∷ ls) (emptied_each f l)

-- both cases of `all_or_none`
pub all_or_none_case : (Q : List (List ℕ) → Type 0) (ls : List (List ℕ)) → (((l : List ℕ) → In l ls → 0 < length l) → Q ls) → ((l : List ℕ) × In l ls × (length l ≡ 0) → Q (emptied ls)) → Q (all_or_none ls)
unfolding all_or_none
all_or_none_case Q ls f g = step (any_empty ls) (λ e. f (none_empty ls e)) (λ e. g (one_empty ls e))
  where
    step : (b : Bool) → (b ≡ false → Q ls) → (b ≡ true → Q (emptied ls)) → Q (pick b (emptied ls) ls)
    step true h k = k refl
    step false h k = h refl

-- lists that are emptied where a test fails, which passes exactly if none is empty
pub cond_all_or_none : {A : Type 0} (f : A → List Pair) (es : List A) (b : Bool) → (((e : A) → In e es → (x : Pair) × In x (f e)) ↔ T b)
    → each (λ e. ascending (cond b (f e) [])) es ≡ all_or_none (each (λ e. ascending (f e)) es)
cond_all_or_none {A} f es b h = all_or_none_case (λ ls. sets b ≡ ls) lists (λ g. full b (h.0 (nonempty g))) (λ r. none b λ t. one (h.1 t) r)
  where
    sets : Bool → List (List ℕ)
    sets c = each (λ e. ascending (cond c (f e) [])) es

    lists : List (List ℕ)
    lists = each (λ e. ascending (f e)) es

    nonempty : ((l : List ℕ) → In l lists → 0 < length l) → (e : A) → In e es → (x : Pair) × In x (f e)
    nonempty g e i =
        let m = first_in (ascending (f e)) (g _ (in_each (λ x. ascending (f x)) i)) in
        let r = ascending_say _ m.1 in
        (r.0, r.1)

    one : ((e : A) → In e es → (x : Pair) × In x (f e)) → (l : List ℕ) × In l lists × (length l ≡ 0) → ⊥
    one g (l, i, z) =
        let m = each_in _ es i in
        let k = in_length (ascending_by (g m.0 m.1).1) in
        let q = ap length m.2 in
        omega arith

    full : (c : Bool) → T c → sets c ≡ lists
    full true t = refl
    full false t = absurd t

    none : (c : Bool) → (T c → ⊥) → sets c ≡ emptied lists
    none true t = absurd (t tt)
    none false t = ap (λ l. each (λ e. l) es) ascending_none ∙ sym (emptied_each (λ e. ascending (f e)) es)

-- each has a code, or none has
abbrev Even : List (List ℕ) → Type 0
Even ls = ((l : List ℕ) → In l ls → 0 < length l) ⊎ (pair_count ls ≡ 0)

all_or_none_even : (ls : List (List ℕ)) → Even (all_or_none ls)
all_or_none_even ls = all_or_none_case Even ls (λ f. inl f) (λ r. inr (total_emptied ls))

-- ---- the match sets
module _ (P : Pattern) (G : Graph) (ok : T (sound P)) where
  abbrev s : SoundPattern P
  s = sound_say P ok

  -- every node of the pattern has a partner exactly if no edge's row is empty
  pub all_or_none_lem : ((e : Edge) → In e P.edges → (f : Pair) × In f (row G (sim P G) e)) ↔ T (total P (sim P G))
  all_or_none_lem = (λ f. total_by P (sim P G) (partner f), λ t e i. some-edge e i (total_say P (sim P G) t e.from (s.ends e i).0))
    where
      partner : ((e : Edge) → In e P.edges → (f : Pair) × In f (row G (sim P G) e)) → Total P (Sim P G)
      partner h u l = let c = s.touched u l in let r = h c.0 c.1 in let k = row_in P G r.1 in which c.0 k.0 k.4 k.5 c.2
        where
          which : (e f : Edge) → Sim P G e.from f.from → Sim P G e.to f.to → (e.from ≡ u) ⊎ (e.to ≡ u) → (v : ℕ) × Sim P G u v
          which e f a b (inl q) = (f.from, subst (λ w. Sim P G w f.from) q a)
          which e f a b (inr q) = (f.to, subst (λ w. Sim P G w f.to) q b)

      some-edge : (e : Edge) → In e P.edges → (v : ℕ) × Sim P G e.from v → (f : Pair) × In f (row G (sim P G) e)
      some-edge e i (v, a) = let n = (sim_is P G).follow e.from v a e i refl in (as_pair n.0, in_row P G e n.0 n.1 n.3 (subst (λ z. Sim P G e.from z) (sym n.2) a) n.4)

  -- the match sets by the rows, found without asking whether every node has a partner
  pub sets_all_or_none : match_sets P G ≡ all_or_none (each (λ e. ascending (row G (sim P G) e)) P.edges)
  unfolding match_sets
  sets_all_or_none = cond_all_or_none (row G (sim P G)) P.edges (total P (sim P G)) all_or_none_lem

  -- each match set has a code, or none has
  pub sets_even : ((l : List ℕ) → In l (match_sets P G) → 0 < length l) ⊎ (pair_count (match_sets P G) ≡ 0)
  sets_even = subst Even (sym sets_all_or_none) (all_or_none_even _)
