-- Edges by their fields, one after the other: each by its place, and what is made of each.
use Prim.Native.Nat.{ℕ, zero, suc, ◌*◌, ◌<◌}
use mathlib.Core.Path.{◌≡◌, refl, sym, ap, subst, ◌∙◌}
use mathlib.Core.List.{List, [], ◌∷◌}
use lib.ListN.{length, get_or}
use native.Mathlib.Omega.{arith}
use Rattle.packed.specs.Contents.{each_edge}
use Rattle.packed.specs.Plain.{from_at, to_at, kind_at}
use Rattle.packed.proofs.EdgePlaces.{from_cons, to_cons, kind_cons}
use Rattle.engine.specs.Lists.{In, each, up_to}
use Rattle.engine.specs.Simulation.{Edge, between, no_edge, edges_in}
use Rattle.engine.specs.Masks.{OneOf}
use Rattle.engine.proofs.UpToLaws.{get_d_up_to, in_up_to, up_to_in, up_to_same, length_up_to}

-- the edge number i
abbrev pub edge_at : List ℕ → ℕ → Edge
edge_at es i = between (from_at es i) (to_at es i) (kind_at es i)

pub edges_in_up_to : (es : List ℕ) (m : ℕ) → length es ≡ 3 * m → edges_in es ≡ up_to (edge_at es) m
unfolding edges_in up_to
edges_in_up_to [] zero h = refl
edges_in_up_to [] (suc m) h = absurd (omega arith)
edges_in_up_to (a ∷ []) m h = absurd (omega arith)
edges_in_up_to (a ∷ b ∷ []) m h = absurd (omega arith)
edges_in_up_to (a ∷ b ∷ k ∷ es) zero h = absurd (omega arith)
edges_in_up_to (a ∷ b ∷ k ∷ es) (suc m) h =
    ap (λ (l : List Edge). between a b k ∷ l)
    (edges_in_up_to es m (omega arith)
    ∙ up_to_same (edge_at es) (λ j. edge_at (a ∷ b ∷ k ∷ es) (suc j)) m (λ i l. λ z. between (sym (from_cons a b k es i) z) (sym (to_cons a b k es i) z) (sym (kind_cons a b k es i) z)))

pub edge_at_lem : (es : List ℕ) (m i : ℕ) → length es ≡ 3 * m → i < m → get_or (edges_in es) i no_edge ≡ edge_at es i
edge_at_lem es m i h l = ap (λ (k : List Edge). get_or k i no_edge) (edges_in_up_to es m h) ∙ get_d_up_to (edge_at es) m i no_edge l

pub edges_in-length : (es : List ℕ) (m : ℕ) → length es ≡ 3 * m → length (edges_in es) ≡ m
edges_in-length es m h = ap length (edges_in_up_to es m h) ∙ length_up_to (edge_at es) m

pub edges_in_at : (es : List ℕ) (m : ℕ) → length es ≡ 3 * m → {f : Edge} → In f (edges_in es) → OneOf m (λ i. f ≡ edge_at es i)
edges_in_at es m h {f} j = up_to_in (edge_at es) m (subst (λ l. In f l) (edges_in_up_to es m h) j)

pub at_edges_in : (es : List ℕ) (m : ℕ) → length es ≡ 3 * m → (i : ℕ) → i < m → In (edge_at es i) (edges_in es)
at_edges_in es m h i l = subst (λ t. In (edge_at es i) t) (sym (edges_in_up_to es m h)) (in_up_to (edge_at es) m i l)

-- what is made of the edges with these fields is made of each edge
pub made_each : (g : ℕ → ℕ → ℕ → ℕ) (es : List ℕ) → each_edge g es ≡ each (λ f. g f.from f.to f.kind) (edges_in es)
unfolding each_edge edges_in each
made_each g [] = refl
made_each g (a ∷ []) = refl
made_each g (a ∷ b ∷ []) = refl
made_each g (a ∷ b ∷ k ∷ es) = ap (λ (l : List ℕ). g a b k ∷ l) (made_each g es)
