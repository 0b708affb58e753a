-- What is listed: a reading of the match sets that names no algorithm.
use mathlib.Core.Path.{◌≡◌, sym, subst}
use mathlib.Core.Logic.{◌↔◌}
use mathlib.Core.List.{[]}
use Prim.Native.Nat.{ℕ, ◌<◌}
use lib.ListN.{length, get_or}
use Rattle.packed.specs.Formats.{code}
use Rattle.engine.specs.Lists.{In}
use Rattle.engine.specs.Simulation.{Pair, no_edge, Pattern, Graph, match_sets}
use Rattle.engine.proofs.MatchLaws.{Matches, row_say, row_by}
use Rattle.engine.proofs.CodeLaws.{code_same, ascending_say, ascending_by}
use Rattle.matching.proofs.MatchSetLaws.{Narrow, matches_narrow, set_at}

module _ (P : Pattern) (G : Graph) where
  -- a match set lists codes of pairs that match its edge
  pub listed_matches : (i : ℕ) → i < length P.edges → (c : ℕ) → In c (get_or (match_sets P G) i []) → (f : Pair) × (c ≡ code f.0 f.1) × Matches P G (get_or P.edges i no_edge) f
  listed_matches i h c j = let r = ascending_say _ (subst (λ l. In c l) (set_at P G i h) j) in (r.0, r.2, row_say P G r.1)

  -- and of all: a pair of numbers, the second below 4096, is listed for an edge exactly if it matches it
  pub listed_exactly : Narrow G → (i : ℕ) → i < length P.edges → (f : Pair) → f.1 < 4096 → In (code f.0 f.1) (get_or (match_sets P G) i []) ↔ Matches P G (get_or P.edges i no_edge) f
  listed_exactly n i h f k = (
    λ j. let r = listed_matches i h (code f.0 f.1) j in subst (Matches P G (get_or P.edges i no_edge)) (sym (code_same k (matches_narrow n r.2).1 r.1)) r.2,
    λ m. subst (λ l. In (code f.0 f.1) l) (sym (set_at P G i h)) (ascending_by (row_by P G m)),
  )
