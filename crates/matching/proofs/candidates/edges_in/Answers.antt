-- `matching::candidates::edges_in` meets its contract.
use mathlib.Core.Path.{sym, subst, ◌∙◌}
use lib.Dec.{T}
use native.Mathlib.Omega.{arith}
use Rattle.matching.proofs.candidates.edges_in.Goals as goal

pub returns-then-is_in : goal.returns-then-is_in
returns-then-is_in c = (omega arith, (λ e l. (l, subst T (sym (sym c.is_in.ensures ∙ c.if-is_in.true)) tt)), λ e l h. l)

pub returns-else-is_in : goal.returns-else-is_in
returns-else-is_in c = (omega arith, (λ e l. absurd (omega arith)), λ e l h. absurd (subst T (sym c.is_in.ensures ∙ c.if-is_in.false) h))
