-- `containment::choose::is_cover` meets its contract.
use mathlib.Core.Path.{ap, ◌∙◌}
use lib.Dec.{eqb}
use Rattle.containment.proofs.MaskedLaws.{union_covers}
use Rattle.containment.proofs.choose.is_cover.Goals as goal

pub returns : goal.returns
returns c = λ t h. ap (eqb _) c.first_edges.ensures ∙ union_covers t _ _ _ (c.union.ensures t _ h)
