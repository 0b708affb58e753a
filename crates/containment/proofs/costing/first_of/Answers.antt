-- `containment::costing::first_of` meets its contract.
use mathlib.Core.Path.{sym, ◌∙◌}
use Rattle.containment.specs.Tries.{foremost_tried}
use Rattle.containment.proofs.costing.first_of.Goals as goal

pub returns-then-is_first : goal.returns-then-is_first
unfolding foremost_tried
returns-then-is_first c = rw (sym c.is_first.ensures ∙ c.if-is_first.true)

pub returns : goal.returns
unfolding foremost_tried
returns c = rw (sym c.is_first.ensures ∙ c.if-is_first.false)
