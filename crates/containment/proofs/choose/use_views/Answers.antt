-- `containment::choose::use_views` meets its contract.
use mathlib.Core.Path.{sym, ◌∙◌}
use Rattle.containment.proofs.ChoiceLaws.{used_covered, used_uncovered, lowest_leaves, lowest_covers}
use Rattle.containment.proofs.choose.use_views.Goals as goal

pub returns-then-lowest-m : goal.returns-then-lowest-m
returns-then-lowest-m c = λ t h low. sym (used_uncovered _ _ _ _ (lowest_leaves _ _ _ _ low c.if-lowest-m.true))

pub returns : goal.returns
returns c = λ t h low. let covers = lowest_covers _ _ _ _ low c.if-lowest-m.false in c.choose_in.ensures t h covers ∙ sym (used_covered _ _ _ _ covers)
