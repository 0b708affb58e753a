-- `containment::choose::choose_in` meets its contract.
use Rattle.containment.proofs.ChoiceLaws.{chosen_by}
use Rattle.containment.proofs.choose.choose_in.Goals as goal

pub returns : goal.returns
returns c = λ t h covers. chosen_by _ _ _ _ _ _ covers (c.take_views.ensures _ _ h) (c.drop_views.ensures _ h)
