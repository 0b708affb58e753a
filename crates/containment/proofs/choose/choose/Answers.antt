-- `containment::choose::choose` meets its contract.
use Rattle.containment.proofs.choose.choose.Goals as goal

pub returns : goal.returns
returns c = c.choose_in.ensures _ c.masks_of-masks.ensures c.requires.2
