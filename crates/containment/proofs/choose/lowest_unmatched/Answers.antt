-- `containment::choose::lowest_unmatched` meets its contract.
use Rattle.containment.proofs.choose.lowest_unmatched.Goals as goal

pub returns : goal.returns
returns c = c.lowest_in.ensures _ c.masks_of-masks.ensures
