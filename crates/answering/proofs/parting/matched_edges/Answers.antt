-- `answering::parting::matched_edges` meets its contract.
use Rattle.answering.proofs.parting.matched_edges.Goals as goal

pub returns : goal.returns
returns c = c.union.ensures _ _ c.masks_of-masks.ensures
