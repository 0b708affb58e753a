-- `packed::enter::put_edge` meets its contract.
use Rattle.packed.proofs.EnteringLaws.{put_within}
use Rattle.packed.proofs.enter.put_edge.Goals as goal

pub returns : goal.returns
returns c = let k = c.copy_within.ensures in put_within _ _ _ _ _ c.requires.0 c.requires.1 k.len k.by_index
