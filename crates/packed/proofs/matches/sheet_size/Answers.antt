-- `packed::matches::sheet_size` meets its contract.
use Rattle.packed.proofs.matches.sheet_size.Goals as goal

pub returns : goal.returns
returns c = c.size_from.ensures _ _ c.counts-c.ensures.0
