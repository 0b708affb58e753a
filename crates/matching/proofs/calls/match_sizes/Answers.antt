-- `matching::calls::match_sizes` meets its contract.
use Rattle.matching.proofs.calls.match_sizes.Goals as goal

pub returns : goal.returns
returns c = (c.match_batch.ensures.0, c.match_batch.ensures.1, c.counts-c.ensures.0, c.keep_sizes.ensures)
