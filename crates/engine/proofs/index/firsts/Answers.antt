-- `engine::index::firsts` meets its contract.
use Rattle.engine.proofs.IndexLaws.{firsts_made}
use Rattle.engine.proofs.index.firsts.Goals as goal

pub returns : goal.returns
returns c = firsts_made c.clear.ensures c.mark.ensures c.carry.ensures
