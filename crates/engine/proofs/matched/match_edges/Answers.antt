-- `engine::matched::match_edges` meets its contract.
use Rattle.engine.proofs.MatchedLaws.{alone}
use Rattle.engine.proofs.matched.match_edges.Goals as goal

pub returns : goal.returns
returns c =
    let pre = c.requires in
    let add = c.add-b in
    let batch = c.match_batch in
    (alone batch.ensures.0 add.ensures.3 pre.0 pre.1 c.none.ensures.2 add.ensures.2, batch.ensures.1)
