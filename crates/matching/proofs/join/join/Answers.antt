-- `matching::join::join` meets its contract.
use Rattle.matching.proofs.JoinedLaws.{joined_by}
use Rattle.matching.proofs.join.join.Goals as goal

pub returns : goal.returns
returns c =
    let pre = c.requires in
    let clear-masks = c.clear_masks in
    let take-book = c.take_book in
    let run = c.run in
    let prune = c.prune in
    joined_by _ _ _ pre.1 clear-masks.ensures take-book.ensures run.ensures prune.ensures
