-- `packed::matches::write_lists` meets its contract.
use Rattle.packed.proofs.ScatterLaws.{lists_written}
use Rattle.packed.proofs.matches.write_lists.Goals as goal

pub returns : goal.returns
returns c =
    let pre = c.requires in
    let write-counts = c.write_counts-at in
    let write-pairs = c.write_pairs in
    lists_written _ _ _ _ _ pre.1 pre.0 pre.2 write-counts.ensures write-pairs.ensures.holds
