-- `matching::steps::prune` meets its contract.
use mathlib.Core.Path.{refl}
use Rattle.matching.proofs.JoiningLaws.{every_prepared}
use Rattle.matching.proofs.PruningLaws.{pruned_by}
use Rattle.matching.proofs.steps.prune.Goals as goal

pub rest-requires : goal.rest-requires
rest-requires c =
    let pre = c.requires in
    let nodes = c.nodes-n in
    (every_prepared pre.1 nodes.ensures.0 nodes.ensures.1 refl refl refl, nodes.ensures.0, tt)

pub returns : goal.returns
returns c =
    let pre = c.requires in
    let nodes = c.nodes-n in
    pruned_by pre.1
    (record {
      few = nodes.ensures.0;
      ends = nodes.ensures.1;
      links = c.all-all.ensures;
      leaves = refl;
      arrives = refl;
      outs = refl;
      by_from = c.table-leaving.ensures;
      by_to = c.table-arriving.ensures;
    })
    c.table-ending.ensures c.table-starting.ensures c.rest.ensures
