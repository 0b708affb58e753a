-- `answering::parting::part_fields` meets its contract.
use Rattle.answering.proofs.PartingLaws.{part_holds}
use Rattle.answering.proofs.parting.part_fields.Goals as goal

pub returns : goal.returns
returns c = λ takes tests. part_holds _ c.requires _ _ c.nodes_at-nodes.ensures takes tests c.number_in.ensures.0 c.number_in-2.ensures.0 c.counts-f.ensures.1 c.with_labels-g.ensures.1 c.with_edges.ensures
