-- `engine::batch::add` meets its contract.
use native.Mathlib.Omega.{arith}
use mathlib.Core.Path.{refl}
use Rattle.engine.proofs.MaskBits.{mask_or, mask_self}
use Rattle.engine.proofs.PartLaws.{added}
use Rattle.engine.proofs.batch.add.Goals as goal

pub put-new_labels-requires : goal.put-new_labels-requires
put-new_labels-requires c = (omega arith, (omega arith, (c.requires.1.nodes, c.requires.3, omega arith, c.requires.1.labels)))

pub put-new_from-requires : goal.put-new_from-requires
put-new_from-requires c =
    let pre = c.requires in
    (omega arith, (omega arith, (pre.1.edges, pre.2, pre.0.nodes, λ e l. omega (arith, pre.1.from e l, pre.1.nodes))))

pub put-new_to-requires : goal.put-new_to-requires
put-new_to-requires c =
    let pre = c.requires in
    (omega arith, (omega arith, (pre.1.edges, pre.2, pre.0.nodes, λ e l. omega (arith, pre.1.to e l, pre.1.nodes))))

pub put-new_kind-requires : goal.put-new_kind-requires
put-new_kind-requires c =
    let pre = c.requires in
    (omega arith, (omega arith, (pre.1.edges, pre.2, omega arith, λ e l. omega (arith, pre.1.kind e l))))

pub asked-asked-requires : goal.asked-asked-requires
asked-asked-requires c = c.requires.2

pub returns : goal.returns
returns c =
    let pre = c.requires in
    added pre.0 pre.1 pre.2 pre.3
    (record {
      nodes = refl;
      edges = refl;
      labels = c.put-new_labels.ensures;
      from = c.put-new_from.ensures;
      to = c.put-new_to.ensures;
      kind = c.put-new_kind.ensures;
      back = mask_or (mask_self _) c.asked-asked.ensures;
    })
