-- `containment::mapping::map_views` meets its contract.
use native.Mathlib.Omega.{arith}
use mathlib.Core.Path.{refl}
use lib.ListN.{length-take}
use Rattle.containment.proofs.GraphedLaws.{graphed_size, graphed_reads, graphed_taken}
use Rattle.containment.proofs.mapping.map_views.Goals as goal

pub slice_bounds-load_record-end : goal.slice_bounds-load_record-end
slice_bounds-load_record-end c =
    let pre = c.requires in
    let write-graph = c.write_graph-size in
    omega (arith, graphed_size pre.0 (write-graph.ensures pre.0))

pub note_views-requires : goal.note_views-requires
note_views-requires c =
    let pre = c.requires in
    let w = c.write_graph-size in
    let s = graphed_size pre.0 (w.ensures pre.0) in (
      pre.0,
      pre.1,
      pre.2,
      simp length-take (omega arith),
      pre.3,
      (rw c.in-Ok.is at c.load_record-g.ensures).0,
      λ t. graphed_reads t (w.ensures t) refl,
    )

pub returns-in-Err : goal.returns-in-Err
returns-in-Err c =
    let write-graph = c.write_graph-size in
    let load-record = c.load_record-g in
    let q = rw c.in-Err.is at load-record.ensures in
    λ t v. graphed_taken t (write-graph.ensures t) refl q
