-- `packed::record::store_record` meets its contract.
use mathlib.Core.Path.{◌≡◌, ◌∙◌, ap}
use native.Mathlib.Omega.{arith}
use lib.ListN.{length-set}
use lib.Seq.{sets}
use Rattle.packed.proofs.GraphLaws.{holds_bounds, labels_long, content_stored}
use Rattle.packed.proofs.record.store_record.Goals as goal

pub overflow_cast-out : goal.overflow_cast-out
overflow_cast-out c = omega (arith, (holds_bounds c.requires.0).0)

pub overflow_cast-out-2 : goal.overflow_cast-out-2
overflow_cast-out-2 c = omega (arith, (holds_bounds c.requires.0).1)

pub store_labels-requires : goal.store_labels-requires
store_labels-requires c = (c.requires.1, (holds_bounds c.requires.0).2, simp length-set (omega (arith, c.requires.2)))

pub store_edges-requires : goal.store_edges-requires
store_edges-requires c = (omega (arith, c.requires.0.long, (holds_bounds c.requires.0).1), omega (arith, labels_long c.args.nodes c.args.edges c.args.out.now c.store_labels.ensures, c.requires.2))

pub returns : goal.returns
returns c =
    λ ws e.
    c.store_edges.ensures ∙ content_stored c.args.out.now c.requires.0 c.requires.2 c.store_labels.ensures ∙ ap (sets c.args.out.now 0) (let z : c.requires.0.fields ≡ ws = cc c.requires.0.is in z)
