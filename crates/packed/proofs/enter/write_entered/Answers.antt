-- `packed::enter::write_entered` meets its contract.
use Prim.Native.Nat.{ℕ, ◌+◌}
use lib.ListN.{length-replicate, length-set}
use native.Mathlib.Omega.{arith}
use Rattle.packed.proofs.EnteredTable.{enters_bounds, entered_in}
use Rattle.packed.proofs.enter.write_entered.Goals as goal

pub store_record-requires : goal.store_record-requires
store_record-requires c =
    let b = enters_bounds c.requires.0 c.requires.2 in
    let room = length-replicate {A = ℕ} 28674 0 in
    (c.requires.0, c.requires.1, omega (arith, b.1, b.2, room))

pub put_edge-requires : goal.put_edge-requires
put_edge-requires c =
    let b = enters_bounds c.requires.0 c.requires.2 in
    (b.0, omega (arith, b.1, c.requires.0.long), omega (arith, b.2, b.3), omega (arith, b.2, b.4), b.5)

pub overflow_add-nodes : goal.overflow_add-nodes
overflow_add-nodes c = let b = enters_bounds c.requires.0 c.requires.2 in omega (arith, b.1, b.2)

pub store_edges-requires : goal.store_edges-requires
store_edges-requires c =
    let b = enters_bounds c.requires.0 c.requires.2 in
    let room = length-replicate {A = ℕ} 28674 0 in
    (omega (arith, b.1, c.put_edge.ensures.long, c.requires.0.long), omega (arith, b.1, b.2, c.store_record.auto.out, room, length-set c.store_record.new.out 1 (c.args.edges + 1)))

pub overflow_add-nodes-2 : goal.overflow_add-nodes-2
overflow_add-nodes-2 c = let b = enters_bounds c.requires.0 c.requires.2 in omega (arith, b.1, b.2)

pub overflow_add-nodes-3 : goal.overflow_add-nodes-3
overflow_add-nodes-3 c = let b = enters_bounds c.requires.0 c.requires.2 in omega (arith, b.1, b.2)

pub slice_bounds-judge_record_fields-end : goal.slice_bounds-judge_record_fields-end
slice_bounds-judge_record_fields-end c =
    let b = enters_bounds c.requires.0 c.requires.2 in
    let room = length-replicate {A = ℕ} 28674 0 in
    omega (arith, b.1, b.2, c.store_edges.auto.out, c.store_record.auto.out, room)

pub returns : goal.returns
returns c =
    let room = length-replicate {A = ℕ} 28674 0 in
    entered_in c.requires.0 c.requires.2 room c.put_edge.ensures c.store_record.ensures c.store_edges.ensures c.judge_record_fields.result c.judge_record_fields.ensures
