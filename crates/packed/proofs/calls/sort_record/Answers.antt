-- `packed::calls::sort_record` meets its contract.
use mathlib.Core.Path.{refl}
use Prim.Native.Nat.{ℕ}
use lib.ListN.{length, length-replicate}
use Rattle.packed.specs.OldRecord.{sorted_fields, record_sorted}
use Rattle.packed.proofs.Passing.{err_is}
use Rattle.packed.proofs.CallLaws.{body_refused, body_goes_on}
use Rattle.packed.proofs.OldGraphLaws.{old_sizes, old_sorted, old_few}
use native.Mathlib.Omega.{arith}
use Rattle.packed.specs.Calls.{record_written}
use Rattle.packed.proofs.calls.sort_record.Goals as goal

pub returns-in_err-n : goal.returns-in_err-n
unfolding record_sorted
returns-in_err-n c =
    let d = rw c.in_err-n.was at c.accept_old_record.ensures.0 in
    rw (err_is c.from_residual.result c.from_residual.ensures.1) (body_refused (λ ws. record_written (sorted_fields ws) (length c.args.out.now)) c.args.out.now refl c.in_err-n.field-0.0 d)

pub store_ranked-requires : goal.store_ranked-requires
store_ranked-requires c =
    let d = rw c.in_ok-n.was at c.accept_old_record.ensures.0 in
    let o = rw c.in_ok-n.was at c.accept_old_record.ensures.1 in
    let room = length-replicate {A = ℕ} 28674 0 in
    (omega (arith, (old_sizes c.args.old.now _ _ _ _ _ room d o).0, (old_sizes c.args.old.now _ _ _ _ _ room d o).1, c.accept_old_record.auto.work, c.requires), omega (arith, (old_sizes c.args.old.now _ _ _ _ _ room d o).0, (old_sizes c.args.old.now _ _ _ _ _ room d o).1, c.accept_old_record.auto.words, room))

pub slice_bounds-write_record-end : goal.slice_bounds-write_record-end
slice_bounds-write_record-end c =
    let d = rw c.in_ok-n.was at c.accept_old_record.ensures.0 in
    let o = rw c.in_ok-n.was at c.accept_old_record.ensures.1 in
    let room = length-replicate {A = ℕ} 28674 0 in
    let z = old_sizes c.args.old.now _ _ _ _ _ room d o in
    omega (arith, z.0, z.1, z.2, c.store_ranked.auto.out, c.accept_old_record.auto.words, room)

pub returns : goal.returns
unfolding record_sorted
returns c =
    let d = rw c.in_ok-n.was at c.accept_old_record.ensures.0 in
    let o = rw c.in_ok-n.was at c.accept_old_record.ensures.1 in
    let room = length-replicate {A = ℕ} 28674 0 in
    body_goes_on (λ ws. record_written (sorted_fields ws) (length c.args.out.now)) d.is
    (rw (old_sorted c.args.old.now _ _ _ _ _ room d o _ (omega (arith, old_few c.args.old.now _ _ _ _ _ room d o, c.accept_old_record.auto.work, c.requires)) c.store_ranked.ensures) at c.write_record.ensures)
