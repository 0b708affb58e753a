-- `packed::old_record::judge_old_record` meets its contract.
use native.Mathlib.Omega.{arith}
use Rattle.packed.specs.OldRecord.{old_record}
use Rattle.packed.proofs.Passing.{err_is}
use Rattle.packed.proofs.OldRecords.{kept_once, kept_twice}
use Rattle.packed.proofs.OldGraphLaws.{orders_by}
use Rattle.packed.proofs.OldLoadingLaws.{loads_repeat, loads_wrong, lazy_end}
use Rattle.packed.proofs.old_record.judge_old_record.Goals as goal

pub returns-then-repeats : goal.returns-then-repeats
returns-then-repeats c =
    let pre = c.requires in
    let read-fields = c.read_fields-l in
    let repeats = c.repeats in
    let l = read-fields.ensures.0 in
    (loads_repeat l (kept_twice (omega (arith, pre.1)) l.kept repeats.ensures.0 c.if-repeats.true), tt)

pub returns-in_err-at : goal.returns-in_err-at
returns-in_err-at c =
    let pre = c.requires in
    let read-fields = c.read_fields-l in
    let repeats = c.repeats in
    let if1 = c.if-repeats in
    let l = read-fields.ensures.0 in
    rw (err_is c.from_residual.result c.from_residual.ensures.1) (rw c.in_err-at.was at (loads_wrong l (kept_once (omega (arith, pre.1)) l.kept repeats.ensures.0 if1.false) c.in_err-at.was), tt)

pub returns : goal.returns
returns c =
    let pre = c.requires in
    let read-fields = c.read_fields-l in
    let repeats = c.repeats in
    let if1 = c.if-repeats in
    let a = c.args in
    let e = read-fields.ensures in
    let l = e.0 in
    let q = rw c.in_ok-at.was at l.part in
    let d = rw c.in_ok-at.was at e.1 in
    let t = repeats.ensures in
    let j = c.close_file.ensures.0 old_record _ _
    (lazy_end (kept_once (omega (arith, pre.1)) l.kept t.0 if1.false) q) in
    (j, orders_by c.close_file.result a.s.now a.words.now read-fields.new.words 3 j (omega (arith, pre.1)) d t.1)
