-- `packed::calls::write_record` meets its contract.
use mathlib.Core.Path.{refl}
use borrow.Author.Tests.{lt-ltb, le-ltb}
use lib.ListN.{length}
use Rattle.packed.specs.Format.{encode}
use Rattle.packed.specs.Formats.{record'}
use Rattle.packed.specs.Calls.{fit, record_written}
use Rattle.packed.proofs.Passing.{err_is}
use Rattle.packed.proofs.CallLaws.{write_finds, accepted_by, refused_by, fit_fits, body_refused, body_goes_on, fitted_tight, fitted_given, none_lent, judges_fields_front}
use Rattle.packed.proofs.calls.write_record.Goals as goal

pub returns-then-out-n : goal.returns-then-out-n
unfolding record_written
returns-then-out-n c =
    let j = c.judge_record_fields in
    let a = c.args in
    let q = c.in_ok-n.ensures in
    body_goes_on (fit (length a.out.now)) (accepted_by (write_finds 3 record' a.fields.now) q.is)
    (fitted_tight fit_fits a.out.now q.fields (none_lent a.out.now j.new.out j.auto.out) refl q.number (lt-ltb _ _ c.if-out-n.true))

pub returns : goal.returns
unfolding record_written
returns c =
    let if1 = c.if-out-n in
    let judge-record-fields2 = c.judge_record_fields-2 in
    let j = c.judge_record_fields in
    let a = c.args in
    let q = c.in_ok-n.ensures in
    body_goes_on (fit (length a.out.now)) (accepted_by (write_finds 3 record' a.fields.now) q.is)
    (fitted_given fit_fits a.out.now q.fields (none_lent a.out.now j.new.out j.auto.out) refl q.number (le-ltb _ _ if1.false)
    (judges_fields_front (encode record' a.fields.now) 3 judge-record-fields2.result q.fields _ _ judge-record-fields2.ensures q.is))

pub returns-in_err-n : goal.returns-in_err-n
unfolding record_written
returns-in_err-n c =
    let j = c.judge_record_fields in
    let a = c.args in
    let q = c.in_err-n.ensures in
    rw (err_is c.from_residual.result c.from_residual.ensures.1) (body_refused (fit (length a.out.now)) a.out.now (none_lent a.out.now j.new.out j.auto.out) c.in_err-n.field-0.0 (refused_by (write_finds 3 record' a.fields.now) c.in_err-n.field-0.0 q))
