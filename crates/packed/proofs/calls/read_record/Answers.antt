-- `packed::calls::read_record` meets its contract.
use mathlib.Core.Path.{refl}
use native.Mathlib.Omega.{arith}
use borrow.Author.Tests.{lt-ltb, le-ltb}
use lib.ListN.{length}
use Rattle.packed.specs.Formats.{record'}
use Rattle.packed.specs.Calls.{fit, record_read}
use Rattle.packed.proofs.Passing.{err_is}
use Rattle.packed.proofs.CallLaws.{read_finds, accepted_by, fit_fits, fitted_tight, fitted_given, body_refused, body_goes_on}
use Rattle.packed.proofs.GraphLaws.{holds_bounds}
use Rattle.packed.proofs.calls.read_record.Goals as goal

pub overflow_add-n : goal.overflow_add-n
overflow_add-n c = let h = c.in_ok-nodes.ensures in omega (arith, (holds_bounds h.0).0, (holds_bounds h.0).1)

pub overflow_mul-n : goal.overflow_mul-n
overflow_mul-n c = let h = c.in_ok-nodes.ensures in omega (arith, (holds_bounds h.0).0, (holds_bounds h.0).1)

pub overflow_add-n-2 : goal.overflow_add-n-2
overflow_add-n-2 c = let h = c.in_ok-nodes.ensures in omega (arith, (holds_bounds h.0).0, (holds_bounds h.0).1)

pub returns-then-out-n : goal.returns-then-out-n
unfolding record_read
returns-then-out-n c =
    let h = c.in_ok-nodes.ensures in
    body_goes_on (fit (length c.args.out.now)) (accepted_by (read_finds 44036 3 record' c.args.bytes.now h.1) h.0.is) (fitted_tight fit_fits c.args.out.now h.0.fields refl refl (omega (arith, (holds_bounds h.0).3)) (lt-ltb _ _ c.if-out-n.true))

pub returns : goal.returns
unfolding record_read
returns c =
    let h = c.in_ok-nodes.ensures in
    body_goes_on (fit (length c.args.out.now)) (accepted_by (read_finds 44036 3 record' c.args.bytes.now h.1) h.0.is) (fitted_given fit_fits c.args.out.now h.0.fields refl refl (omega (arith, (holds_bounds h.0).3)) (le-ltb _ _ c.if-out-n.false) (c.store_record.ensures h.0.fields h.0.is))

pub returns-in_err-nodes : goal.returns-in_err-nodes
unfolding record_read
returns-in_err-nodes c =
    let h = c.in_err-nodes.ensures in
    rw (err_is c.from_residual.result c.from_residual.ensures.1) (body_refused (fit (length c.args.out.now)) c.args.out.now refl c.in_err-nodes.field-0.0 h)
