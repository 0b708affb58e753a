-- `packed::calls::read_pattern` meets its contract.
use mathlib.Core.Path.{refl}
use lib.ListN.{length}
use Rattle.packed.specs.Calls.{fit, pattern_read}
use Rattle.packed.proofs.Passing.{err_is}
use Rattle.packed.proofs.CallLaws.{body_refused, body_goes_on}
use Rattle.packed.proofs.calls.read_pattern.Goals as goal

pub returns-in_err-f : goal.returns-in_err-f
unfolding pattern_read
returns-in_err-f c =
    let a = c.args in
    rw (err_is c.from_residual.result c.from_residual.ensures.1) (body_refused (fit (length a.out.now)) a.out.now refl c.in_err-f.field-0.0 c.in_err-f.ensures)

pub returns : goal.returns
unfolding pattern_read
returns c =
    let give-words = c.give_words in
    let a = c.args in
    let q = c.in_ok-f.ensures in
    body_goes_on (fit (length a.out.now)) q.is (rw q.front at give-words.ensures)
