-- `packed::accept::reply_of` meets its contract.
use mathlib.Core.Path.{refl}
use Rattle.packed.proofs.Passing.{err_is}
use Rattle.packed.proofs.accept.reply_of.Goals as goal

pub returns-in_err-n : goal.returns-in_err-n
returns-in_err-n c = rw (err_is c.from_residual.result c.from_residual.ensures.1) (rw c.in_err-n.was refl)

pub returns : goal.returns
returns c = rw c.in_ok-n.was refl
