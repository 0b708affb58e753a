-- `matching::offered::accept_offer` meets its contract.
use Rattle.packed.proofs.Passing.{err_is}
use Rattle.matching.proofs.OfferedLaws.{judged_rejected, set_refused, set_taken}
use Rattle.matching.proofs.offered.accept_offer.Goals as goal

pub returns-in_err-f : goal.returns-in_err-f
returns-in_err-f c = rw (err_is c.from_residual.result c.from_residual.ensures.1) (λ f. judged_rejected _ c.in_err-f.ensures)

pub returns-in_err-judge_set : goal.returns-in_err-judge_set
returns-in_err-judge_set c = rw (err_is c.from_residual-in_err-judge_set.result c.from_residual-in_err-judge_set.ensures.1) (set_refused _ c.in_ok-f.ensures _ c.in_err-judge_set.ensures)

pub returns : goal.returns
returns c = set_taken _ c.in_ok-f.ensures _ c.in_ok-judge_set.ensures
