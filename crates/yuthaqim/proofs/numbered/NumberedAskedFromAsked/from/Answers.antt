-- `numbered::NumberedAskedFromAsked::from` meets its contract.
use Rattle.yuthaqim.proofs.NumberedLaws.{asked_done, asked_refused}
use Rattle.yuthaqim.proofs.numbered.NumberedAskedFromAsked.from.Goals as goal

pub returns-in-Ok : goal.returns-in-Ok
returns-in-Ok c = rw c.in-Ok.is (asked_done _ _)

pub returns-in-Err : goal.returns-in-Err
returns-in-Err c = rw c.in-Err.is (asked_refused c.in-Err.x c.number.ensures c.detail.ensures)
