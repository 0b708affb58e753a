-- `numbered::NumberedBothFromBoth::from` meets its contract.
use Rattle.yuthaqim.proofs.NumberedLaws.{both_done, both_refused}
use Rattle.yuthaqim.proofs.numbered.NumberedBothFromBoth.from.Goals as goal

pub returns-in-Ok : goal.returns-in-Ok
returns-in-Ok c = rw c.in-Ok.is (both_done _ _)

pub returns-in-Err : goal.returns-in-Err
returns-in-Err c = rw c.in-Err.is (both_refused c.in-Err.x c.number.ensures c.detail.ensures)
