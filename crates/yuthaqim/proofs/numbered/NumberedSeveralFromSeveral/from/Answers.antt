-- `numbered::NumberedSeveralFromSeveral::from` meets its contract.
use Rattle.yuthaqim.proofs.NumberedLaws.{several_done, several_refused}
use Rattle.yuthaqim.proofs.numbered.NumberedSeveralFromSeveral.from.Goals as goal

pub returns-in-Ok : goal.returns-in-Ok
returns-in-Ok c = rw c.in-Ok.is (several_done _ _)

pub returns-in-Err : goal.returns-in-Err
returns-in-Err c = rw c.in-Err.is (several_refused c.in-Err.x c.number.ensures c.detail.ensures)
