-- `numbered::NumberedFirstDayFromFirstDay::from` meets its contract.
use Rattle.yuthaqim.proofs.NumberedLaws.{day_done, day_refused}
use Rattle.yuthaqim.proofs.numbered.NumberedFirstDayFromFirstDay.from.Goals as goal

pub returns-in-Some : goal.returns-in-Some
returns-in-Some c = rw (c.in-Ok.is, c.in-Some.is) (day_done 1 _)

pub returns-in-None : goal.returns-in-None
returns-in-None c = rw (c.in-Ok.is, c.in-None.is) (day_done 0 0)

pub returns-in-Err : goal.returns-in-Err
returns-in-Err c =
    rw c.in-Err.is
    (day_refused c.in-Err.x c.number.ensures c.detail.ensures)
