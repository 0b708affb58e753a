-- `numbered::NumberedCheapestFromCheapest::from` meets its contract.
use Rattle.yuthaqim.proofs.NumberedLaws.{cheapest_done, cheapest_refused}
use Rattle.yuthaqim.proofs.numbered.NumberedCheapestFromCheapest.from.Goals as goal

pub returns-in-Ok : goal.returns-in-Ok
returns-in-Ok c = rw c.in-Ok.is (cheapest_done _ _ _)

pub returns-in-Err : goal.returns-in-Err
returns-in-Err c =
    rw c.in-Err.is
    (cheapest_refused c.in-Err.x c.number.ensures c.detail.ensures)
