-- `listing::put_first` meets its contract.
use Rattle.listing.proofs.lines.put_first.Goals as goal

pub returns-in-Covered : goal.returns-in-Covered
returns-in-Covered c = rw (c.in-Ok.is, c.in-Covered.is) c.put.ensures

pub returns-in-Uncovered : goal.returns-in-Uncovered
returns-in-Uncovered c = rw (c.in-Ok.is, c.in-Uncovered.is) c.put-in-Uncovered.ensures
