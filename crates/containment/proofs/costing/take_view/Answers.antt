-- `containment::costing::take_view` meets its contract.
use Rattle.containment.specs.Tries.{taking}
use Rattle.containment.proofs.costing.take_view.Goals as goal

pub returns : goal.returns
unfolding taking
returns c =
    let only = c.only in
    let only2 = c.only-2 in
    rw (only.ensures, only2.ensures)
