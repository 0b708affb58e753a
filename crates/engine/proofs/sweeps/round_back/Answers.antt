-- `engine::sweeps::round_back` meets its contract.
use Rattle.engine.proofs.RoundLaws.{back_settled}
use Rattle.engine.proofs.sweeps.round_back.Goals as goal

pub returns : goal.returns
returns c =
    let pre = c.requires in
    let arrivals = c.arrivals in
    let settle = c.settle in
    back_settled (pre) arrivals.ensures settle.ensures
