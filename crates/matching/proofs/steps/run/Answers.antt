-- `matching::steps::run` meets its contract.
use Rattle.matching.proofs.steps.run.Goals as goal

pub returns : goal.returns
returns c = c.go.ensures _ c.start-place.ensures.at
