-- `matching::steps::start` meets its contract.
use Rattle.matching.proofs.SteppingLaws.{fresh_prepared, started_by}
use mathlib.Core.Path.{refl}
use Rattle.matching.proofs.steps.start.Goals as goal

pub round-requires : goal.round-requires
round-requires c = fresh_prepared c.requires.0 c.requires.1

pub returns : goal.returns
returns c = started_by c.requires.0 c.requires.1 c.round.ensures.0 c.round.ensures.1 _ refl refl c.loose.ensures (λ e l h. c.requires.1.links.hit e l)
