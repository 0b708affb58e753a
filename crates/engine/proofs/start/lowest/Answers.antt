-- `engine::start::lowest` meets its contract.
use native.Mathlib.Omega.{arith}
use Rattle.engine.proofs.StartLaws.{lowest_of}
use Rattle.engine.proofs.start.lowest.Goals as goal

pub returns : goal.returns
returns c = lowest_of c.args.x c.requires (omega arith)
