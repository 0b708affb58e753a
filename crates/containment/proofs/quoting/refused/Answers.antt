-- `containment::quoting::refused` meets its contract.
use Rattle.containment.proofs.AnswerLaws.{refused_told}
use Rattle.containment.proofs.quoting.refused.Goals as goal

pub returns : goal.returns
returns c = refused_told c.args.x c.no_mapping.result c.no_mapping.ensures
