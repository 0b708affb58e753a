-- `containment::query::with_two` meets its contract.
use native.Mathlib.Omega.{arith}
use Rattle.containment.proofs.FieldLaws.{front_two}
use Rattle.containment.proofs.query.with_two.Goals as goal

pub returns : goal.returns
returns c = front_two _ _ (omega arith)
