-- `answering::parting::counts` meets its contract.
use mathlib.Core.Path.{refl}
use native.Mathlib.Omega.{arith}
use Rattle.containment.proofs.FieldLaws.{front_none}
use Rattle.answering.proofs.parting.counts.Goals as goal

pub returns : goal.returns
returns c = (refl, record { front = c.with_two.ensures _ (front_none c.no_words.ensures); most = omega arith })
