-- `answering::several::join_again` meets its contract.
use mathlib.Core.Path.{refl, sym, ◌∙◌}
use Rattle.answering.proofs.SeveralAnswers.{nothing_held}
use Rattle.answering.proofs.several.join_again.Goals as goal

pub returns-then-size-eq1 : goal.returns-then-size-eq1
returns-then-size-eq1 c = (record { long = refl; same = λ i l. refl }, λ vs g e. nothing_held c.requires.0 c.requires.1.pool vs (sym e ∙ c.if-size-eq1.true))
