-- `answering::answering::answer_pairs` meets its contract.
use Rattle.answering.proofs.AnsweringLaws.{answer_encodes}
use Rattle.answering.proofs.answering.answer_pairs.Goals as goal

pub returns : goal.returns
returns c =
    λ vs g. c.give_sheet.ensures _ (answer_encodes c.join.ensures c.requires.1.pool vs g)
