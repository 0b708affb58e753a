-- `containment::quoting::quote_of` meets its contract.
use Rattle.containment.proofs.AnswerLaws.{covered_told, uncovered_told}
use Rattle.containment.proofs.ChoiceLaws.{lowest_leaves, lowest_covers}
use Rattle.containment.proofs.quoting.quote_of.Goals as goal

pub returns-then-lowest-m : goal.returns-then-lowest-m
returns-then-lowest-m c =
    let a = c.args in
    uncovered_told a.mapping a.set a.m a.k c.columns_in-columns.ensures c.lowest_in-lowest.result (lowest_leaves _ _ _ _ (c.lowest_in-lowest.ensures _ c.masks_of-masks.ensures) c.if-lowest-m.true) (c.lowest_in-lowest.ensures _ c.masks_of-masks.ensures)

pub returns : goal.returns
returns c =
    let a = c.args in
    let masks = c.masks_of-masks.ensures in
    let covers = lowest_covers _ _ _ _ (c.lowest_in-lowest.ensures _ masks) c.if-lowest-m.false in
    covered_told a.mapping a.set a.m a.k c.columns_in-columns.ensures c.choose_in.result covers (c.choose_in.ensures _ masks covers)
