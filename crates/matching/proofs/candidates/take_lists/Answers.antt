-- `matching::candidates::take_lists` meets its contract.
use Rattle.matching.proofs.TakingSheets.{sheet_start, sheet_more, lists_done, taken_zero}
use Rattle.matching.proofs.candidates.take_lists.Goals as goal
use Rattle.matching.proofs.candidates.take_lists.Goals.{then-x-ne0, else-x-ne0}

pub loop-f-init : goal.loop-f-init
loop-f-init c = sheet_start _ _ _ _ _ _ _ _ c.requires.2.begins

pub loop-f-preserved : goal.loop-f-preserved
loop-f-preserved c =
    let pre = c.requires in
    let loop = c.loop-f in
    let loop-test = c.loop-f-test in
    let list_at = c.list_at-l in
    let matched-by = c.matched_by-x in
    sheet_more loop.invariant pre.2 loop-test.true list_at.ensures matched-by.ensures
    (elim c.if-x-ne0.branch [ then-x-ne0 w ↦ rw w.work-is w.take_list.ensures | else-x-ne0 w ↦ rw w.work-is (taken_zero _ w.if-x-ne0.false) ])

pub returns : goal.returns
returns c = lists_done c.loop-f.invariant c.loop-f-test.false
