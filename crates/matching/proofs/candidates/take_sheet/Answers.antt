-- `matching::candidates::take_sheet` meets its contract.
use Rattle.matching.proofs.TakingSheets.{sheet_end_lem}
use Rattle.matching.proofs.candidates.take_sheet.Goals as goal

pub returns : goal.returns
returns c =
    let args = c.args in
    let lists_at = c.lists_at-lists in
    let take-lists = c.take_lists-end in
    let u = take-lists.ensures in
    sheet_end_lem args.s.now args.start args.edges lists_at.result lists_at.ensures.0 u.0 c.next_sheet.ensures.0 u.2
