-- `matching::candidates::take_book` meets its contract.
use mathlib.Core.Path.{◌≡◌}
use native.Mathlib.Omega.{arith}
use lib.ListN.{length}
use Rattle.matching.proofs.TakingSheets.{book_start, book_more, book_end}
use Rattle.matching.proofs.candidates.take_book.Goals as goal
use Rattle.matching.proofs.candidates.take_book.Goals.{Start}

-- the table has sixteen numbers
sixteen : (c : Start) → length c.args.counts ≡ 16
sixteen c = c.well_formed.1.0.1.0.1

pub loop-a-init : goal.loop-a-init
loop-a-init c = book_start _ _ _ _ _ _ _ _

pub loop-a-preserved : goal.loop-a-preserved
loop-a-preserved c =
    let pre = c.requires in
    let loop = c.loop-a in
    let loop-test = c.loop-a-test in
    let edges-in = c.edges_in-within in
    let take-sheet = c.take_sheet-at in
    book_more loop.invariant pre.1 loop-test.true
    (omega (arith, pre.1.few, sixteen (goal.at.loop-a-preserved c).Start))
    edges-in.ensures.1 edges-in.ensures.2 take-sheet.ensures.0 take-sheet.ensures.1

pub returns : goal.returns
returns c = book_end c.loop-a.invariant c.loop-a-test.false
