-- `packed::gather::gather_book` meets its contract.
use mathlib.Core.Path.{◌≡◌}
use mathlib.Core.List.{[]}
use native.Mathlib.Omega.{arith}
use lib.ListN.{length}
use Rattle.packed.proofs.Walks.{book_none, book_more}
use Rattle.packed.proofs.Gathering.{gathers_none, walked_start, walked_more, walked_end}
use Rattle.packed.proofs.gather.gather_book.Goals as goal
use Rattle.packed.proofs.gather.gather_book.Goals.{Start}

-- the table has sixteen numbers
sixteen : (c : Start) → length c.args.counts ≡ 16
sixteen c = c.well_formed.1.0.1.0.1

pub loop-j-init : goal.loop-j-init
loop-j-init c = (gathers_none _ _ c.no_pairs-sofar.ensures.0 c.no_pairs-sofar.ensures.1 c.requires.3, walked_start _ _ _, omega arith, omega arith)

pub loop-j-preserved : goal.loop-j-preserved
loop-j-preserved c =
    let l = c.loop-j in
    let e = c.gather_sheet-w.ensures in
    let h = c.loop-j-test.true in
    let q = sixteen (goal.at.loop-j-preserved c).Start in
    (l.invariant.0, walked_more _ _ _ _ l.invariant.1 (book_more _ _ _ _ _ _ h (omega arith) e.0) e.2, omega arith, omega (arith, l.invariant.3, e.1, c.requires.2 l.j))

pub returns : goal.returns
returns c =
    let loop = c.loop-j in
    let loop-test = c.loop-j-test in
    let finish = c.finish in
    finish.ensures _ (walked_end loop.invariant.1 (book_none _ _ _ _ _ loop-test.false) [] loop.invariant.0)
