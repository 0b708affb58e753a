-- `packed::gather::gather_fields` meets its contract.
use mathlib.Core.Path.{◌≡◌, ap, ◌∙◌}
use mathlib.Core.List.{[]}
use Prim.Native.Nat.{ℕ}
use native.Mathlib.Omega.{arith}
use lib.ListN.{length, get_or}
use Rattle.packed.specs.Formats.{standing as standing_of}
use Rattle.packed.proofs.Walks.{book_from_none, book_from_more}
use Rattle.packed.proofs.Gathering.{gathers_none, walked_start, walked_more, walked_end}
use Rattle.packed.proofs.gather.gather_fields.Goals as goal
use Rattle.packed.proofs.gather.gather_fields.Goals.{Start}

-- the table has sixteen numbers
sixteen : (c : Start) → length c.args.counts ≡ 16
sixteen c = c.well_formed.1.0.1.0.1

pub loop-j-init : goal.loop-j-init
loop-j-init c = (gathers_none _ _ c.no_pairs-sofar.ensures.0 c.no_pairs-sofar.ensures.1 c.requires.2, walked_start _ _ _, omega arith, omega arith)

pub loop-j-preserved : goal.loop-j-preserved
loop-j-preserved c =
    let l = c.loop-j in
    let pre = c.requires in
    let low-at = c.low_at-lead in
    let standing = c.standing-lists in
    let args = c.args in
    let e = c.gather_list_fields-w.ensures in
    let h = c.loop-j-test.true in
    let q = sixteen (goal.at.loop-j-preserved c).Start in
    let n = standing.ensures.0 ∙ ap (λ (lead : ℕ). standing_of lead (get_or args.counts l.j 0)) low-at.ensures.0 in (
      l.invariant.0,
      walked_more _ _ _ _ l.invariant.1 (book_from_more _ _ _ _ _ _ _ h (omega arith) n e.0) e.2,
      omega arith,
      omega (arith, l.invariant.3, e.1, standing.ensures.1, pre.1 l.j),
    )

pub returns : goal.returns
returns c =
    let loop = c.loop-j in
    let loop-test = c.loop-j-test in
    let finish = c.finish in
    finish.ensures _ (walked_end loop.invariant.1 (book_from_none _ _ _ _ _ loop-test.false) [] loop.invariant.0)
