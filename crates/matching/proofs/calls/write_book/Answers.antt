-- `matching::calls::write_book` meets its contract.
use native.Mathlib.Omega.{arith}
use mathlib.Core.Path.{refl, ◌∙◌}
use Rattle.matching.proofs.BookLaws.{written_start, batch_range, past_start, past_next, past_ready, book_marked, book_room, book_next, book_end}
use Rattle.matching.proofs.calls.write_book.Goals as goal

pub loop-a-init : goal.loop-a-init
loop-a-init c =
    let pre = c.requires in
    (past_start pre.1 pre.2, record { is = λ cs e. written_start _ _ _ _ }, pre.5, refl, refl, refl)

pub match_again-d-requires : goal.match_again-d-requires
match_again-d-requires c =
    let inv = c.loop-a.invariant in
    let t = past_ready inv.0 c.requires.0 in
    (c.fill-f.ensures.fair, t.0, t.1, inv.2)

pub write_sheets-at-requires : goal.write_sheets-at-requires
write_sheets-at-requires c =
    let pre = c.requires in
    let inv = c.loop-a.invariant in
    let v = c.fill-f.ensures in
    let none = c.list_nothing-nothing.ensures in
    let q = c.match_again-d.ensures.0 in
    (book_marked inv.0 pre.0 pre.3 pre.4 inv.1 v none q, c.counts-c.ensures.0, batch_range pre.0 v, book_room inv.0 pre.0 pre.3 pre.4 inv.1 v none q)

pub loop-a-smaller : goal.loop-a-smaller
loop-a-smaller c = omega (arith, c.fill-f.ensures.some, c.fill-f.ensures.most)

pub loop-a-preserved : goal.loop-a-preserved
loop-a-preserved c =
    let pre = c.requires in
    let inv = c.loop-a.invariant in
    let v = c.fill-f.ensures in
    let q = c.match_again-d.ensures in
    let kept = c.match_again-d.auto in
    (past_next inv.0 v q.0.edges, book_next inv.0 pre.0 pre.3 pre.4 inv.1 v c.list_nothing-nothing.ensures q.0 c.write_sheets-at.ensures, q.1, kept.leave ∙ inv.3, kept.arrive ∙ inv.4, kept.held ∙ inv.5)

pub returns : goal.returns
returns c = book_end c.loop-a.invariant.0 c.requires.0 (omega arith) c.loop-a.invariant.1
