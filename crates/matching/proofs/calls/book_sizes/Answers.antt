-- `matching::calls::book_sizes` meets its contract.
use native.Mathlib.Omega.{arith}
use mathlib.Core.Path.{◌∙◌}
use Rattle.matching.proofs.BookLaws.{batch_range, sizes_next, past_next, past_ready, sized_end}
use Rattle.matching.proofs.calls.book_sizes.Goals as goal

pub match_sizes-requires : goal.match_sizes-requires
match_sizes-requires c =
    let inv = c.loop-a.invariant in
    let v = c.fill-f.ensures in
    let t = past_ready inv.0 c.requires.0 in
    (v.fair, t.0, t.1, inv.3, batch_range c.requires.0 v, inv.2)

pub loop-a-smaller : goal.loop-a-smaller
loop-a-smaller c = omega (arith, c.fill-f.ensures.some, c.fill-f.ensures.most)

pub loop-a-preserved : goal.loop-a-preserved
loop-a-preserved c =
    let inv = c.loop-a.invariant in
    let v = c.fill-f.ensures in
    let q = c.match_sizes.ensures in
    let kept = c.match_sizes.auto in
    (past_next inv.0 v q.0.edges, sizes_next c.requires.0 v inv.0.edges q.0 q.2 q.3 inv.1, q.3.long ∙ inv.2, q.1, kept.leave ∙ inv.4, kept.arrive ∙ inv.5, kept.held ∙ inv.6)

pub returns : goal.returns
returns c = (sized_end c.loop-a.invariant.0 c.requires.0 (omega arith) c.loop-a.invariant.2 c.loop-a.invariant.1, c.loop-a.invariant.3)
