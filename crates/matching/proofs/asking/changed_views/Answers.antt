-- `matching::asking::changed_views` meets its contract.
use native.Mathlib.Omega.{arith}
use mathlib.Core.Path.{refl, ◌∙◌}
use Rattle.engine.proofs.StartLaws.{room_blank}
use Rattle.matching.proofs.BookLaws.{batch_range, past_ready}
use Rattle.matching.proofs.AskLaws.{asking_start, asking_small, asking_next, asking_end}
use Rattle.matching.proofs.asking.changed_views.Goals as goal

pub loop-a-init : goal.loop-a-init
loop-a-init c = (asking_start, room_blank 4096 _ c.requires.0.ready.nodes refl refl refl, refl, refl, refl)

pub match_batch-requires : goal.match_batch-requires
match_batch-requires c =
    let inv = c.loop-a.invariant in
    let t = past_ready inv.0.past c.requires.0 in
    (c.fill-f.ensures.fair, t.0, t.1, inv.1, tt)

pub listed_views-set-requires : goal.listed_views-set-requires
listed_views-set-requires c =
    let pre = c.requires in
    let inv = c.loop-a.invariant in
    (batch_range pre.0 c.fill-f.ensures, pre.0.ready.edges, pre.1, c.match_batch.ensures.0.edges.long ∙ inv.0.past.edges.long ∙ pre.0.ready.long)

pub overflow_add-set : goal.overflow_add-set
overflow_add-set c =
    let pre = c.requires in
    omega (arith, asking_small pre.0 (asking_next pre.0 c.loop-a.invariant.0 pre.1 c.fill-f.ensures c.match_batch.ensures.0 c.listed_views-set.ensures))

pub loop-a-smaller : goal.loop-a-smaller
loop-a-smaller c = omega (arith, c.fill-f.ensures.some, c.fill-f.ensures.most)

pub loop-a-preserved : goal.loop-a-preserved
loop-a-preserved c =
    let pre = c.requires in
    let inv = c.loop-a.invariant in
    let q = c.match_batch.ensures in
    let kept = c.match_batch.auto in
    (asking_next pre.0 inv.0 pre.1 c.fill-f.ensures q.0 c.listed_views-set.ensures, q.1, kept.leave ∙ inv.2, kept.arrive ∙ inv.3, kept.held ∙ inv.4)

pub returns : goal.returns
returns c = asking_end c.requires.0 c.loop-a.invariant.0 (omega arith)
