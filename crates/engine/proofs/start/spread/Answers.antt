-- `engine::start::spread` meets its contract.
use mathlib.Core.Path.{refl}
use Rattle.engine.proofs.StartLaws.{spreading_more, spreading_end}
use Rattle.engine.proofs.start.spread.Goals as goal

pub loop-v-preserved : goal.loop-v-preserved
loop-v-preserved c =
    let pre = c.requires in
    let loop = c.loop-v in
    let loop-test = c.loop-v-test in
    let labels_at = c.labels_at-x in
    spreading_more _ _ _ _ _ loop.invariant pre.3 loop-test.true labels_at.ensures _ _ c.links_of-links.ensures.0 c.links_of-links.ensures.1

pub returns : goal.returns
returns c =
    let pre = c.requires in
    let by-label = c.by_label-leaving in
    let by-label2 = c.by_label-arriving in
    let labels-used = c.labels_used-used in
    let loop = c.loop-v in
    spreading_end _ _ _ _ _ loop.invariant pre.0 by-label.ensures by-label2.ensures (λ u l. labels-used.ensures.hit _ (record { at = u; below = l; holds = refl })) c.loop-v-test.false
