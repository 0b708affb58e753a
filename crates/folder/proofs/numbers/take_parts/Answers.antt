use Rattle.std.proofs.Common.{◌+◌, ◌*◌, arith}
use Rattle.folder.specs.Reading.{state}
use Rattle.folder.proofs.NumberLaws.{follows_none, follows_more, text_ends}
use Rattle.folder.proofs.numbers.take_parts.Goals as goal
use Rattle.folder.proofs.numbers.take_parts.Goals.{else-loop-test, then-loop-test+then-part}

pub loop-init : goal.loop-init
loop-init g c = follows_none _ _

pub loop-preserved : goal.loop-preserved
loop-preserved g c = follows_more _ _ _ _ _ _ c.loop.invariant c.take_part-part.ensures (omega arith)

pub returns : goal.returns
returns g c =
    let end = c.loop-test in
    elim end.branch [
      | else-loop-test w ↦
          text_ends _ _ (4096 * c.loop.counter) _ (state end.text end.out) _ c.empty-text.ensures
          (rw (w.text-is, w.out-is) c.loop.invariant)
          (omega arith)
          c.end.ensures
      | then-loop-test+then-part w ↦
          text_ends _ _ (4096 * (c.loop.counter + 1)) _ (state end.text end.out) _ c.empty-text.ensures
          (rw (w.text-is, w.out-is) (follows_more _ _ _ _ _ _ c.loop.invariant w.take_part-part.ensures (omega arith)))
          (omega arith)
          c.end.ensures
    ]
