-- `matching::calls::write_sheets` meets its contract.
use native.Mathlib.Omega.{arith}
use Rattle.matching.proofs.BookLaws.{walk_start, walk_fits, walk_next, written_start, written_end, writing_inside, writing_next, writing_most}
use Rattle.matching.proofs.calls.write_sheets.Goals as goal

pub loop-j-init : goal.loop-j-init
loop-j-init c = (walk_start c.requires.2, written_start _ _ _ _)

pub slice_bounds-write_from-count : goal.slice_bounds-write_from-count
slice_bounds-write_from-count c = omega (arith, writing_inside c.loop-j.invariant.0 _ _ c.loop-j.invariant.1 c.requires.3)

pub slice_bounds-write_from-start : goal.slice_bounds-write_from-start
slice_bounds-write_from-start c = omega (arith, writing_inside c.loop-j.invariant.0 _ _ c.loop-j.invariant.1 c.requires.3)

pub write_from-at-requires : goal.write_from-at-requires
write_from-at-requires c = (c.requires.0, c.requires.1, walk_fits c.loop-j.invariant.0 (omega (arith, c.loop-j-test)))

pub overflow_add-at : goal.overflow_add-at
overflow_add-at c = omega (arith, writing_most c.loop-j.invariant.0 _ _ c.loop-j.invariant.1 c.requires.3 (omega (arith, c.loop-j-test)) c.write_from-at.ensures)

pub overflow_add-o : goal.overflow_add-o
overflow_add-o c = omega (arith, walk_fits c.loop-j.invariant.0 (omega (arith, c.loop-j-test)))

pub loop-j-preserved : goal.loop-j-preserved
loop-j-preserved c = (walk_next c.loop-j.invariant.0 (omega (arith, c.loop-j-test)), writing_next c.loop-j.invariant.0 _ _ c.loop-j.invariant.1 c.requires.3 (omega (arith, c.loop-j-test)) c.write_from-at.ensures)

pub returns : goal.returns
returns c = written_end c.loop-j.invariant.0 (omega arith) c.loop-j.invariant.1
