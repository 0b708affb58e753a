-- `matching::calls::keep_sizes` meets its contract.
use native.Mathlib.Omega.{arith}
use Rattle.matching.proofs.BookLaws.{walk_fits, walk_next, kept_next, kept_end}
use Rattle.matching.proofs.calls.keep_sizes.Goals as goal

pub size_from-requires : goal.size_from-requires
size_from-requires c = (walk_fits c.loop-j.invariant.0 (omega (arith, c.loop-j-test)), c.requires.1)

pub overflow_add-o : goal.overflow_add-o
overflow_add-o c = omega (arith, walk_fits c.loop-j.invariant.0 (omega (arith, c.loop-j-test)))

pub loop-j-preserved : goal.loop-j-preserved
loop-j-preserved c = (walk_next c.loop-j.invariant.0 (omega (arith, c.loop-j-test)), kept_next c.loop-j.invariant.0 (omega (arith, c.loop-j-test)) c.requires.2 c.loop-j.invariant.1 c.size_from.ensures)

pub returns : goal.returns
returns c = kept_end c.loop-j.invariant.0 (omega arith) c.loop-j.invariant.1
