-- `matching::asking::views_with` meets its contract.
use native.Mathlib.Omega.{arith}
use Rattle.matching.proofs.BookLaws.{walk_start, walk_fits, walk_next}
use Rattle.matching.proofs.AskLaws.{lists_start, lists_next, lists_end}
use Rattle.matching.proofs.asking.views_with.Goals as goal

pub loop-j-init : goal.loop-j-init
loop-j-init c = (walk_start c.requires, lists_start)

pub bits_from-has-requires : goal.bits_from-has-requires
bits_from-has-requires c = walk_fits c.loop-j.invariant.0 (omega (arith, c.loop-j-test))

pub lists_all-full-requires : goal.lists_all-full-requires
lists_all-full-requires c = walk_fits c.loop-j.invariant.0 (omega (arith, c.loop-j-test))

pub overflow_add-o : goal.overflow_add-o
overflow_add-o c = omega (arith, walk_fits c.loop-j.invariant.0 (omega (arith, c.loop-j-test)))

pub loop-j-preserved : goal.loop-j-preserved
loop-j-preserved c = (walk_next c.loop-j.invariant.0 (omega (arith, c.loop-j-test)), lists_next c.loop-j.invariant.0 c.loop-j.invariant.1 c.bits_from-has.ensures c.lists_all-full.ensures c.only_if-set.ensures)

pub returns : goal.returns
returns c = lists_end c.loop-j.invariant.0 (omega arith) c.loop-j.invariant.1
