-- `matching::components::next` meets its contract.
use native.Mathlib.Omega.{arith}
use Rattle.matching.proofs.ReachLaws.{passed_more, next_found, next_none}
use Rattle.matching.proofs.components.next.Goals as goal

pub returns-then-bar-eq0 : goal.returns-then-bar-eq0
returns-then-bar-eq0 c = next_found c.args.t.now c.args.components.now c.args.n c.args.settled c.loop-u.u c.loop-u-test.true c.if-bar-eq0.true

pub loop-u-preserved : goal.loop-u-preserved
loop-u-preserved c = (omega arith, passed_more c.args.t.now c.args.components.now c.args.n c.args.settled c.loop-u.u c.loop-u.invariant.1 c.if-bar-eq0.false)

pub returns : goal.returns
returns c = next_none c.args.t.now c.args.components.now c.args.n c.args.settled c.loop-u.u c.loop-u-test.false c.loop-u.invariant.1
