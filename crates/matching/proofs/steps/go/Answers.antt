-- `matching::steps::go` meets its contract.
use native.Mathlib.Omega.{arith}
use Rattle.matching.proofs.ComponentLaws.{steps_shut}
use Rattle.matching.proofs.ReachLaws.{given_ended, next_one, next_all}
use Rattle.matching.proofs.SteppingLaws.{gone_none, gone_more, gone_all, gone_end}
use Rattle.matching.proofs.steps.go.Goals as goal

pub loop-turn-init : goal.loop-turn-init
loop-turn-init c = gone_none _ c.requires.5 c.requires.7

pub returns-then-c-eq0 : goal.returns-then-c-eq0
returns-then-c-eq0 c =
    let pre = c.requires in
    let g = c.loop-turn.invariant in
    gone_all _ _ g (next_all pre.0 _ _ pre.1 pre.2 _ (steps_shut _ (given_ended pre.0) g.sequence) c.next-c.ensures c.if-c-eq0.true)

pub step-place-requires : goal.step-place-requires
step-place-requires c =
    let pre = c.requires in
    let o = next_one pre.0 _ _ pre.1 pre.2 _ c.next-c.ensures c.if-c-eq0.false in
    (pre.0, pre.3, pre.4, o.0, o.1, pre.6, c.loop-turn.invariant.prepared)

pub loop-turn-preserved : goal.loop-turn-preserved
loop-turn-preserved c =
    let pre = c.requires in
    let o = next_one pre.0 _ _ pre.1 pre.2 _ c.next-c.ensures c.if-c-eq0.false in
    gone_more _ _ c.loop-turn.invariant _ _ c.loop-turn-test.true o.0 c.step-place.ensures

pub returns : goal.returns
returns c = gone_end _ _ c.loop-turn.invariant (omega arith)
