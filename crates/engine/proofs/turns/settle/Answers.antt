-- `engine::turns::settle` meets its contract.
use native.Mathlib.Omega.{arith}
use Rattle.engine.proofs.TurnLaws.{turning_more, turning_less, turning_end}
use Rattle.engine.proofs.turns.settle.Goals as goal

pub loop-rule-smaller : goal.loop-rule-smaller
loop-rule-smaller c =
    let pre = c.requires in
    let loop = c.loop-rule in
    let take = c.take-v in
    let if1 = c.if-v-ge4096 in
    let look_at = c.look_at in
    turning_less loop.invariant take.ensures look_at.ensures c.args.pairs.now.placed.nodes (omega (arith, if1.false)) (λ k. (c.slice_known-in-loop-rule-4-1.given k).fits)

pub loop-rule-preserved : goal.loop-rule-preserved
loop-rule-preserved c =
    let pre = c.requires in
    let loop = c.loop-rule in
    let take = c.take-v in
    let look_at = c.look_at in
    turning_more loop.invariant take.ensures look_at.ensures c.args.pairs.now.placed.nodes

pub returns : goal.returns
returns c =
    let pre = c.requires in
    let loop = c.loop-rule in
    let take = c.take-v in
    turning_end loop.invariant take.ensures c.args.pairs.now.placed.nodes (omega (arith, c.if-v-ge4096.true))
