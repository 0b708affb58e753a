-- `matching::candidates::take_list` meets its contract.
use Rattle.matching.proofs.Taking.{taking_in, taking_more, taking_end}
use Rattle.matching.proofs.candidates.take_list.Goals as goal

pub reach-end-requires : goal.reach-end-requires
reach-end-requires c =
    let loop = c.loop-k in
    let loop-test = c.loop-k-test in
    let pair-at = c.pair_at-code in
    (loop.invariant.rest.pool, taking_in loop.invariant loop-test.true pair-at.ensures.0)

pub loop-k-preserved : goal.loop-k-preserved
loop-k-preserved c =
    let loop = c.loop-k in
    let loop-test = c.loop-k-test in
    let pair-at = c.pair_at-code in
    let reach = c.reach-end in
    let find = c.find-i in
    taking_more loop.invariant loop-test.true pair-at.ensures.0 reach.ensures find.ensures

pub returns : goal.returns
returns c = taking_end c.loop-k.invariant c.loop-k-test.false
