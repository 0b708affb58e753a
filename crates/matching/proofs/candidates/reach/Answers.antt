-- `matching::candidates::reach` meets its contract.
use Rattle.matching.proofs.Taking.{beyond_here}
use Rattle.matching.proofs.candidates.reach.Goals as goal

pub returns-then-code-work : goal.returns-then-code-work
returns-then-code-work c =
    let pre = c.requires in
    let loop = c.loop-end in
    let loop-test = c.loop-end-test in
    beyond_here pre.0 loop.invariant.0 loop-test.true c.if-code-work.true
