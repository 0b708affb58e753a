-- `engine::turns::look_at` meets its contract.
use native.Mathlib.Omega.{arith}
use Rattle.packed.specs.Contents.{word_from, word_to}
use Rattle.engine.proofs.TurnLaws.{half_idle, both_turned}
use Rattle.engine.proofs.SideLaws.{leaving_sided, arriving_sided}
use Rattle.engine.proofs.turns.look_at.Goals as goal

pub returns-then-asked-eq0 : goal.returns-then-asked-eq0
returns-then-asked-eq0 c =
    let pre = c.requires in
    let look = c.look in
    let if1 = c.if-asked-eq0 in
    both_turned look.ensures (half_idle word_to word_from _ _ _ _ _ _ _ pre.0 if1.true)

pub look-requires : goal.look-requires
look-requires c =
    let pre = c.requires in
    let P = c.args.pairs.now.placed in
    (leaving_sided P.ends P.firsts, arriving_sided P.ends P.backs, pre.0, pre.1, pre.2, pre.3)

pub look-requires-2 : goal.look-requires-2
look-requires-2 c =
    let pre = c.requires in
    let A = c.look.ensures in
    let P = c.args.pairs.now.placed in
    (arriving_sided P.ends P.backs, leaving_sided P.ends P.firsts, pre.0, omega (arith, A.others_long, pre.2), omega (arith, A.long, pre.1), A.is_set pre.3)

pub returns : goal.returns
returns c = both_turned c.look.ensures c.look-2.ensures
