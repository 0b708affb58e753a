-- `engine::index::judge` meets its contract.
use native.Mathlib.Omega.{arith}
use Rattle.engine.proofs.OwnIndex.{judged_number, judged_position, judged_own}
use Rattle.engine.proofs.index.judge.Goals as goal

pub returns-then-index-entries : goal.returns-then-index-entries
returns-then-index-entries c = judged_number c.args.d c.args.n c.args.work.now c.args.index.now c.if-index-entries.true

pub returns-then-v-n : goal.returns-then-v-n
returns-then-v-n c = judged_position _ _ _ _ c.requires.0 c.if-index-entries.false c.firsts.ensures.firsts c.differs-v.ensures c.if-v-n.true

pub returns : goal.returns
returns c = judged_own _ _ _ _ c.requires.0 c.if-index-entries.false c.firsts.ensures.firsts c.differs-v.ensures (omega (arith, c.if-v-n.false))
