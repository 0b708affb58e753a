-- `packed::record::load_one` meets its contract.
use native.Mathlib.Omega.{arith}
use Rattle.packed.proofs.Records.{rank_lt, more_refused, more_one}
use Rattle.packed.proofs.record.load_one.Goals as goal

pub returns-then-nodes-code : goal.returns-then-nodes-code
returns-then-nodes-code c =
    let pre = c.requires in
    more_refused _ _ _ _ _ _ _ pre.2 c.get_bits-rank.ensures c.if-nodes-code.true

pub word_of-requires : goal.word_of-requires
word_of-requires c = rank_lt _ _ _ c.get_bits-rank.ensures

pub overflow_add-result : goal.overflow_add-result
overflow_add-result c = omega (arith, rank_lt _ _ _ c.get_bits-rank.ensures)

pub returns : goal.returns
returns c =
    let pre = c.requires in
    more_one _ _ _ _ _ _ _ _ pre.2 pre.3 c.get_bits-rank.ensures c.word_of.ensures c.if-nodes-code.false
