use Rattle.std.proofs.Common.{◌∙◌}
use Rattle.folder.proofs.NumberLaws.{steps_more, steps_end}
use Rattle.folder.proofs.numbers.take.Goals as goal

pub loop-byte-preserved : goal.loop-byte-preserved
loop-byte-preserved c = steps_more _ _ _ _ c.loop-byte-test.true c.next-text.ensures ∙ c.loop-byte.invariant

pub returns : goal.returns
returns c = steps_end _ _ _ c.loop-byte-test.false ∙ c.loop-byte.invariant
