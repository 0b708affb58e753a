use Rattle.engine.proofs.TableLaws.{left_all, left_some}
use Rattle.engine.proofs.sweeps.without.Goals as goal

pub returns-then-miss-eq0 : goal.returns-then-miss-eq0
returns-then-miss-eq0 c = left_all _ _ _ c.if-miss-eq0.true

pub returns : goal.returns
returns c = left_some _ _ _ _ c.if-miss-eq0.false c.look_up-gone.ensures
