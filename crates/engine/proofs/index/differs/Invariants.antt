-- `engine::index::differs` meets its contract.
use Rattle.engine.proofs.OwnIndex.{Comparing}
use Rattle.engine.proofs.index.differs.Given as goal

abbrev pub invariant-loop-v : goal.invariant-loop-v
invariant-loop-v l = Comparing l.n l.own l.index l.v
