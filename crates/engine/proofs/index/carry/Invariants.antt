-- `engine::index::carry` meets its contract.
use Rattle.engine.proofs.IndexLaws.{Carrying}
use Rattle.engine.proofs.index.carry.Given as goal

abbrev pub invariant-loop-v : goal.invariant-loop-v
invariant-loop-v l = Carrying l.n l.initial.first l.first l.most l.v
