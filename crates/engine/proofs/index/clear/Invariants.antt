-- `engine::index::clear` meets its contract.
use mathlib.Core.Path.{◌≡◌}
use Rattle.engine.proofs.IndexLaws.{Entering}
use Rattle.engine.proofs.index.clear.Given as goal

abbrev pub invariant-loop-v : goal.invariant-loop-v
invariant-loop-v l = Entering l.n (λ u k. k ≡ 0) l.initial.first l.first l.v
