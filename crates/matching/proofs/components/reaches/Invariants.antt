-- `matching::components::reaches` meets its contract.
use Rattle.matching.specs.Stepping.{ReachedFrom}
use Rattle.engine.proofs.Filling.{Filling}
use Rattle.matching.proofs.components.reaches.Given as goal

abbrev pub invariant-loop-u : goal.invariant-loop-u
invariant-loop-u l = Filling 0 l.n (ReachedFrom l.q) l.initial.t l.t l.u
