-- `containment::query::load_ranks` meets its contract.
use Prim.Native.Nat.{◌≤◌}
use Rattle.packed.specs.Contents.{ranks}
use Rattle.containment.specs.Steps.{edges_but, RanksFront}
use Rattle.containment.proofs.query.load_ranks.Given as goal

abbrev pub invariant-loop-e : goal.invariant-loop-e
invariant-loop-e l = (l.k ≤ l.e) × RanksFront (ranks (edges_but l.p.from l.p.to l.p.kind l.skip l.e)) l.k l.work
