-- `engine::turns::mark_by` meets its contract.
use Prim.Native.Nat.{◌≤◌}
use Rattle.engine.proofs.SetLaws.{MarkedRange}
use Rattle.engine.proofs.turns.mark_by.Given as goal

abbrev pub invariant-loop-k : goal.invariant-loop-k
invariant-loop-k g l =
    let start = g.F.Side.start l.pairs.first.now l.pairs.back.now in
    (start l.v ≤ l.k) × (l.k ≤ l.b) × MarkedRange g.N.Side.end l.pairs.work.now l.lost l.masks (g.F.Side.number l.pairs.rev.now) (start l.v) l.k l.initial.set l.set
