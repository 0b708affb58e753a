-- `engine::index::look` meets its contract.
use Prim.Native.Nat.{◌-◌}
use mathlib.Core.Path.{◌≡◌}
use Rattle.engine.specs.Worklist.{missed_by}
use Rattle.engine.proofs.index.look.Given as goal

abbrev pub invariant-loop-k : goal.invariant-loop-k
invariant-loop-k g l = l.miss ≡ missed_by g.F.Side.end (g.N.Side.number l.rev) l.work l.masks l.want l.a (l.k - l.a)
