-- `packed::matches::named` meets its contract. The invariant: the first i masks were looked at.
use Prim.Native.Nat.{◌≤◌}
use Rattle.packed.specs.Matches.{Named}
use Rattle.packed.proofs.matches.named.Given as goal

abbrev pub invariant-loop-i : goal.invariant-loop-i
invariant-loop-i l = (l.i ≤ l.n) × Named l.i l.work l.x
