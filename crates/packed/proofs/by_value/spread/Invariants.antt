-- `packed::by_value::spread` meets its contract. The invariant: the first j words are there.
use Prim.Native.Nat.{◌≤◌}
use Rattle.packed.specs.ByValue.{Spread}
use Rattle.packed.proofs.by_value.spread.Given as goal

abbrev pub invariant-loop-j : goal.invariant-loop-j
invariant-loop-j g l = (l.j ≤ l.n) × Spread l.words l.first l.step l.j g.row.N l.l
