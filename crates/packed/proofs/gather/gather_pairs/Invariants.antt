-- `packed::gather::gather_pairs` meets its contract.
use Rattle.packed.specs.Walks.{codes_on}
use Rattle.packed.proofs.Gathering.{Walked}
use Prim.Native.Nat.{◌≤◌}
use Rattle.packed.proofs.gather.gather_pairs.Given as goal

abbrev pub invariant-loop-i : goal.invariant-loop-i
invariant-loop-i l = Walked (codes_on l.s l.first l.n 0) l.initial.sofar l.initial.work (codes_on l.s l.first l.n l.i) l.sofar l.work × (l.i ≤ l.n)
