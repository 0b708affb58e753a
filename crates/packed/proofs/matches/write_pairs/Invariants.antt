-- `packed::matches::write_pairs` meets its contract. The invariant: the first i pairs were put.
use Prim.Native.Nat.{◌≤◌}
use Rattle.packed.proofs.ScatterLaws.{Scattering}
use Rattle.packed.proofs.matches.write_pairs.Given as goal

abbrev pub invariant-loop-i : goal.invariant-loop-i
invariant-loop-i l = (l.i ≤ l.n) × Scattering l.o l.i l.m l.work l.initial.places l.initial.out l.places l.out
