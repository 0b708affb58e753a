-- `packed::record::load_eight` meets its contract. The invariant: j edges more were read.
use Prim.Native.Nat.{◌+◌, ◌*◌, ◌≤◌}
use Rattle.packed.specs.LoadedGraph.{MoreJudged}
use Rattle.packed.proofs.record.load_eight.Given as goal

abbrev pub invariant-loop-j : goal.invariant-loop-j
invariant-loop-j l = (l.j ≤ 8) × MoreJudged l.s (8 * l.byte + 3) l.nodes l.j l.least l.initial.work l.k l.next l.work
