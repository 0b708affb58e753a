-- `packed::record::load_edges` meets its contract.
use mathlib.Core.Path.{◌≡◌}
use Prim.Native.Nat.{◌+◌, ◌*◌}
use lib.ListN.{length}
use Rattle.packed.specs.LoadedGraph.{EdgesJudged}
use Rattle.packed.proofs.record.load_edges.Given as goal

abbrev pub invariant-loop-eight : goal.invariant-loop-eight
invariant-loop-eight l = (length l.work ≡ length l.initial.work) × (8 * l.byte + 3 ≡ l.start + 27 * (8 * l.eight)) × EdgesJudged l.s l.start l.nodes l.number l.initial.work l.work l.least (8 * l.eight)
