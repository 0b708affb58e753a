-- `packed::record::load_rest` meets its contract.
use mathlib.Core.Path.{◌≡◌}
use mathlib.Core.List.{List}
use Prim.Native.Nat.{ℕ, ◌+◌, ◌*◌, ◌≤◌}
use lib.ListN.{length}
use Rattle.packed.specs.LoadedGraph.{EdgesJudged}
use Rattle.packed.proofs.record.load_rest.Given as goal

abbrev pub invariant-loop-k : goal.invariant-loop-k
invariant-loop-k l =
    (length l.work ≡ length l.initial.work) × (l.at ≡ l.start + 27 * l.k) × (l.k ≤ l.whole)
    × ((w₀ : List ℕ) → EdgesJudged l.s l.start l.nodes l.number w₀ l.initial.work l.bound l.first → EdgesJudged l.s l.start l.nodes l.number w₀ l.work l.least l.k)
