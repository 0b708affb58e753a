-- Match sets edge by edge, as the laws take them.
use mathlib.Core.Bool.{cond}
use mathlib.Core.List.{List, []}
use Rattle.engine.specs.Simulation.{Pair, Edge, Pattern, Graph, sim, total, row}

-- the edges of G that are listed under the edge e of P: none where some node of P has no partner
unfoldable pub row_of : Pattern → Graph → Edge → List Pair
row_of P G e = cond (total P (sim P G)) (row G (sim P G) e) []
