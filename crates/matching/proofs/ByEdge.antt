-- Views and answers edge by edge, as the laws take them.
use mathlib.Core.Bool.{cond}
use mathlib.Core.List.{List, []}
use Rattle.engine.specs.Simulation.{Pair, Edge, Pattern, Graph, view_sheet}
use Rattle.matching.specs.Join.{View, join, complete, kept_for}

-- a view with its sheet on a graph
unfoldable pub view_of : Graph → Pattern → View
view_of G P = record { pattern = P; sheet = view_sheet P G }

-- the pairs kept for the edge e, or none where some edge keeps none
unfoldable pub answer_to : Pattern → List View → Edge → List Pair
answer_to Q vs e = cond (complete Q (join Q vs)) (kept_for (join Q vs) e) []
