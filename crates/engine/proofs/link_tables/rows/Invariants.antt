-- `engine::link_tables::rows` meets its contract.
use lib.ListN.{get_or}
use Rattle.engine.proofs.Filling.{Filling}
use Rattle.engine.specs.Rows.{RowOf}
use Rattle.engine.proofs.link_tables.rows.Given as goal

abbrev pub invariant-loop-e : goal.invariant-loop-e
invariant-loop-e l = Filling 0 l.m (λ j x. RowOf l.b l.m (get_or l.a j 0) x) l.initial.t l.t l.e
