-- `engine::link_tables::table` meets its contract.
use Rattle.engine.proofs.Filling.{Filling}
use Rattle.engine.specs.Rows.{WordOf}
use Rattle.engine.proofs.link_tables.table.Given as goal

abbrev pub invariant-loop-i : goal.invariant-loop-i
invariant-loop-i l = Filling 0 l.most (λ j x. WordOf l.each j x) l.initial.t l.t l.i
