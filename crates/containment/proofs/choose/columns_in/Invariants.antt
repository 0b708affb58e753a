-- `containment::choose::columns_in` meets its contract.
use Rattle.containment.proofs.ColumnLaws.{Columned}
use Rattle.containment.proofs.choose.columns_in.Given as goal

abbrev pub invariant-loop-k : goal.invariant-loop-k
invariant-loop-k l = Columned l.set l.table l.k l.columns
