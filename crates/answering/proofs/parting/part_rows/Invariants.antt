-- `answering::parting::part_rows` meets its contract.
use mathlib.Core.Path.{◌≡◌}
use Prim.Native.Nat.{◌*◌, ◌≤◌}
use Rattle.matching.specs.Part.{rank}
use Rattle.answering.specs.Parting.{Picked, in_rows}
use Rattle.answering.proofs.parting.part_rows.Given as goal

abbrev pub invariant-loop-k : goal.invariant-loop-k
invariant-loop-k l = (l.k ≤ 16 * l.m) × (l.j ≤ l.k) × (l.j ≡ rank (in_rows l.taken) l.k) × Picked (in_rows l.taken) l.table l.k l.rows
