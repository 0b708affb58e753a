-- `packed::cursor::list_at` meets its contract.
use mathlib.Core.Path.{refl}
use native.Mathlib.Omega.{arith}
use Rattle.packed.specs.Walks.{list_end}
use Rattle.packed.proofs.cursor.list_at.Goals as goal

pub returns : goal.returns
unfolding list_end
returns c = let e = c.field_or-count.ensures in record { first = refl; count = e.0; next = omega (arith, e.0); few = e.1; near = omega (arith, e.1) }
