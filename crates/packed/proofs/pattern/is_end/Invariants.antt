-- `packed::pattern::is_end` meets its contract.
use mathlib.Core.Path.{◌≡◌}
use Prim.Native.Nat.{◌*◌}
use lib.ListN.{drop}
use Rattle.packed.specs.Formats.{is_end}
use Rattle.packed.proofs.pattern.is_end.Given as goal

abbrev pub invariant-loop-e : goal.invariant-loop-e
invariant-loop-e l = is_end l.x l.edges ≡ is_end l.x (drop (3 * l.e) l.edges)
