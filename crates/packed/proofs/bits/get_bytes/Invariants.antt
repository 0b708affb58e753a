-- `bits::get_bytes` meets its contract. The invariant: v is the number of the first i bytes.
use mathlib.Core.Path.{◌≡◌}
use Prim.Native.Nat.{◌≤◌, ◌*◌}
use Rattle.packed.specs.Bits.{field}
use Rattle.packed.proofs.bits.get_bytes.Given as goal

abbrev pub invariant-loop-i : goal.invariant-loop-i
invariant-loop-i l = (l.i ≤ l.k) × (l.v ≡ field l.s (8 * l.q) (8 * l.i))
