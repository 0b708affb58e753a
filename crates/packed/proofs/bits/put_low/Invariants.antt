-- `bits::put_low` meets its contract. The invariant: all but the bits left are written, up to the byte p.
use mathlib.Core.Path.{◌≡◌}
use Prim.Native.Nat.{◌+◌, ◌*◌, ◌≤◌, ◌-◌, ◌/◌, ◌^◌}
use lib.ListN.{length}
use lib.Seq.{sets}
use Rattle.packed.specs.Bits.{bits, bits_of}
use Rattle.packed.proofs.bits.put_low.Given as goal

abbrev pub invariant-loop-left : goal.invariant-loop-left
invariant-loop-left l = (l.left ≤ l.n) × (8 * l.p + l.left ≡ 8 * l.q + l.n) × (length l.out ≡ length l.initial.out) × (bits l.out ≡ sets (bits l.initial.out) (8 * l.q) (bits_of (l.n - l.left) (l.v / 2 ^ l.left)))

abbrev pub decreases-loop-left : goal.decreases-loop-left
decreases-loop-left l = l.left
