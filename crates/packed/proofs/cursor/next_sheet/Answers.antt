-- `packed::cursor::next_sheet` meets its contract.
use mathlib.Core.Path.{ap, ◌∙◌}
use Prim.Native.Nat.{ℕ, ◌*◌}
use native.Mathlib.Omega.{arith}
use Rattle.packed.proofs.Closing.{next_byte}
use Rattle.packed.proofs.cursor.next_sheet.Goals as goal

pub returns : goal.returns
returns c = (ap (λ (b : ℕ). 8 * b) c.byte_after.ensures ∙ next_byte _, omega (arith, c.byte_after.ensures))
