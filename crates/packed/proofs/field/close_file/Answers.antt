-- `packed::field::close_file` meets its contract.
use mathlib.Core.Path.{refl, sym, ◌∙◌}
use native.Mathlib.Omega.{arith}
use Rattle.packed.proofs.Closing.{closes_ok, closes_tail, closes_dirty}
use Rattle.packed.proofs.field.close_file.Goals as goal

pub returns-then-byte-s : goal.returns-then-byte-s
returns-then-byte-s c = (λ F w w' r. closes_tail F r c.before.before.before.before.before.args.file (sym c.is_clear.ensures ∙ c.if-is_clear.true) (omega arith), tt)

pub returns-then-is_clear : goal.returns-then-is_clear
returns-then-is_clear c = (λ F w w' r. closes_ok F r (sym c.is_clear.ensures ∙ c.if-is_clear.true) (omega arith), refl)

pub returns : goal.returns
returns c = (λ F w w' r. closes_dirty F r c.before.before.before.before.args.file (sym c.is_clear.ensures ∙ c.if-is_clear.false), tt)
