-- `packed::sheet::read_sheet` meets its contract.
use mathlib.Core.Path.{refl, sym, ap, ◌∙◌}
use Prim.Native.Nat.{ℕ, ◌*◌}
use Rattle.packed.specs.Formats.{sheet}
use Rattle.packed.specs.declared.reply.File.TheVariants.{Sheet}
use Rattle.packed.specs.declared.reply.Refusal.TheVariants.{Trailing}
use Rattle.packed.proofs.Passing.{err_is}
use Rattle.packed.proofs.ReadingLaws.{same_at, pads, ends_dirty}
use Rattle.packed.proofs.Sheets.{whole_passes, whole_refused}
use Rattle.packed.proofs.Closing.{next_byte}
use Rattle.packed.proofs.sheet.read_sheet.Goals as goal

pub returns-in_err-at : goal.returns-in_err-at
returns-in_err-at c =
    let args = c.args in
    let pre = c.requires in
    rw (err_is c.from_residual.result c.from_residual.ensures.1) (whole_refused (sheet args.m) pre.inside c.in_err-at.ensures)

pub returns-then-is_clear : goal.returns-then-is_clear
returns-then-is_clear c =
    let args = c.args in
    let pre = c.requires in
    let is-clear = c.is_clear in
    let if1 = c.if-is_clear in
    let q = c.in_ok-at.ensures in
    same_at (sym (ap (λ (b : ℕ). 8 * b) c.byte_after.ensures ∙ next_byte _)) refl (pads (sym is-clear.ensures ∙ if1.true) (whole_passes (sheet args.m) pre.inside q))

pub returns-else-is_clear : goal.returns-else-is_clear
returns-else-is_clear c =
    let args = c.args in
    let pre = c.requires in
    let is-clear = c.is_clear in
    let q = c.in_ok-at.ensures in
    ends_dirty (Trailing Sheet) (sym is-clear.ensures ∙ c.if-is_clear.false) refl (whole_passes (sheet args.m) pre.inside q)
