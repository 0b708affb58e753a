-- `packed::catalogue::read_views` meets its contract.
use mathlib.Core.Path.{refl, sym, ◌∙◌}
use native.Mathlib.Omega.{arith}
use Prim.Native.Nat.{◌*◌}
use Rattle.packed.specs.declared.reply.File.TheVariants.{Catalogue}
use Rattle.packed.specs.declared.reply.Refusal.TheVariants.{Trailing}
use Rattle.packed.proofs.Passing.{err_is}
use Rattle.packed.proofs.ReadingLaws.{same_at, reads, refused, pads, ends_dirty}
use Rattle.packed.proofs.Closing.{next_byte}
use Rattle.packed.proofs.Patterns.{catalogue_starts, tails_bytes_up_to}
use Rattle.packed.proofs.catalogue.read_views.Goals as goal

pub returns-in_err-number : goal.returns-in_err-number
returns-in_err-number c =
    let a = c.args in
    let p = c.in_err-number.ensures in
    rw (err_is c.from_residual.result c.from_residual.ensures.1) (refused (catalogue_starts a.s.now 0 a.words.now 0 (omega arith)) (p _))

pub returns-then-is_clear : goal.returns-then-is_clear
returns-then-is_clear c =
    let a = c.args in
    let p = c.in_ok-number.ensures in
    let r = reads (catalogue_starts a.s.now 0 a.words.now 0 (omega arith)) p in
    tails_bytes_up_to 0 1 (114 * c.in_ok-number.number) 1825 _ c.read_patterns.result _ refl
    (same_at (sym (next_byte 5)) refl (pads (sym c.is_clear.ensures ∙ c.if-is_clear.true) r)) c.read_patterns.ensures (omega (arith, p.most))

pub returns-else-is_clear : goal.returns-else-is_clear
returns-else-is_clear c =
    let a = c.args in
    let p = c.in_ok-number.ensures in
    let r = reads (catalogue_starts a.s.now 0 a.words.now 0 (omega arith)) p in
    ends_dirty (Trailing Catalogue) (sym c.is_clear.ensures ∙ c.if-is_clear.false) refl r
