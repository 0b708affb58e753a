-- `packed::pattern::read_pattern` meets its contract.
use mathlib.Core.Path.{refl, sym, ◌∙◌}
use Rattle.packed.specs.Format.{done, pad}
use Rattle.packed.specs.Formats.{pattern}
use Rattle.packed.specs.declared.reply.Refusal.TheVariants.{Trailing}
use Rattle.packed.proofs.Passing.{err_is}
use Rattle.packed.proofs.ReadingLaws.{same_at, calls, calls_refused, pads, ends_dirty}
use Rattle.packed.proofs.Closing.{next_byte}
use Rattle.packed.proofs.Patterns.{whole_starts}
use Rattle.packed.proofs.pattern.read_pattern.Goals as goal

pub returns-in_err-at : goal.returns-in_err-at
returns-in_err-at c =
    let pre = c.requires in
    let a = c.args in
    rw (err_is c.from_residual.result c.from_residual.ensures.1) (calls_refused pattern (pad done) (whole_starts a.s.now _ a.words.now a.first pre.0.inside pattern) c.in_err-at.ensures)

pub returns-then-is_clear : goal.returns-then-is_clear
returns-then-is_clear c =
    let pre = c.requires in
    let is-clear = c.is_clear in
    let a = c.args in
    let q = c.in_ok-at.ensures in
    let r = calls pattern (pad done) (whole_starts a.s.now _ a.words.now a.first pre.0.inside pattern) q.0 in
    (same_at (sym (next_byte _)) refl (pads (sym is-clear.ensures ∙ c.if-is_clear.true) r), q.1)

pub returns-else-is_clear : goal.returns-else-is_clear
returns-else-is_clear c =
    let pre = c.requires in
    let is-clear = c.is_clear in
    let a = c.args in
    let q = c.in_ok-at.ensures in
    let r = calls pattern (pad done) (whole_starts a.s.now _ a.words.now a.first pre.0.inside pattern) q.0 in
    ends_dirty (Trailing a.file) (sym is-clear.ensures ∙ c.if-is_clear.false) refl r
