-- `packed::pattern::write_pattern` meets its contract.
use mathlib.Core.Path.{refl, sym}
use native.Mathlib.Omega.{arith}
use Rattle.packed.specs.Format.{done, pad}
use Rattle.packed.specs.Formats.{pattern}
use Rattle.packed.proofs.Passing.{err_is}
use Rattle.packed.proofs.WritingLaws.{same_to, parts, parts_rejected, fills}
use Rattle.packed.proofs.Closing.{next_byte}
use Rattle.packed.proofs.Patterns.{whole_begins}
use Rattle.packed.proofs.pattern.write_pattern.Goals as goal

pub returns-in_err-at : goal.returns-in_err-at
returns-in_err-at c =
    let pre = c.requires in
    let a = c.args in
    rw (err_is c.from_residual.result c.from_residual.ensures.1) (parts_rejected pattern (pad done) (whole_begins a.words.now a.first a.out.now 0 pre pattern) c.in_err-at.ensures)

pub returns : goal.returns
returns c =
    let pre = c.requires in
    let write-padding = c.write_padding-byte in
    let a = c.args in
    let q = c.in_ok-at.ensures in
    let r = parts pattern (pad done) (whole_begins a.words.now a.first a.out.now 0 pre pattern) q.0 in
    (same_to refl (sym write-padding.ensures.0) (fills write-padding.ensures.1 r), omega (arith, q.1, write-padding.ensures.0, next_byte c.in_ok-at.at))
