-- `packed::sheet::write_sheet` meets its contract.
use native.Mathlib.Omega.{arith}
use mathlib.Core.Path.{refl, sym}
use Rattle.packed.specs.Formats.{sheet}
use Rattle.packed.proofs.Passing.{err_is}
use Rattle.packed.proofs.BitsLaws.{gap_small}
use Rattle.packed.proofs.WritingLaws.{same_to, fills}
use Rattle.packed.proofs.Sheets.{whole_accepted, whole_rejected}
use Rattle.packed.proofs.sheet.write_sheet.Goals as goal

pub returns-in_err-at : goal.returns-in_err-at
returns-in_err-at c =
    let args = c.args in
    let pre = c.requires in
    rw (err_is c.from_residual.result c.from_residual.ensures.1) (whole_rejected (sheet args.m) pre.0 c.in_err-at.ensures)

pub returns : goal.returns
returns c =
    let args = c.args in
    let pre = c.requires in
    let write-padding = c.write_padding-byte in
    let q = c.in_ok-at.ensures in
    let p = write-padding.ensures in
    (same_to refl (sym p.0) (fills p.1 (whole_accepted (sheet args.m) pre.0 q.0)), omega (arith, q.1, pre.1, p.0, gap_small c.in_ok-at.at))
