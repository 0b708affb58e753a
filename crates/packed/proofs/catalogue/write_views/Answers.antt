-- `packed::catalogue::write_views` meets its contract.
use mathlib.Core.Path.{refl, sym}
use native.Mathlib.Omega.{arith}
use Prim.Native.Nat.{◌*◌}
use Rattle.packed.proofs.Passing.{err_is}
use Rattle.packed.proofs.WritingLaws.{same_to, writes, rejected, fills, closes_bytes}
use Rattle.packed.proofs.Closing.{next_byte}
use Rattle.packed.proofs.Patterns.{catalogue_begins}
use Rattle.packed.proofs.catalogue.write_views.Goals as goal

pub returns-in_err-number : goal.returns-in_err-number
returns-in_err-number c =
    let a = c.args in
    let p = c.in_err-number.ensures in
    rw (err_is c.from_residual.result c.from_residual.ensures.1) (rejected (catalogue_begins a.words.now 0 a.out.now 0 (omega arith)) (p _))

pub write_patterns-requires : goal.write_patterns-requires
write_patterns-requires c =
    let write-padding = c.write_padding-byte in
    let p = c.in_ok-number.ensures in
    (omega (arith, p.there), omega (arith, p.most), omega (arith, next_byte 5, write-padding.ensures.0))

pub returns : goal.returns
returns c =
    let a = c.args in
    let p = c.in_ok-number.ensures in
    let r = writes (catalogue_begins a.words.now 0 a.out.now 0 (omega arith)) p in
    let t = c.write_padding-byte.ensures in
    closes_bytes 0 c.write_padding-byte.result (56 * c.in_ok-number.number) 897 _ c.write_patterns.result _ refl
    (same_to refl (sym t.0) (fills t.1 r)) c.write_patterns.ensures (omega (arith, p.most, next_byte 5, t.0))
