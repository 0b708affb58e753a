-- `packed::cursor::field_or` meets its contract.
use mathlib.Core.Path.{◌∙◌, sym}
use native.Mathlib.Omega.{arith}
use lib.Pow.{pow_pos}
use Rattle.packed.proofs.BitsLaws.{field_lt}
use Rattle.packed.proofs.Walks.{field_or_in, field_or_out}
use Rattle.packed.proofs.cursor.field_or.Goals as goal

pub returns-then-at-n : goal.returns-then-at-n
returns-then-at-n c =
    let a = c.args in
    let e = c.get_bits.ensures in
    (e ∙ sym (field_or_in a.s.now a.at a.n c.if-at-n.true), rw e (field_lt a.s.now a.at a.n a.n (omega arith)))

pub returns : goal.returns
returns c =
    let a = c.args in
    (sym (field_or_out a.s.now a.at a.n c.if-at-n.false), pow_pos a.n)
