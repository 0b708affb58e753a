-- `bits::put_low` meets its contract.
use mathlib.Core.Path.{◌∙◌, refl}
use Prim.Native.Nat.{◌*◌}
use native.Mathlib.Omega.{arith}
use native.Mathlib.Nat.{sub_self, mod-lt}
use lib.Pow.{pow_pos}
use Rattle.packed.specs.Bits.{bits}
use Rattle.packed.proofs.BitFields.{pow_word, put_start, put_more, put_last}
use borrow.Author.Rules.{rules}
use Rattle.packed.proofs.bits.put_low.Goals as goal

pub loop-left-init : goal.loop-left-init
loop-left-init c = (search rules, search rules, refl, rw sub_self (put_start _ _ _))

pub loop-left-preserved : goal.loop-left-preserved
loop-left-preserved c =
    let a = c.args in
    let l = c.loop-left in (
      search rules,
      search rules,
      search rules,
      c.put_byte.ensures
          ∙ rw l.invariant.3 (put_more (bits a.out.now) (8 * a.q) a.n l.left (8 * l.p) a.v (omega arith) (omega arith) (omega arith)),
    )

pub put_chunk-requires : goal.put_chunk-requires
put_chunk-requires c =
    let left = c.loop-left.left in
    (omega arith, rw (pow_word left 32 (omega arith)) (mod-lt _ (pow_pos left)))

pub returns : goal.returns
returns c =
    let a = c.args in
    let l = c.loop-left in
    c.put_chunk.ensures
    ∙ rw (l.invariant.3, pow_word l.left 32 (omega arith)) (put_last (bits a.out.now) (8 * a.q) a.n l.left (8 * l.p) a.v (omega arith) (omega arith))
