-- `bits::get_bytes` meets its contract.
use mathlib.Core.Path.{◌≡◌, sym, ◌∙◌}
use Prim.Native.Nat.{◌+◌, ◌*◌}
use native.Mathlib.Omega.{arith}
use Rattle.packed.proofs.BitsLaws.{field_lt}
use Rattle.packed.proofs.BitFields.{field_none, field_bytes}
use Rattle.packed.proofs.bits.get_bytes.Goals as goal

pub loop-i-init : goal.loop-i-init
loop-i-init c = (omega arith, sym (field_none c.args.s.now (8 * c.args.q)))

pub overflow_mul-v : goal.overflow_mul-v
overflow_mul-v c =
    let a = c.args in
    let i = c.loop-i.i in
    omega (arith, field_lt a.s.now (8 * a.q) (8 * i) 32 (omega arith))

pub overflow_add-v : goal.overflow_add-v
overflow_add-v c =
    let a = c.args in
    let i = c.loop-i.i in
    omega (arith, field_lt a.s.now (8 * a.q) (8 * i) 32 (omega arith), c.shared_slice_known-in-loop-i-1.given (a.q + i))

pub loop-i-preserved : goal.loop-i-preserved
loop-i-preserved c =
    let a = c.args in
    let i = c.loop-i.i in
    (omega arith, rw (c.loop-i.invariant.1, c.wide.ensures) (sym (field_bytes a.s.now a.q i (omega arith) (omega (arith, c.shared_slice_known-in-loop-i-1.given (a.q + i))))))

pub returns : goal.returns
returns c =
    let a = c.args in
    let e : c.loop-i.i ≡ a.k = omega arith in
    c.loop-i.invariant.1 ∙ rw e
