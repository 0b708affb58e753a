-- `packed::record::store_labels` meets its contract.
use mathlib.Core.Path.{◌∙◌, ap}
use Prim.Native.Nat.{ℕ}
use native.Mathlib.Omega.{arith}
use Rattle.packed.specs.Bits.{field}
use Rattle.packed.proofs.GraphLaws.{labels_more, labels_end}
use Rattle.packed.proofs.record.store_labels.Goals as goal

pub loop-v-preserved : goal.loop-v-preserved
loop-v-preserved c =
    let i = c.loop-v.invariant in
    (omega arith, labels_more i.1 (omega (arith, i.1.around.long, c.requires.2, c.loop-v-test.true)) (c.get_bits.ensures ∙ ap (λ (at : ℕ). field c.args.s.now at 32) (omega arith)))

pub returns : goal.returns
returns c =
    let i = c.loop-v.invariant in
    labels_end (omega (arith, i.0, c.loop-v-test.false)) i.1
