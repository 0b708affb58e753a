-- `packed::field::read_field` meets its contract.
use mathlib.Core.Path.{refl}
use native.Mathlib.Omega.{arith}
use Rattle.packed.specs.Refusals.{wrong_number}
use Rattle.packed.proofs.ReadingLaws.{field_short, field_wrong, too_low, too_high}
use Rattle.packed.proofs.field.read_field.Goals as goal

pub returns-then-s-at : goal.returns-then-s-at
returns-then-s-at c =
    let a = c.args in
    λ f. record { number = field_short a.s.now a.at a.width a.low a.bound (wrong_number a.wrong) f (omega arith) (omega arith); detail = refl }

pub returns-then-v-low : goal.returns-then-v-low
returns-then-v-low c =
    let a = c.args in
    let v = c.get_bits-v.result in
    λ f. record {
      number = rw c.of.ensures.0 (field_wrong a.s.now a.at a.width a.low a.bound (wrong_number a.wrong) f v (omega arith) c.get_bits-v.ensures (too_low a.low a.bound v (omega arith)));
      detail = c.of.ensures.1;
    }

pub returns-then-bound-v : goal.returns-then-bound-v
returns-then-bound-v c =
    let a = c.args in
    let v = c.get_bits-v.result in
    λ f. record {
      number = rw c.of-then-bound-v.ensures.0 (field_wrong a.s.now a.at a.width a.low a.bound (wrong_number a.wrong) f v (omega arith) c.get_bits-v.ensures (too_high a.low a.bound v (omega arith)));
      detail = c.of-then-bound-v.ensures.1;
    }
