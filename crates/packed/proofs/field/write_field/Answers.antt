-- `packed::field::write_field` meets its contract.
use mathlib.Core.Path.{refl}
use native.Mathlib.Omega.{arith}
use Rattle.packed.specs.Refusals.{wrong_number}
use Rattle.packed.proofs.ReadingLaws.{too_low, too_high}
use Rattle.packed.proofs.WritingLaws.{field_none, field_bad}
use Rattle.packed.proofs.field.write_field.Goals as goal

pub returns-then-words-i : goal.returns-then-words-i
returns-then-words-i c =
    let a = c.args in
    λ f. record { number = field_none a.words.now a.i a.at a.width a.low a.bound (wrong_number a.wrong) f (omega arith); detail = refl }

pub returns-then-v-low : goal.returns-then-v-low
returns-then-v-low c =
    let a = c.args in
    λ f. record {
      number = rw c.of.ensures.0 (field_bad a.words.now a.i a.at a.width a.low a.bound (wrong_number a.wrong) f (omega arith) (too_low a.low a.bound _ (omega arith)));
      detail = c.of.ensures.1;
    }

pub returns-then-bound-v : goal.returns-then-bound-v
returns-then-bound-v c =
    let a = c.args in
    λ f. record {
      number = rw c.of-then-bound-v.ensures.0 (field_bad a.words.now a.i a.at a.width a.low a.bound (wrong_number a.wrong) f (omega arith) (too_high a.low a.bound _ (omega arith)));
      detail = c.of-then-bound-v.ensures.1;
    }
