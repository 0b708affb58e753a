-- `containment::query::label_fields` meets its contract.
use mathlib.Core.List.{[]}
use Rattle.containment.specs.Steps.{label_fields}
use Rattle.containment.proofs.FieldLaws.{front_none}
use Rattle.containment.proofs.query.label_fields.Goals as goal

pub returns : goal.returns
unfolding label_fields
returns c =
    let no_words = c.no_words in
    let with_two = c.with_two-counts in
    c.with_labels.ensures _ (with_two.ensures [] (front_none no_words.ensures))
