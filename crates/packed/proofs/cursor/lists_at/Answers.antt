-- `packed::cursor::lists_at` meets its contract.
use mathlib.Core.Path.{ap, ◌∙◌}
use Prim.Native.Nat.{ℕ}
use Rattle.packed.specs.Formats.{standing}
use Rattle.packed.proofs.cursor.lists_at.Goals as goal

pub returns : goal.returns
returns c =
    let args = c.args in
    let field-or = c.field_or-lead in
    (c.standing.ensures.0 ∙ ap (λ (lead : ℕ). standing lead args.m) field-or.ensures.0, c.standing.ensures.1)
