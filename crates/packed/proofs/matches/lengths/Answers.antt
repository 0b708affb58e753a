-- `packed::matches::lengths` meets its contract.
use mathlib.Core.Path.{refl, sym, ◌∙◌}
use native.Mathlib.Omega.{arith}
use Rattle.packed.proofs.ByValueLaws.{nothing_at}
use Rattle.packed.proofs.MatchLaws.{part_few, lengths_none, lengths_all}
use Rattle.packed.proofs.matches.lengths.Goals as goal

pub returns-then-is_none : goal.returns-then-is_none
returns-then-is_none c =
    (λ e. omega (arith, nothing_at 32 e), λ n w k. lengths_none c.counts_from-d.ensures c.requires.0 (sym c.is_none.ensures ∙ c.if-is_none.true) refl k)

pub returns : goal.returns
returns c =
    let p = c.counts_from-d.ensures in
    (part_few p c.requires.1, λ n w k. lengths_all p c.requires.0 (sym c.is_none.ensures ∙ c.if-is_none.false) k)
