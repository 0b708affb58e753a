-- `packed::matches::size_from` meets its contract.
use mathlib.Core.Path.{ap, ◌∙◌}
use Rattle.packed.specs.Contents.{sheet_length}
use Rattle.packed.proofs.matches.size_from.Goals as goal

pub returns : goal.returns
returns c = λ n w k. c.size_of.ensures ∙ ap (sheet_length c.args.m) (c.lengths-d.ensures.1 n w k).sum
