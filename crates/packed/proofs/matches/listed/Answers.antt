-- `packed::matches::listed` meets its contract.
use mathlib.Core.Path.{sym, ap, ◌∙◌}
use mathlib.Core.Bool.{not, not-not}
use Rattle.packed.proofs.MatchLaws.{listed_none, listed_all}
use Rattle.packed.proofs.matches.listed.Goals as goal

pub returns-then-lists_all : goal.returns-then-lists_all
returns-then-lists_all c =
    let a = c.args in
    listed_all a.n a.m a.work.now (sym (not-not _) ∙ ap not (sym (c.lists_all.ensures _ _ c.named-x.ensures) ∙ c.if-lists_all.true))

pub returns : goal.returns
returns c =
    let a = c.args in
    listed_none a.n a.m a.work.now (sym (not-not _) ∙ ap not (sym (c.lists_all.ensures _ _ c.named-x.ensures) ∙ c.if-lists_all.false))
