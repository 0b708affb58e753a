-- `engine::link_tables::asked` meets its contract.
use mathlib.Core.Path.{◌∙◌, ap, sym}
use Rattle.engine.specs.Matched.{rule_of}
use Rattle.engine.proofs.SimLaws.{not_both}
use Rattle.engine.proofs.MaskBits.{mask_none}
use Rattle.engine.proofs.PartLaws.{between_links}
use Rattle.engine.proofs.link_tables.asked.Goals as goal

pub returns-then-both : goal.returns-then-both
returns-then-both c = between_links _ _ c.all-upto.ensures c.all-before.ensures (ap rule_of c.if-both.true)

pub returns : goal.returns
returns c = mask_none (λ e h. not_both (sym (ap rule_of c.if-both.false) ∙ h.0))
