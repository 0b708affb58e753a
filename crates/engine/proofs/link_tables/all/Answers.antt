-- `engine::link_tables::all` meets its contract.
use native.Mathlib.Omega.{arith}
use Rattle.engine.proofs.MaskBits.{mask_none}
use Rattle.engine.proofs.RowLaws.{all_links}
use Rattle.engine.proofs.link_tables.all.Goals as goal

pub returns-then-m-eq0 : goal.returns-then-m-eq0
returns-then-m-eq0 c = mask_none (λ e l. let z = c.if-m-eq0.true in omega arith)

pub returns : goal.returns
returns c = all_links _ c.requires
