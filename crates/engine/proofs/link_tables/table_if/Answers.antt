-- `engine::link_tables::table_if` meets its contract.
use mathlib.Core.Path.{subst}
use Prim.Native.Nat.{ℕ}
use Rattle.engine.specs.Masks.{Has}
use Rattle.engine.proofs.MaskBits.{none_has}
use Rattle.engine.proofs.link_tables.table_if.Goals as goal

pub returns-then-back-eq0 : goal.returns-then-back-eq0
returns-then-back-eq0 c = λ e h. absurd (none_has e (subst (λ (x : ℕ). Has x e) c.if-back-eq0.true h))
