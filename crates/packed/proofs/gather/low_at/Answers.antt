-- `packed::gather::low_at` meets its contract.
use mathlib.Core.Path.{refl}
use native.Mathlib.Nat.{mod-lt}
use Rattle.packed.proofs.Walks.{low_none}
use Rattle.packed.proofs.gather.low_at.Goals as goal

pub returns-then-i-words : goal.returns-then-i-words
returns-then-i-words c = (refl, mod-lt _ c.requires)

pub returns-else-i-words : goal.returns-else-i-words
returns-else-i-words c = (low_none c.args.words.now _ _ c.if-i-words.false c.requires, c.requires)
