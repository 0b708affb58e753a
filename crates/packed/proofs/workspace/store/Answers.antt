-- `workspace::store` meets its contract.
use mathlib.Core.Path.{sym}
use native.Mathlib.Omega.{arith}
use lib.Seq.{set_out}
use Rattle.packed.proofs.workspace.store.Goals as goal

pub returns-else-i-words : goal.returns-else-i-words
returns-else-i-words c = let a = c.args in sym (set_out a.words.now a.i a.v (omega arith))
