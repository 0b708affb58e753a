-- `packed::sheet::node_at` meets its contract.
use mathlib.Core.Path.{refl}
use native.Mathlib.Omega.{arith}
use Rattle.packed.proofs.ReadingLaws.{too_high}
use Rattle.packed.proofs.WritingLaws.{field_none, field_bad}
use Rattle.packed.proofs.sheet.node_at.Goals as goal

pub returns-then-words-i : goal.returns-then-words-i
returns-then-words-i c = λ at f. record { number = field_none c.args.words.now c.args.i at 12 0 4096 3 f (omega arith); detail = refl }

pub returns-then-v-ge-NODES : goal.returns-then-v-ge-NODES
returns-then-v-ge-NODES c = λ at f. record { number = field_bad c.args.words.now c.args.i at 12 0 4096 3 f (omega arith) (too_high 0 4096 _ (omega arith)); detail = refl }
